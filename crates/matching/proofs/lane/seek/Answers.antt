use Rattle.std.proofs.Common.{◌≡◌, ◌∙◌, Bor, refl, subst, sym, rules}
use Rattle.std.proofs.lemmas.Fn.{serves_by}
use Rattle.matching.proofs.Seeks.{splits, ends}
use Rattle.matching.proofs.lane.seek.Goals as goal

pub find_map-requires-clause-callable : goal.find_map-requires-clause-callable
find_map-requires-clause-callable g c =
    serves_by _ (λ _ q. q ≡ c.args.counts) (λ xs q x w j r. r.met.1 ∙ j) _ _ _ _ refl
    (λ xs t q x u y e j. subst (λ (k : Bor g.row.F.Denot). g.F.Fn.pre k.now (x, tt)) (sym j) (c.requires.at (x, tt)))

pub returns : goal.returns
returns g c = λ f h.
    record {
      splits = splits f _ (λ x r q k. search rules) c.find_map.ensures.ran;
      ends = ends f _ (λ x r q k. search rules) _ c.find_map.ensures.ran c.find_map.ensures.runs;
    }
