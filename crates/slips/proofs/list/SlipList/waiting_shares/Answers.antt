use Rattle.std.proofs.Common.{rules, tests, ◌≡◌, vec_items, ◌∙◌}
use Rattle.std.specs.Option.{option_map}
use Rattle.std.proofs.lemmas.Iterator.{YieldsList-from_slice}
use Rattle.std.proofs.lemmas.Iterator.Search.{find_from_yields_List}
use Rattle.laws.specs.Book.{is_waiting}
use Rattle.slips.proofs.Slipping.{shares_found}
use Rattle.slips.proofs.list.SlipList.waiting_shares.Goals as goal

pub returns : goal.returns
returns c =
    let p = is_waiting c.args.number in
    let told : c.map.result ≡ option_map (λ x. x.now.shares) c.find.result = search rules in
    told
    ∙ shares_found p (vec_items c.args.self.now.slips) c.find.result
    (find_from_yields_List p _ _ c.find.result c.find.ensures.ran (YieldsList-from_slice (vec_items c.args.self.now.slips) (cc)) (λ x b q k. search (rules, tests)))
