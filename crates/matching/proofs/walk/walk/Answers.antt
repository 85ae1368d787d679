use Rattle.std.proofs.Common.{◌≡◌, ◌-◌, ◌∙◌, List, get_or, refl, set, subst, sym, arith, rules}
use Rattle.std.proofs.lemmas.List.{set-get_or}
use Rattle.terms.specs.declared.orders.Fill.{Fill}
use Rattle.rules.specs.Rules.{along}
use Rattle.matching.specs.Turns.{merged}
use Rattle.matching.specs.Walks.{Written}
use Rattle.matching.proofs.Walking.{walking_more, walked_out, walked_all, walked_full}
use Rattle.matching.proofs.walk.walk.Goals as goal
use Rattle.matching.proofs.walk.walk.Goals.{else-loop-place-test, then-loop-place-test+then-left-eq0, then-loop-place-test+else-left-eq0+in_default}

pub loop-place-preserved : goal.loop-place-preserved
loop-place-preserved g c = (
  search rules,
  search rules,
  search rules,
  omega (arith, c.loop-place.invariant.3),
  omega (arith, c.loop-place.invariant.4),
  λ xs ys zs h k.
      walking_more _ _ (c.loop-place.invariant.5 xs ys zs h k) c.in-Some.first c.take.new.self
      c.in-Some.ensures.turn (omega (arith, c.if-left-eq0.false)) c.min-given.result c.loop-place.place-index c.min-given.ensures c.loop-place.invariant.3,
)

pub returns : goal.returns
returns g c = λ xs ys zs h k.
    let l = c.loop-place in
    let w = l.invariant.5 xs ys zs h k in
    let shown = λ (out : List Fill). Written (along (merged c.args.customer xs ys zs) c.args.shares) c.args.out.now out record { fills = l.written; shares = c.args.shares - l.left } in
    let left = λ (is : c.loop-place-test.out ≡ set l.out l.place-index (get_or l.out l.place-index record { number = 0; price = 0; shares = 0 })) (done : shown l.out). subst shown (sym (is ∙ set-get_or l.out l.place-index _)) done in
    elim c.loop-place-test.branch [
      | else-loop-place-test b ↦ subst shown (sym b.out-is) (walked_full _ _ w (omega (arith, l.invariant.3, b.loop-place-test.false)) _ refl refl)
      | then-loop-place-test+then-left-eq0 b ↦ left b.out-is (walked_all _ _ w (omega (arith, b.if-left-eq0.true)) _ refl refl)
      | then-loop-place-test+else-left-eq0+in_default b ↦ left b.out-is (walked_out _ _ w (λ us vs ws d. (b.in_default.ensures.turn us vs ws d).turned.ends refl) _ refl refl)
    ]
