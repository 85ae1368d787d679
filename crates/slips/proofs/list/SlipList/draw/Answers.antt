use Rattle.std.proofs.Common.{◌≡◌, ◌++◌, ◌||◌, false, Bool, eqb, List, length, get_or, set, vec_items, map, drop, sym, ap, ◌∙◌, arith}
use Rattle.std.proofs.Math.Bool.{or-false}
use Rattle.std.proofs.lemmas.Bool.{eq-eqb, ne_eqb, or_right}
use Rattle.std.proofs.lemmas.List.{take_all, take_at, drop_all, append-nil, get_or_default}
use Rattle.std.proofs.lemmas.List.Edits.{map_over_more}
use Rattle.terms.specs.declared.orders.Slip.{Slip}
use Rattle.laws.specs.Book.{drawn_if}
use Rattle.slips.proofs.Slipping.{none_drawn, some_drawn}
use Rattle.slips.proofs.list.SlipList.draw.Goals as goal
use Rattle.slips.proofs.list.SlipList.draw.Goals.{then-slip-number, else-slip-number}

pub returns-in_err-shares-clause-after : goal.returns-in_err-shares-clause-after
returns-in_err-shares-clause-after c = none_drawn c.args.number (vec_items c.args.self.now.slips) (sym c.waiting_shares.ensures ∙ c.in_err-shares.ensures.ok_part)

pub loop-slip-preserved : goal.loop-slip-preserved
loop-slip-preserved c =
    let d : Slip = record { number = 0; shares = 0; drawn = false } in
    let n = c.args.number in
    let x = get_or c.loop-slip.slip-items c.loop-slip.slip-index d in
    let put : Bool → List Slip = λ b. set c.loop-slip.slip-items c.loop-slip.slip-index (record { number = x.number; shares = x.shares; drawn = b }) in
    let told : c.if-slip-number.slip-items ≡ put (x.drawn || eqb x.number n) = elim c.if-slip-number.branch [
      | then-slip-number w ↦ w.slip-items-is ∙ ap put (sym (or_right x.drawn (eqb x.number n) (eq-eqb x.number n w.if-slip-number.true)))
      | else-slip-number w ↦ w.slip-items-is ∙ ap put (sym (ap (λ b. x.drawn || b) (ne_eqb x.number n w.if-slip-number.false) ∙ or-false x.drawn))
    ] in
    told
    ∙ map_over_more (drawn_if n) c.deref_mut-slip-items.result.now c.loop-slip.slip-items c.loop-slip.slip-index x c.loop-slip-test.true c.loop-slip.invariant
    (get_or_default c.loop-slip.slip-items c.loop-slip.slip-index d x (omega (arith, c.loop-slip.auto.slip-items, c.loop-slip-test.true)))

pub returns-clause-after : goal.returns-clause-after
returns-clause-after c =
    let old = c.deref_mut-slip-items.result.now in
    let f = drawn_if c.args.number in
    let i = c.loop-slip.slip-index in
    let all : c.loop-slip.slip-items ≡ map f (vec_items c.args.self.now.slips) =
    c.loop-slip.invariant
    ∙ (ap (λ l. map f l ++ drop i old) (take_all i old c.loop-slip-test.false)
    ∙ (ap (λ l. map f old ++ l) (drop_all i old c.loop-slip-test.false) ∙ (append-nil (map f old) ∙ ap (map f) c.deref_mut-slip-items.ensures.value))) in
    take_at c.loop-slip.slip-items (drop (length c.loop-slip.slip-items) (vec_items c.args.self.now.slips)) c.args.self.now.slips.len (omega arith)
    ∙ (all ∙ some_drawn c.args.number (vec_items c.args.self.now.slips) (sym c.waiting_shares.ensures ∙ c.in_ok-shares.ensures.ok_part))
