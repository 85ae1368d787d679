use Rattle.std.proofs.Common.{rules, ◌≡◌, vec_items, sym, ap, ◌∙◌}
use Rattle.std.proofs.lemmas.Bool.{le-ltb, lt-ltb}
use Rattle.rules.specs.Lists.{any}
use Rattle.laws.specs.Book.{is_drawn}
use Rattle.std.proofs.lemmas.Fn.{filter_same}
use Rattle.slips.proofs.Slipping.{same_drawn, any_out}
use Rattle.slips.proofs.list.SlipList.give_back.Goals as goal
use Rattle.slips.proofs.list.SlipList.give_back.Goals.{After-contains}

out_is : (c : After-contains) → c.contains.result ≡ any (is_drawn c.args.slip.number c.args.slip.shares) (vec_items c.args.self.now.slips)
out_is c =
    c.contains.ensures.value
    ∙ (any_out c.args.slip.number c.args.slip.shares c.note-out.result c.note-out.ensures c.deref.result.now ∙ ap (any (is_drawn c.args.slip.number c.args.slip.shares)) c.deref.ensures.value)

pub returns-then-not-contains-clause-answer : goal.returns-then-not-contains-clause-answer
returns-then-not-contains-clause-answer c =
    let h = sym (out_is (goal.at.returns-then-not-contains-clause-answer c).After-contains) ∙ c.if-not-contains.true in rw h

pub returns-then-not-contains-clause-after : goal.returns-then-not-contains-clause-after
returns-then-not-contains-clause-after c =
    let h = sym (out_is (goal.at.returns-then-not-contains-clause-after c).After-contains) ∙ c.if-not-contains.true in rw h

pub returns-then-away-slip-clause-answer : goal.returns-then-away-slip-clause-answer
returns-then-away-slip-clause-answer c =
    let h = sym (out_is (goal.at.returns-then-away-slip-clause-answer c).After-contains) ∙ c.if-not-contains.false in rw (h, lt-ltb _ _ c.if-away-slip.true)

pub returns-clause-answer : goal.returns-clause-answer
returns-clause-answer c =
    let h = sym (out_is (goal.at.returns-clause-answer c).After-contains) ∙ c.if-not-contains.false in rw (h, le-ltb _ _ c.if-away-slip.false)

pub returns-clause-after : goal.returns-clause-after
returns-clause-after c =
    let h = sym (out_is (goal.at.returns-clause-after c).After-contains) ∙ c.if-not-contains.false in
    rw (h, le-ltb _ _ c.if-away-slip.false)
    (filter_same _ _ _ (λ x b f' k. search (rules, same_drawn c.args.slip.number c.args.slip.shares c.note-out.result c.note-out.ensures x)) _ _ c.retain.ensures.filtered)
