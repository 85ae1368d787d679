use Rattle.std.proofs.Common.{◌≡◌, ◌≤◌, ◌-◌, [], ◌∷◌, eqb, get_or, set, Some, None, vec_items, sym, ap, ◌∙◌, subst}
use Rattle.std.specs.List.{position, remove}
use Rattle.std.proofs.lemmas.List.{get_or_default}
use Rattle.std.proofs.lemmas.List.Quantifiers.{position-Some}
use Rattle.rules.specs.Rules.{after_fill, with_shares}
use Rattle.queues.proofs.Gives.{gives_part, gives_whole, other_fill}
use Rattle.queues.proofs.Places.{any_lacks, no_place, none_picked, some_place}
use Rattle.queues.proofs.queue.Queue.give.Goals as goal
use Rattle.queues.proofs.queue.Queue.give.Goals.{After-index, In_default}

nowhere : (c : In_default) → position (λ o. eqb o.number c.args.fill.number) (vec_items c.args.self.now) ≡ None
nowhere c = sym c.place_of.ensures ∙ c.in_default.is

somewhere : (c : After-index) → position (λ o. eqb o.number c.args.fill.number) (vec_items c.args.self.now) ≡ Some c.in-Some.place
somewhere c = sym c.place_of.ensures ∙ c.in-Some.is

-- the order that stands there
stands : (c : After-index) → c.index.result.now ≡ get_or (vec_items c.args.self.now) c.in-Some.place c.index.result.now
stands c = subst (λ l. c.index.result.now ≡ get_or (vec_items l) c.in-Some.place c.index.result.now) c.self.view_is c.index.ensures

pub returns-in_default-clause-here : goal.returns-in_default-clause-here
returns-in_default-clause-here c = sym (no_place (λ o. o.number) c.args.fill.number (vec_items c.args.self.now) (nowhere c))

pub returns-in_default-clause-items : goal.returns-in_default-clause-items
returns-in_default-clause-items c =
    let f = c.args.fill in
    let items = vec_items c.args.self.now in
    let none = any_lacks (λ o. o.number) f.number items (no_place (λ o. o.number) f.number items (nowhere c)) in
    sym (none_picked (λ o. o.number) f.number (λ o. 1 ≤ o.shares) (after_fill (f ∷ [])) (other_fill f) items c.requires.some none)

pub returns-then-index-fill-clause-here : goal.returns-then-index-fill-clause-here
returns-then-index-fill-clause-here c =
    let w = (goal.at.returns-then-index-fill-clause-here c).After-index in
    sym (some_place (λ o. o.number) c.args.fill.number (vec_items c.args.self.now) c.in-Some.place c.index.result.now (somewhere w))

pub returns-then-index-fill-clause-items : goal.returns-then-index-fill-clause-items
returns-then-index-fill-clause-items c =
    let w = (goal.at.returns-then-index-fill-clause-items c).After-index in
    c.remove.ensures.items
    ∙ (ap (λ l. remove (vec_items l) c.in-Some.place) c.self.view_is
    ∙ gives_whole c.args.fill (vec_items c.args.self.now) c.in-Some.place c.index.result.now (somewhere w) (stands w) c.requires.apart c.requires.some c.if-index-fill.true)

pub returns-else-index-fill-clause-here : goal.returns-else-index-fill-clause-here
returns-else-index-fill-clause-here c =
    let w = (goal.at.returns-else-index-fill-clause-here c).After-index in
    sym (some_place (λ o. o.number) c.args.fill.number (vec_items c.args.self.now) c.in-Some.place c.index.result.now (somewhere w))

pub returns-else-index-fill-clause-items : goal.returns-else-index-fill-clause-items
returns-else-index-fill-clause-items c =
    let w = (goal.at.returns-else-index-fill-clause-items c).After-index in
    let f = c.args.fill in
    let items = vec_items c.args.self.now in
    let i = c.in-Some.place in
    let o = c.index.result.now in
    let m = c.index_mut.result.now in
    let at : m ≡ get_or items i m = subst (λ l. m ≡ get_or (vec_items l) i m) c.self.view_is c.index_mut.ensures.value in
    let same : o ≡ m = stands w ∙ (get_or_default items i o m (position-Some (λ x. eqb x.number f.number) items i o (somewhere w)).0 ∙ sym at) in
    ap (λ l. set (vec_items l) i (with_shares m (m.shares - f.shares))) c.self.view_is
    ∙ (ap (λ x. set items i (with_shares x (x.shares - f.shares))) (sym same)
    ∙ gives_part f items i o (somewhere w) (stands w) c.requires.apart c.requires.some c.if-index-fill.false)
