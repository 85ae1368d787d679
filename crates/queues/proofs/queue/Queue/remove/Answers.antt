use Rattle.std.proofs.Common.{◌≡◌, eqb, Some, None, vec_items, sym, ap, ◌∙◌}
use Rattle.std.specs.List.{position, remove}
use Rattle.rules.proofs.Members.{all_of}
use Rattle.queues.specs.Queues.{unless_number}
use Rattle.queues.proofs.Gives.{other_number, takes_out}
use Rattle.queues.proofs.Places.{any_lacks, no_place, none_picked, some_place}
use Rattle.queues.proofs.queue.Queue.remove.Goals as goal
use Rattle.queues.proofs.queue.Queue.remove.Goals.{After-remove, In_default}

nowhere : (c : In_default) → position (λ o. eqb o.number c.args.number) (vec_items c.args.self.now) ≡ None
nowhere c = sym c.place_of.ensures ∙ c.in_default.is

somewhere : (c : After-remove) → position (λ o. eqb o.number c.args.number) (vec_items c.args.self.now) ≡ Some c.in-Some.place
somewhere c = sym c.place_of.ensures ∙ c.in-Some.is

pub returns-in_default-clause-here : goal.returns-in_default-clause-here
returns-in_default-clause-here c = sym (no_place (λ o. o.number) c.args.number (vec_items c.args.self.now) (nowhere c))

pub returns-in_default-clause-items : goal.returns-in_default-clause-items
returns-in_default-clause-items c =
    let n = c.args.number in
    let items = vec_items c.args.self.now in
    let none = any_lacks (λ o. o.number) n items (no_place (λ o. o.number) n items (nowhere c)) in
    sym (none_picked (λ o. o.number) n (λ _. Unit {0}) (unless_number n) (other_number n) items (all_of (λ _. Unit {0}) (λ _. tt) items) none)

pub returns-clause-here : goal.returns-clause-here
returns-clause-here c = sym (some_place (λ o. o.number) c.args.number (vec_items c.args.self.now) c.in-Some.place c.remove.result (somewhere c))

pub returns-clause-items : goal.returns-clause-items
returns-clause-items c =
    c.remove.ensures.items
    ∙ (ap (λ l. remove (vec_items l) c.in-Some.place) c.self.view_is
    ∙ takes_out c.args.number (vec_items c.args.self.now) c.in-Some.place c.remove.result (somewhere c) c.requires.apart)
