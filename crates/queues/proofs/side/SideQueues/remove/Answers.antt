use Rattle.std.proofs.Common.{◌≡◌, vec_items, sym, ◌∙◌, arith}
use Rattle.rules.specs.Lists.{picked}
use Rattle.rules.proofs.Members.{all_of}
use Rattle.queues.specs.Queues.{unless_number}
use Rattle.queues.proofs.Gives.{apart_again, apart_fixed, apart_following, other_number, same_again, same_following}
use Rattle.queues.proofs.Keeps.{changed, unless_kept, unless_some}
use Rattle.queues.proofs.side.SideQueues.remove.Goals as goal
use Rattle.queues.proofs.side.SideQueues.remove.Goals.{Else-not-remove}

pub remove-requires : goal.remove-requires
remove-requires c = record { apart = apart_fixed c.args.self.now }

pub remove-requires-then-not-remove : goal.remove-requires-then-not-remove
remove-requires-then-not-remove c = record { apart = apart_following c.args.self.now }

pub remove-requires-then-not-remove-2 : goal.remove-requires-then-not-remove-2
remove-requires-then-not-remove-2 c = record { apart = apart_again c.args.self.now }

-- the order is not in the first queue
pub invariant_of-self : goal.invariant_of-self
invariant_of-self c =
    let r = changed (unless_number c.args.number) (unless_kept c.args.number) (unless_some c.args.number) c.args.self.now (vec_items c.remove.new.self) (vec_items c.remove-then-not-remove.new.self) (vec_items c.remove-then-not-remove-2.new.self)
    c.remove.ensures.items c.remove-then-not-remove.ensures.items c.remove-then-not-remove-2.ensures.items in
    record {
      lined = r.0;
      again = r.1;
      some = r.2;
      few = omega (arith, r.3, c.remove.new.self.ok, c.remove-then-not-remove.new.self.ok);
    }

-- it is there, and the others keep theirs
following_stays : (c : Else-not-remove) → vec_items c.args.self.now.following ≡ picked (unless_number c.args.number) (vec_items c.args.self.now.following)
following_stays c =
    same_following c.args.self.now (λ _. Unit {0}) (unless_number c.args.number) c.args.number (other_number c.args.number) (all_of (λ _. Unit {0}) (λ _. tt) (vec_items c.args.self.now.following)) (sym c.remove.ensures.here ∙ c.if-not-remove.false)

again_stays : (c : Else-not-remove) → vec_items c.args.self.now.by_offset ≡ picked (unless_number c.args.number) (vec_items c.args.self.now.by_offset)
again_stays c =
    same_again c.args.self.now (λ _. Unit {0}) (unless_number c.args.number) c.args.number (other_number c.args.number) (all_of (λ _. Unit {0}) (λ _. tt) (vec_items c.args.self.now.following)) (sym c.remove.ensures.here ∙ c.if-not-remove.false)

pub invariant_of-self-else-not-remove : goal.invariant_of-self-else-not-remove
invariant_of-self-else-not-remove c =
    let h = c.args.self.now in
    let r = changed (unless_number c.args.number) (unless_kept c.args.number) (unless_some c.args.number) h (vec_items c.remove.new.self) (vec_items h.following) (vec_items h.by_offset) c.remove.ensures.items (following_stays c) (again_stays c) in
    record {
      lined = r.0;
      again = h.again;
      some = r.2;
      few = omega (arith, r.3, c.remove.new.self.ok, h.following.ok);
    }

pub returns-else-not-remove-clause-following : goal.returns-else-not-remove-clause-following
returns-else-not-remove-clause-following c = following_stays (goal.at.returns-else-not-remove-clause-following c).Else-not-remove

pub returns-else-not-remove-clause-by_offset : goal.returns-else-not-remove-clause-by_offset
returns-else-not-remove-clause-by_offset c = again_stays (goal.at.returns-else-not-remove-clause-by_offset c).Else-not-remove
