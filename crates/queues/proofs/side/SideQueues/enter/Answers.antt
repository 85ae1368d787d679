use Rattle.std.proofs.Common.{rules, ◌≡◌, vec_items, arith}
use Rattle.rules.specs.Lists.{insert}
use Rattle.queues.specs.Queues.{first_by_limit, first_by_offset}
use Rattle.queues.proofs.Enters.{room_again, entered_fixed, entered_following}
use Rattle.queues.proofs.Strictness.{by_limit_strict, by_offset_strict, sorted_again}
use Rattle.queues.proofs.Testing.{lined_from, some_present}
use Rattle.queues.proofs.side.SideQueues.enter.Goals as goal
use Rattle.queues.proofs.side.SideQueues.enter.Goals.{After-place, After-place-in-Some}

pub place-requires-in-Some-2-clause-few : goal.place-requires-in-Some-2-clause-few
place-requires-in-Some-2-clause-few c = room_again c.args.self.now c.requires.few

in_fixed : (c : After-place) → vec_items c.place.new.self ≡ insert (first_by_limit c.args.self.now.side) c.args.order (vec_items c.args.self.now.fixed)
in_fixed c =
    let h = c.args.self.now in
    c.place.ensures (first_by_limit h.side) (λ a b r k. search rules) (by_limit_strict h.side).trans (lined_from h.side (vec_items h.fixed) (vec_items h.following) (vec_items h.by_offset) h.lined h.again).first

in_following : (c : After-place-in-Some) → vec_items c.place-in-Some.new.self ≡ insert (first_by_limit c.args.self.now.side) c.args.order (vec_items c.args.self.now.following)
in_following c =
    let h = c.args.self.now in
    c.place-in-Some.ensures (first_by_limit h.side) (λ a b r k. search rules) (by_limit_strict h.side).trans (lined_from h.side (vec_items h.fixed) (vec_items h.following) (vec_items h.by_offset) h.lined h.again).second

pub invariant_of-self : goal.invariant_of-self
invariant_of-self c =
    let h = c.args.self.now in
    let r = entered_fixed h c.requires.few c.args.order c.requires.side c.requires.some c.requires.fresh (vec_items c.place.new.self) c.in-None.is (in_fixed c) in
    record {
      lined = r.0;
      again = h.again;
      some = r.1;
      few = omega (arith, r.2, c.place.new.self.ok, h.following.ok);
    }

pub invariant_of-self-in-Some : goal.invariant_of-self-in-Some
invariant_of-self-in-Some c =
    let h = c.args.self.now in
    let r = entered_following h c.requires.few c.args.order c.requires.side c.requires.some c.requires.fresh (vec_items c.place-in-Some.new.self) (vec_items c.place-in-Some-2.new.self)
    (some_present c.in-Some.is) (in_following (goal.at.invariant_of-self-in-Some c).After-place-in-Some) (c.place-in-Some-2.ensures first_by_offset (λ a b r k. search rules) by_offset_strict.trans (sorted_again h.side (vec_items h.fixed) (vec_items h.following) (vec_items h.by_offset) (lined_from h.side (vec_items h.fixed) (vec_items h.following) (vec_items h.by_offset) h.lined h.again))) in
    record {
      lined = r.0;
      again = r.1;
      some = r.2;
      few = omega (arith, r.3, h.fixed.ok, c.place-in-Some.new.self.ok);
    }

pub returns-in-None-clause-fixed : goal.returns-in-None-clause-fixed
returns-in-None-clause-fixed c = let e = in_fixed (goal.at.returns-in-None-clause-fixed c).After-place in search rules

pub returns-in-Some-clause-following : goal.returns-in-Some-clause-following
returns-in-Some-clause-following c = let e = in_following (goal.at.returns-in-Some-clause-following c).After-place-in-Some in search rules
