use Rattle.std.proofs.Common.{◌≡◌, ◌≤◌, [], ◌∷◌, vec_items, sym, ◌∙◌, arith}
use Rattle.rules.specs.Lists.{picked}
use Rattle.rules.specs.Rules.{after_fill}
use Rattle.queues.proofs.Gives.{apart_again, apart_fixed, apart_following, other_fill, same_again, same_following, some_again, some_fixed, some_following}
use Rattle.queues.proofs.Keeps.{after_kept, after_some, changed}
use Rattle.queues.proofs.side.SideQueues.give.Goals as goal
use Rattle.queues.proofs.side.SideQueues.give.Goals.{Else-not-give}

pub give-requires : goal.give-requires
give-requires c = record { apart = apart_fixed c.args.self.now; some = some_fixed c.args.self.now }

pub give-requires-then-not-give : goal.give-requires-then-not-give
give-requires-then-not-give c = record { apart = apart_following c.args.self.now; some = some_following c.args.self.now }

pub give-requires-then-not-give-2 : goal.give-requires-then-not-give-2
give-requires-then-not-give-2 c = record { apart = apart_again c.args.self.now; some = some_again c.args.self.now }

-- the order is not in the first queue
pub invariant_of-self : goal.invariant_of-self
invariant_of-self c =
    let r = changed (after_fill (c.args.fill ∷ [])) (after_kept (c.args.fill ∷ [])) (after_some (c.args.fill ∷ [])) c.args.self.now (vec_items c.give.new.self) (vec_items c.give-then-not-give.new.self) (vec_items c.give-then-not-give-2.new.self)
    c.give.ensures.items c.give-then-not-give.ensures.items c.give-then-not-give-2.ensures.items in
    record {
      lined = r.0;
      again = r.1;
      some = r.2;
      few = omega (arith, r.3, c.give.new.self.ok, c.give-then-not-give.new.self.ok);
    }

-- it is there, and the others keep theirs
following_stays : (c : Else-not-give) → vec_items c.args.self.now.following ≡ picked (after_fill (c.args.fill ∷ [])) (vec_items c.args.self.now.following)
following_stays c =
    same_following c.args.self.now (λ o. 1 ≤ o.shares) (after_fill (c.args.fill ∷ [])) c.args.fill.number (other_fill c.args.fill) (some_following c.args.self.now) (sym c.give.ensures.here ∙ c.if-not-give.false)

again_stays : (c : Else-not-give) → vec_items c.args.self.now.by_offset ≡ picked (after_fill (c.args.fill ∷ [])) (vec_items c.args.self.now.by_offset)
again_stays c =
    same_again c.args.self.now (λ o. 1 ≤ o.shares) (after_fill (c.args.fill ∷ [])) c.args.fill.number (other_fill c.args.fill) (some_following c.args.self.now) (sym c.give.ensures.here ∙ c.if-not-give.false)

pub invariant_of-self-else-not-give : goal.invariant_of-self-else-not-give
invariant_of-self-else-not-give c =
    let h = c.args.self.now in
    let r = changed (after_fill (c.args.fill ∷ [])) (after_kept (c.args.fill ∷ [])) (after_some (c.args.fill ∷ [])) h (vec_items c.give.new.self) (vec_items h.following) (vec_items h.by_offset) c.give.ensures.items (following_stays c) (again_stays c) in
    record {
      lined = r.0;
      again = h.again;
      some = r.2;
      few = omega (arith, r.3, c.give.new.self.ok, h.following.ok);
    }

pub returns-else-not-give-clause-following : goal.returns-else-not-give-clause-following
returns-else-not-give-clause-following c = following_stays (goal.at.returns-else-not-give-clause-following c).Else-not-give

pub returns-else-not-give-clause-by_offset : goal.returns-else-not-give-clause-by_offset
returns-else-not-give-clause-by_offset c = again_stays (goal.at.returns-else-not-give-clause-by_offset c).Else-not-give
