use Rattle.std.proofs.Common.{sym}
use Rattle.matching.proofs.Heads.{turn_a, turn_b, turn_c_a, turn_c_b}
use Rattle.matching.proofs.lanes.Lanes.take.Goals as goal
use Rattle.matching.proofs.lanes.Lanes.take.Goals.{then-leads+else-leads-2, else-leads+else-leads-3}

pub returns-then-leads-2-clause-turn : goal.returns-then-leads-2-clause-turn
returns-then-leads-2-clause-turn g c = λ xs ys zs h.
    turn_a c.args.customer c.args.self.now xs ys zs h
    c.take.result c.take.new.self c.take.ensures.head (c.take.ensures.gives xs h.fixed)
    (sym c.if-leads.ensures) (sym c.if-leads-2.ensures)

pub returns-then-leads-3-clause-turn : goal.returns-then-leads-3-clause-turn
returns-then-leads-3-clause-turn g c = λ xs ys zs h.
    turn_b c.args.customer c.args.self.now xs ys zs h
    c.take-then-leads-3.result c.take-then-leads-3.new.self c.take-then-leads-3.ensures.head (c.take-then-leads-3.ensures.gives ys h.following)
    (sym c.if-leads.ensures) (sym c.if-leads-3.ensures)

pub returns-clause-turn : goal.returns-clause-turn
returns-clause-turn g c = λ xs ys zs h.
    elim c.if-leads.branch [
      | then-leads+else-leads-2 w ↦
          turn_c_a c.args.customer c.args.self.now xs ys zs h
          c.take-2.result c.take-2.new.self c.take-2.ensures.head (c.take-2.ensures.gives zs h.by_offset) (sym w.if-leads.ensures) (sym w.if-leads-2.ensures)
      | else-leads+else-leads-3 w ↦
          turn_c_b c.args.customer c.args.self.now xs ys zs h
          c.take-2.result c.take-2.new.self c.take-2.ensures.head (c.take-2.ensures.gives zs h.by_offset) (sym w.if-leads.ensures) (sym w.if-leads-3.ensures)
    ]
