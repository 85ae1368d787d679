use Rattle.rules.proofs.Finds.{any_append}
use Rattle.queues.proofs.side.SideQueues.has_rpi_interest.Goals as goal

pub returns-then-has_rpi_interest : goal.returns-then-has_rpi_interest
returns-then-has_rpi_interest c = rw (any_append, ← c.if-has_rpi_interest.ensures) c.if-has_rpi_interest.true

pub returns-else-has_rpi_interest : goal.returns-else-has_rpi_interest
returns-else-has_rpi_interest c = rw (any_append, ← c.if-has_rpi_interest.ensures) c.has_rpi_interest-else-has_rpi_interest.ensures
