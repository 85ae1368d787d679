-- The orders of a side
use Rattle.std.specs.Prelude.{List}
use Rattle.terms.specs.declared.orders.RestingOrder.{RestingOrder}
use Rattle.queues.specs.declared.side.SideQueues.{SideQueues}
use Rattle.queues.specs.Queues.{resting_in}

abbrev pub orders_of : SideQueues → List RestingOrder
orders_of q = resting_in q.fixed.items q.following.items
