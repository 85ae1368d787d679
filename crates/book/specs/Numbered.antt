-- The numbers of the resting orders
use Rattle.std.specs.Prelude.{ℕ, Bool, ◌&&◌, List, nat_le}
use Rattle.terms.specs.declared.orders.RestingOrder.{RestingOrder}
use Rattle.queues.specs.Queues.{every, is_distinct}

-- every order has a number that was given, and no two have the same
abbrev pub is_numbered : (last : ℕ) → List RestingOrder → Bool
is_numbered last orders = every (λ o. nat_le o.number last) orders && is_distinct (λ o. o.number) orders
