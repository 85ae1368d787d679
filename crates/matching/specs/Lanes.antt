-- A queue as a Retail Order goes down it
use Rattle.std.specs.Prelude.{◌≡◌, ℕ, Bool, not, List, [], None, Option, ◌==◌}
use Rattle.std.specs.Borrow.{Bor}
use Rattle.std.specs.Slice.Iter.{iter_rest}
use Rattle.terms.specs.declared.orders.RestingOrder.{RestingOrder}
use Rattle.terms.specs.declared.orders.RetailOrder.{RetailOrder}
use Rattle.terms.specs.declared.orders.Ranked.{Ranked}
use Rattle.terms.specs.Words.{keep_if}
use Rattle.rules.specs.Lists.{picked, and_then}
use Rattle.rules.specs.Rules.{BestPair, candidate}
use Rattle.matching.specs.declared.lane.Lane.{Lane}

-- In the first two queues an order counts at its limit, ceiling or floor, in the third at any other price.
abbrev pub at_limit : (price limit : ℕ) → Bool
at_limit price limit = price == limit

abbrev pub off_limit : (price limit : ℕ) → Bool
off_limit price limit = not (price == limit)

-- the order at its ranked price, if it is eligible and counts there
abbrev pub counted : ((price limit : ℕ) → Bool) → BestPair → RetailOrder → RestingOrder → Option Ranked
counted counts best r o = keep_if (λ e. counts e.price o.limit) (candidate best r o)

-- each answer at an order is what f gives of it
abbrev pub Computes : (Bor RestingOrder → Option Ranked → Type 0) → (RestingOrder → Option Ranked) → Type 0
Computes answers f = (o : Bor RestingOrder) (r : Option Ranked) → answers o r → r ≡ f o.now

-- the first of some orders that counts, and those after it
pub record Sought (f : RestingOrder → Option Ranked) (orders : List RestingOrder) (first : Option Ranked) (behind : List RestingOrder) : Type 0 where
  pub splits : picked f orders ≡ and_then first (picked f behind)
  pub ends : first ≡ None → picked f behind ≡ []

-- What a lane has yet to give: its head, and what counts of the rest. A lane without a head has nothing more to give.
pub record Gives {F : Type 0} (answers : F → Bor RestingOrder → Option Ranked → Type 0) (l : Lane F) (orders : List Ranked) : Type 0 where
  pub f : RestingOrder → Option Ranked
  pub computes : Computes (answers l.counts) f
  pub all : orders ≡ and_then l.head (picked f (iter_rest l.rest))
  pub ready : l.head ≡ None → picked f (iter_rest l.rest) ≡ []

-- a lane that gave these orders, after one was taken
pub record Took {F : Type 0} (answers : F → Bor RestingOrder → Option Ranked → Type 0) (l : Lane F) (before : List Ranked) (taken : Option Ranked) : Type 0 where
  pub after : List Ranked
  pub takes : before ≡ and_then taken after
  pub ends : taken ≡ None → before ≡ []
  pub gives : Gives answers l after
