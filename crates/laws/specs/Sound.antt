-- What holds of the book at all times
use Rattle.std.specs.Prelude.{◌≡◌, ℕ, ◌<◌, ◌≤◌, true, false, ◌&&◌, List, [], ◌∷◌, length, ◌==◌, ◌≢◌}
use Rattle.std.specs.List.{AllByRecursion as Each}
use Rattle.terms.specs.declared.orders.RestingOrder.{RestingOrder}
use Rattle.terms.specs.declared.orders.RetailOrder.{RetailOrder}
use Rattle.terms.specs.declared.orders.Fill.{Fill}
use Rattle.terms.specs.Limits.{is_price, is_order_size, is_member}
use Rattle.quotes.specs.Quotes.{Quotes}
use Rattle.rules.specs.Lists.{present}
use Rattle.laws.specs.Book.{Book, State, fills_now, start}
use Rattle.laws.specs.Rows.{AnyCall, offset_in_range, is_ordinary, broken_cent}
use Rattle.laws.specs.Steps.{step, run}

-- keys rise along a list
abbrev pub Rises : {X : Type 0} → (X → ℕ) → List X → Type 0
Rises key [] = Unit {0}
Rises key (x ∷ xs) = Each (λ y. key x < key y) xs × Rises key xs

-- Every resting order is in range, at a whole cent if that is asked of it, and follows the quote only if it is an RPI Order.
pub record InRange (o : RestingOrder) : Type 0 where
  pub member_good : is_member o.member ≡ true
  pub limit_good : is_price o.limit ≡ true
  pub offset_good : offset_in_range o.offset ≡ true
  pub shares_good : is_order_size o.shares ≡ true
  pub whole_cent : is_ordinary o.kind && broken_cent o.limit ≡ false
  pub rpi_offset : is_ordinary o.kind && present o.offset ≡ false

-- Numbers rise along the orders and along the slips, were given, and no order has a slip's; all is in range and in number.
pub record Sound (b : Book) : Type 0 where
  pub rises : Rises (λ o. o.number) b.resting
  pub given : Each (λ o. o.number ≤ b.last) b.resting
  pub in_range : Each InRange b.resting
  pub slips_rise : Rises (λ slip. slip.number) b.slips
  pub slips_given : Each (λ slip. slip.number ≤ b.last) b.slips
  pub slips_hold : Each (λ slip. (slip.shares == 0) ≡ false) b.slips
  pub apart : Each (λ o. Each (λ slip. slip.number ≢ o.number) b.slips) b.resting
  pub orders_fit : length b.resting ≤ 256
  pub slips_fit : length b.slips ≤ 32
  pub numbers_fit : b.last ≤ 500_000

-- No call, accepted or refused, leaves the book unsound.
abbrev pub StaysSound : Type 0
StaysSound = (centres : ℕ) (s : State) (call : AnyCall) → Sound s.book → Sound (step centres s call).1.book

abbrev pub AlwaysSound : Type 0
AlwaysSound = (centres : ℕ) (quotes : Quotes) (fill_list : List Fill) (calls : List AnyCall) → Sound (run centres (start quotes fill_list) calls).book

-- The fills of a sound book find room in 256 places.
abbrev pub FillsFit : Type 0
FillsFit = (centres : ℕ) (s : State) (r : RetailOrder) → Sound s.book → length (fills_now centres s r) ≤ 256
