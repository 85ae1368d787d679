-- The three queues of one side of the book, which no quote moves
use Rattle.std.specs.Prelude.{◌≡◌, ◌≢◌, ℕ, Bool, true, cond, not, ◌&&◌, List, [], ◌∷◌, ◌++◌, Some, None, Option, ◌==◌}
use Rattle.std.specs.List.{AllByRecursion as Each}
use Rattle.terms.specs.declared.market.Side.{Side}
use Rattle.terms.specs.declared.market.Side.TheVariants.{Sell}
use Rattle.terms.specs.declared.orders.RestingOrder.{RestingOrder}
use Rattle.rules.specs.Lists.{Distinct, insert, present, read, sort}
use Rattle.terms.specs.Words.{same_side}
use Rattle.rules.specs.Rules.{BestPair, own_side, ranked_price, opposite, at_price, ahead, rpi_shows, with_shares}
use Rattle.rules.specs.Sorted.{Sorted}

-- By limit, the best for the customer in front: of buys the highest limit or ceiling, of sells the lowest limit or floor. Ties go to displayed orders, and then to the lower number.
abbrev pub first_by_limit : Side → RestingOrder → RestingOrder → Bool
first_by_limit side a b = ahead (opposite side) (at_price a a.limit) (at_price b b.limit)

abbrev pub offset_of : RestingOrder → ℕ
offset_of o = read (λ d. d) 0 o.offset

-- By offset, the largest in front, and ties as above.
abbrev pub first_by_offset : RestingOrder → RestingOrder → Bool
first_by_offset a b = ahead Sell (at_price a (offset_of a)) (at_price b (offset_of b))

-- An element takes its place in a list: whatever order the list is sorted in, if R answers by it, it stands there where this order puts it.
abbrev pub Placed : {X : Type 0} (R : X → X → Bool → Type 0) (x : X) (xs ys : List X) → Type 0
Placed {X} R x xs ys =
    (lt : X → X → Bool) → ((a b : X) (r : Bool) → R a b r → r ≡ lt a b) → ((a b c : X) → lt a b ≡ true → lt b c ≡ true → lt a c ≡ true) → Sorted lt xs → ys ≡ insert lt x xs

-- No order of the first queue has an offset, and each of the second has one. The first is sorted by limit, the second by ceiling or floor; the third has the orders of the second once more, sorted by offset. All are of one side, and no two have one number.
pub record Lined (side : Side) (fixed following again : List RestingOrder) : Type 0 where
  pub no_offsets : Each (λ o. o.offset ≡ None) fixed
  pub offsets : Each (λ o. o.offset ≢ None) following
  pub first : Sorted (first_by_limit side) fixed
  pub second : Sorted (first_by_limit side) following
  pub third : again ≡ sort first_by_offset following
  pub of_side : Each (λ o. o.side ≡ side) (fixed ++ following)
  pub apart : Distinct (λ o. o.number) (fixed ++ following)

-- The same as a test, which the type of the queues states: a fact that stands in a type has to be one that can hold in one way only.
abbrev pub every : {X : Type 0} → (X → Bool) → List X → Bool
every p [] = true
every p (x ∷ xs) = p x && every p xs

abbrev pub is_sorted : {X : Type 0} → (X → X → Bool) → List X → Bool
is_sorted lt [] = true
is_sorted lt (x ∷ xs) = every (lt x) xs && is_sorted lt xs

abbrev pub is_distinct : {X : Type 0} → (X → ℕ) → List X → Bool
is_distinct key [] = true
is_distinct key (x ∷ xs) = every (λ y. not (key y == key x)) xs && is_distinct key xs

abbrev pub is_lined : Side → (fixed following : List RestingOrder) → Bool
is_lined side fixed following =
    every (λ o. not (present o.offset)) fixed
    && (every (λ o. present o.offset) following
    && (is_sorted (first_by_limit side) fixed
    && (is_sorted (first_by_limit side) following
    && (every (λ o. same_side o.side side) (fixed ++ following)
    && is_distinct (λ o. o.number) (fixed ++ following)))))

-- the orders of a side
abbrev pub resting_in : (fixed following : List RestingOrder) → List RestingOrder
resting_in fixed following = fixed ++ following

-- an order leaves if it has the number
abbrev pub unless_number : ℕ → RestingOrder → Option RestingOrder
unless_number number o = cond (o.number == number) None (Some o)

-- a change leaves all but its shares to an order that stays
abbrev pub Kept : (RestingOrder → Option RestingOrder) → Type 0
Kept f = (o p : RestingOrder) → f o ≡ Some p → p ≡ with_shares o p.shares

-- whether an order is RPI interest that some Retail Order would find eligible, whatever its limit
abbrev pub rpi_interest : BestPair → RestingOrder → Bool
rpi_interest best o = rpi_shows o.kind (opposite o.side) (ranked_price best o) (own_side best o.side)
