-- A book, and the slips that it has handed out
use Rattle.std.specs.Prelude.{ℕ, Bool, true, false, ◌&&◌, List, [], ◌∷◌, ◌==◌, nat_le, nat_lt}
use Rattle.terms.specs.declared.orders.Slip.{Slip}
use Rattle.rules.specs.Lists.{sort}
use Rattle.laws.specs.Routed.{Note}
use Rattle.queues.specs.Queues.{every, is_distinct}

-- the slips of a book have numbers that were given, each its own
abbrev pub slips_numbered : (last : ℕ) → List Slip → Bool
slips_numbered last slips = every (λ slip. nat_le slip.number last) slips && is_distinct (λ slip. slip.number) slips

-- slips in the order of their numbers
abbrev pub by_note : Note → Note → Bool
by_note a b = nat_lt a.number b.number

abbrev pub in_order : List Note → List Note
in_order notes = sort by_note notes

-- The same slips, as a test, which the type of a venue states: a fact that stands in a type has to be one that can hold in one way only.
abbrev pub same_notes : List Note → List Note → Bool
same_notes [] [] = true
same_notes [] (y ∷ ys) = false
same_notes (x ∷ xs) [] = false
same_notes (x ∷ xs) (y ∷ ys) = x.number == y.number && (x.shares == y.shares && same_notes xs ys)
