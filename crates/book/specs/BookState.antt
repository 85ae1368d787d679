-- What a book means: the state of the definitions that it stands for
use Rattle.std.specs.Prelude.{◌≡◌, ℕ, Bool, List, ◌++◌, length, Result, nat_lt}
use Rattle.std.specs.Result.{result_err}
use Rattle.terms.specs.declared.orders.RestingOrder.{RestingOrder}
use Rattle.terms.specs.declared.orders.RetailOrder.{RetailOrder}
use Rattle.terms.specs.declared.orders.Slip.{Slip}
use Rattle.terms.specs.declared.orders.Fill.{Fill}
use Rattle.terms.specs.declared.orders.Phase.{Phase}
use Rattle.terms.specs.declared.refusals.Refusal.{Refusal}
use Rattle.terms.specs.declared.calls.Call.TheVariants.{Retail}
use Rattle.quotes.specs.Quotes.{Quotes}
use Rattle.rules.specs.Lists.{sort}
use Rattle.laws.specs.Book.{Book, State, Answer}
use Rattle.laws.specs.Rows.{AnyCall, refusals, decided}
use Rattle.laws.specs.Steps.{step}
use Rattle.register.specs.Register.{approved_in}

abbrev pub by_number : RestingOrder → RestingOrder → Bool
by_number a b = nat_lt a.number b.number

-- the orders of both sides, in the order of their numbers
abbrev pub resting_of : (buys sells : List RestingOrder) → List RestingOrder
resting_of buys sells = sort by_number (buys ++ sells)

-- The book that a phase, a register, a last number, the orders of both sides and the slips stand for.
abbrev pub book_of : Phase → (word last : ℕ) → (buys sells : List RestingOrder) → List Slip → Book
book_of phase word last buys sells slips =
    record { phase = phase; approved = approved_in word; last = last; resting = resting_of buys sells; slips = slips }

abbrev pub state_of : Book → Quotes → List Fill → State
state_of b quotes fill_list = record { book = b; quotes = quotes; fill_list = fill_list }

-- A call that reads no quotes and writes no fills takes one book to another with this answer, whatever the number of centres, the quotes and the fill list.
abbrev pub Steps : Book → AnyCall → Answer → Book → Type 0
Steps before call answer after =
    (centres : ℕ) (quotes : Quotes) (fill_list : List Fill) → step centres (state_of before quotes fill_list) call ≡ (answer, state_of after quotes fill_list)

-- A Retail Order takes one book to another with this answer, at these quotes and with this list lent for its fills.
abbrev pub RetailSteps : (centres : ℕ) → Quotes → (before : Book) → (lent : List Fill) → RetailOrder → Answer → (after : Book) → (left : List Fill) → Type 0
RetailSteps centres quotes before lent order answer after left =
    step centres (state_of before quotes lent) (Retail order (length lent)) ≡ (answer, state_of after quotes left)

-- Whatever the number of centres, the quotes and the fill list, the error is what refuses a call, if anything does.
abbrev pub Decided : Book → AnyCall → Result Unit Refusal → Type 0
Decided b call checked = (centres : ℕ) (quotes : Quotes) (fill_list : List Fill) → result_err checked ≡ decided (refusals centres (state_of b quotes fill_list) call)

-- Whatever the number of centres, the quotes and the list of so many places, the error is what refuses a Retail Order, if anything does.
abbrev pub RetailDecided : Book → RetailOrder → (places : ℕ) → Result Unit Refusal → Type 0
RetailDecided b order places checked =
    (centres : ℕ) (quotes : Quotes) (lent : List Fill) → length lent ≡ places → result_err checked ≡ decided (refusals centres (state_of b quotes lent) (Retail order (length lent)))
