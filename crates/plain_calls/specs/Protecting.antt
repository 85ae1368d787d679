-- The protected quotes after each of some quote calls
use Rattle.std.specs.Prelude.{◌≡◌, ℕ, ◌≤◌, ◌⊎◌, List, [], ◌∷◌, length, take, drop, Some, None, Option}
use Rattle.terms.specs.declared.market.QuoteCall.{QuoteCall}
use Rattle.terms.specs.declared.calls.Call.TheVariants.{Enter, Cancel, Retail, Draw, Return, Move, Approve, Withdraw, Quotes as OfQuotes}
use Rattle.quotes.specs.Quotes.{Quotes, after_call, best_pair}
use Rattle.rules.specs.Lists.{picked}
use Rattle.laws.specs.Rows.{AnyCall}
use Rattle.stacks.specs.Venue.{opening_quotes}
use Rattle.plain_calls.specs.declared.answers.PlainBest.{PlainBest}
use Rattle.plain_calls.specs.declared.calls.PlainCall.{PlainCall}
use Rattle.plain_calls.specs.Meant.{meant}
use Rattle.plain_calls.specs.MeantLaws.{Says}
use Rattle.plain_calls.specs.Plain.{over, plain_best}
use Rattle.plain_calls.specs.PlainLaws.{EachWith, TellsBest}

-- A call that changes the quotes, and no other.
abbrev pub quote_call : Option AnyCall → Option QuoteCall
quote_call None = None
quote_call (Some (Enter o)) = None
quote_call (Some (Cancel member number)) = None
quote_call (Some (Retail order places)) = None
quote_call (Some (Draw number)) = None
quote_call (Some (Return number shares away)) = None
quote_call (Some (Move event)) = None
quote_call (Some (Approve member)) = None
quote_call (Some (Withdraw member)) = None
quote_call (Some (OfQuotes q)) = Some q

abbrev pub quote_meant : PlainCall → Option QuoteCall
quote_meant c = quote_call (meant c)

-- The quote calls that the first n of a list mean.
abbrev pub quotes_meant : ℕ → List PlainCall → List QuoteCall
quotes_meant n calls = picked quote_meant (take n calls)

-- The quotes after some calls; a refused one leaves them.
abbrev pub quotes_after : Quotes → List QuoteCall → Quotes
quotes_after q [] = q
quotes_after q (c ∷ cs) = quotes_after (after_call 32 q c) cs

-- The protected quotes after each call.
abbrev pub best_after : Quotes → List QuoteCall → List PlainBest
best_after q [] = []
best_after q (c ∷ cs) = plain_best (best_pair 32 (after_call 32 q c)) ∷ best_after (after_call 32 q c) cs

-- The same, each a price or absent.
abbrev pub pairs_after : Quotes → List QuoteCall → List (Option ℕ × Option ℕ)
pairs_after q [] = []
pairs_after q (c ∷ cs) = best_pair 32 (after_call 32 q c) ∷ pairs_after (after_call 32 q c) cs

abbrev pub first_quote : List PlainCall → Option QuoteCall
first_quote [] = None
first_quote (c ∷ cs) = quote_meant c

-- After each of the first n calls the protected quotes stand at the front of the list, which holds after them what it held; each of these calls is what its letters and numbers say, and each price stands there as it is, or 0 where there is none. No more are written where the list is full or the next call is none that changes the quotes.
pub record Protected (calls : List PlainCall) (best best' : List PlainBest) (n : ℕ) : Type 0 where
  pub within : n ≤ length calls
  pub all_mean : length (quotes_meant n calls) ≡ n
  pub shown : best' ≡ over (best_after opening_quotes (quotes_meant n calls)) best
  pub said : EachWith (λ c call. Says c (OfQuotes call)) (take n calls) (quotes_meant n calls)
  pub told : EachWith TellsBest (pairs_after opening_quotes (quotes_meant n calls)) (take n best')
  pub ends : (length best ≡ n) ⊎ (first_quote (drop n calls) ≡ None)
