-- What a tell leaves at its centre, or why it is refused
use Rattle.std.specs.Prelude.{ℕ, cond, Ok, Err, Option, Result}
use Rattle.terms.specs.declared.market.Quote.{Quote}
use Rattle.terms.specs.declared.market.QuoteUpdate.{QuoteUpdate}
use Rattle.terms.specs.declared.refusals.Refusal.{Refusal}
use Rattle.terms.specs.declared.refusals.Refusal.TheVariants.{OutOfRange}
use Rattle.quotes.specs.Quotes.{tell_in_range, told_quote}

abbrev pub told_answer : (centres : ℕ) → QuoteUpdate → Result (Option Quote) Refusal
told_answer centres u =
    cond (tell_in_range centres u.centre u.price u.size) (Ok (told_quote u.price u.size)) (Err OutOfRange)
