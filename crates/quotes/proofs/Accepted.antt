-- What a tell that is accepted leaves
use Rattle.std.proofs.Common.{◌≡◌, ℕ, ◌<◌, true, cond, Ok, Option, sym, ap, ◌∙◌, arith}
use Rattle.std.proofs.lemmas.Bool.Decides.{nat_tests}
use Rattle.terms.specs.declared.market.Quote.{Quote}
use Rattle.terms.specs.declared.market.QuoteUpdate.{QuoteUpdate}
use Rattle.terms.specs.declared.market.QuoteCall.TheVariants.{Tell}
use Rattle.quotes.specs.Quotes.{Quotes, Table, with_told, told_quote, tell_in_range, after_tell, after_call}
use Rattle.quotes.specs.Told.{told_answer}

pub told_parts : (centres : ℕ) (u : QuoteUpdate) (quote : Option Quote) → Ok quote ≡ told_answer centres u
    → (tell_in_range centres u.centre u.price u.size ≡ true) × (quote ≡ told_quote u.price u.size)
told_parts centres u quote e = grind (arith, nat_tests)

pub told_within : (centres : ℕ) (u : QuoteUpdate) → tell_in_range centres u.centre u.price u.size ≡ true → u.centre < centres
told_within centres u e = grind (arith, nat_tests)

-- an accepted tell writes its quote into the table, and leaves all else
pub told_table : (centres : ℕ) (q : Quotes) (u : QuoteUpdate) (quote : Option Quote) (t : Table) → tell_in_range centres u.centre u.price u.size ≡ true → quote ≡ told_quote u.price u.size
    → t ≡ with_told q.table u.centre u.side quote
    → record { table = t; own = q.own; beneath = q.beneath; lot = q.lot } ≡ after_call centres q (Tell u)
told_table centres q u quote t ok same e =
    let kept : Table → Quotes = λ t. record { table = t; own = q.own; beneath = q.beneath; lot = q.lot } in
    ap kept (e ∙ ap (with_told q.table u.centre u.side) same) ∙ sym (ap (λ b. cond b (after_tell q u) q) ok)
