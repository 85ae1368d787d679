-- A search of the rows under a filter, one row more
use Rattle.std.proofs.Common.{◌≡◌, ℕ, ◌+◌, ◌<◌, ◌&&◌, Bool, List, get_or, Option, sym, ap, ◌∙◌, add-one}
use Rattle.terms.specs.declared.market.Side.{Side}
use Rattle.terms.specs.declared.market.Quote.{Quote}
use Rattle.terms.specs.Words.{keep_if}
use Rattle.quotes.specs.Quotes.{as_large_as, leading, price_of}
use Rattle.quotes.specs.Filters.{asked_through, best_through}
use Rattle.quotes.proofs.Layers.{keep_both_of}
use Rattle.quotes.proofs.Shown.{asked_shown, leader_more}
use Rattle.scan_table.specs.declared.row.Row.{Row}
use Rattle.scan_table.specs.Rows.{no_row, on_side, row_shows, scan_means}

pub passing_more : (passes : ℕ → Quote → Bool) (rows : List Row) (side : Side) (n : ℕ) (row : Row) (best best' : Option ℕ) → n < 32 → get_or rows n no_row ≡ row
    → best ≡ best_through passes 32 (scan_means rows) side n → best' ≡ leading side best (price_of (keep_if (λ quote. as_large_as 1 quote && passes n quote) (on_side row side)))
    → best' ≡ best_through passes 32 (scan_means rows) side (n + 1)
passing_more passes rows side n row best best' lt here i k =
    let q = scan_means rows in
    let seen = asked_through passes 32 q in
    rw add-one
    (k
    ∙ (ap (λ b. leading side b (price_of (keep_if (λ quote. as_large_as 1 quote && passes n quote) (on_side row side)))) i
    ∙ (ap (λ o. leading side (best_through passes 32 q side n) (price_of o)) (keep_both_of (as_large_as 1) (passes n) (on_side row side) ∙ (ap (λ r. keep_if (passes n) (row_shows r side)) (sym here) ∙ ap (keep_if (passes n)) (sym (asked_shown 32 q n side lt))))
    ∙ sym (leader_more side (λ centre. seen centre side) n))))
