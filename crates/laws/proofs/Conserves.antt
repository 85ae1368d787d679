-- Conservation over whole days, by induction over the calls
use Rattle.std.proofs.Common.{◌≡◌, ℕ, ◌+◌, cond, List, [], ◌∷◌, fold, refl, ap, ◌∙◌, arith}
use Rattle.terms.specs.declared.orders.Fill.{Fill}
use Rattle.quotes.specs.Quotes.{Quotes as QuoteState}
use Rattle.laws.specs.Book.{State, start}
use Rattle.laws.specs.Rows.{AnyCall}
use Rattle.laws.specs.Steps.{step, run, trace}
use Rattle.laws.specs.Law.{gives, asking, in_hand, entered_so_far, filled_so_far, cancelled_so_far, away_so_far, cancel_would, draw_would, Conserved}
use Rattle.laws.specs.Sound.{Sound}
use Rattle.laws.proofs.Soundness.{sound_step, sound_empty}
use Rattle.laws.proofs.Counts.{outs}
use Rattle.laws.proofs.Balance.{holds, Owned, kept_step, cancel_tells, draw_tells}

-- from any sound book, with what it holds of the number, what is drawn of it, and the member whose order it is
conserved : (centres n : ℕ) (s : State) (calls : List AnyCall) (hand member : ℕ) → Sound s.book → outs n s.book.slips ≡ hand → Owned n member s.book
    → entered_so_far n (trace centres s calls) + holds n s.book
    ≡ filled_so_far n (trace centres s calls)
    + cancelled_so_far n (trace centres s calls)
    + away_so_far n (trace centres s calls)
    + cancel_would centres (run centres s calls) (fold (λ member m. cond (gives n m.answer) (asking m.call).member member) member (trace centres s calls)) n
    + (draw_would centres (run centres s calls) n + fold (λ k m. in_hand n k m.answer) hand (trace centres s calls))
conserved centres n s [] hand member h out own = omega (arith, cancel_tells centres s member n h own, draw_tells centres s n h)
conserved centres n s (call ∷ calls) hand member h out own =
    let k = kept_step n member centres s call h in
    let r = step centres s call in
    let ih = conserved centres n r.1 calls (in_hand n hand r.0) (cond (gives n r.0) (asking call).member member) (sound_step centres s call h)
    (k.hand ∙ ap (λ v. in_hand n v r.0) out) (k.owned own) in
    omega arith

pub all_conserved : (centres : ℕ) (quotes : QuoteState) (fill_list : List Fill) (calls : List AnyCall) (n : ℕ) → Conserved centres (start quotes fill_list) calls n
all_conserved centres quotes fill_list calls n =
    let c = conserved centres n (start quotes fill_list) calls 0 0 sound_empty refl tt in
    omega arith
