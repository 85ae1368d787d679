-- The law, by induction over the calls
use Rattle.std.proofs.Common.{ℕ, List, [], ◌∷◌, take}
use Rattle.std.specs.List.{AllByRecursion as Each}
use Rattle.laws.specs.Book.{State, start}
use Rattle.laws.specs.Rows.{AnyCall}
use Rattle.laws.specs.Sound.{Sound}
use Rattle.laws.specs.Steps.{Met, step, meet, trace}
use Rattle.laws.specs.Law.{OfTrades, TradeHasMost, TradeCostsBest, Priority, Remainder, Improvement, Savings, FillList, FillListKept, RefusedByTable, AcceptedByTable, Unchanged, Answered, Changed, TermsKept, TheBookKeepsTheLaw}
use Rattle.laws.proofs.Answered.{answered}
use Rattle.laws.proofs.Conserves.{all_conserved}
use Rattle.laws.proofs.Out.{slips_out}
use Rattle.laws.proofs.Rests.{terms_kept}
use Rattle.laws.proofs.Savings.{savings}
use Rattle.laws.proofs.Soundness.{distinct, sound_step, sound_empty}
use Rattle.laws.proofs.Table.{refused_by_table, accepted_by_table}
use Rattle.laws.proofs.Trades.{of_trades, most_shares, best_cost, priority, remainder, improvement, fill_list, fill_list_kept, unchanged, changed}

-- what holds of each call of a sound book holds along the trace
along_trace : (centres : ℕ) (P : Met → Type 0) → ((s : State) (call : AnyCall) → Sound s.book → P (meet centres s call))
    → (s : State) (calls : List AnyCall) → Sound s.book → Each P (trace centres s calls)
along_trace centres P f s [] h = tt
along_trace centres P f s (call ∷ calls) h = (f s call h, along_trace centres P f (step centres s call).1 calls (sound_step centres s call h))

pub the_law : TheBookKeepsTheLaw
the_law centres quotes places calls =
    let s = start quotes places in
    let each : (P : Met → Type 0) → ((s : State) (call : AnyCall) → Sound s.book → P (meet centres s call)) → Each P (trace centres s calls) = λ P f. along_trace centres P f s calls sound_empty in
    record {
      most_shares = each (OfTrades (TradeHasMost centres)) (λ s call h. of_trades (TradeHasMost centres) centres s call (λ r. most_shares centres s r (distinct s.book h)));
      best_cost = each (OfTrades (TradeCostsBest centres)) (λ s call h. of_trades (TradeCostsBest centres) centres s call (λ r. best_cost centres s r (distinct s.book h)));
      priority = each (OfTrades (Priority centres)) (λ s call h. of_trades (Priority centres) centres s call (λ r. priority centres s r (distinct s.book h)));
      remainder = each (OfTrades Remainder) (λ s call h. of_trades Remainder centres s call (λ r. remainder centres s r (distinct s.book h)));
      improvement = each (OfTrades (Improvement centres)) (λ s call h. of_trades (Improvement centres) centres s call (λ r. improvement centres s r (distinct s.book h)));
      savings = each (OfTrades (Savings centres)) (λ s call h. of_trades (Savings centres) centres s call (λ r. savings centres s r (distinct s.book h)));
      fill_list = each FillList (fill_list centres);
      fill_list_kept = each FillListKept (λ s call _. fill_list_kept centres s call);
      refused_by_table = each (RefusedByTable centres) (λ s call _. refused_by_table centres s call);
      accepted_by_table = each (AcceptedByTable centres) (λ s call _. accepted_by_table centres s call);
      unchanged = each Unchanged (λ s call _. unchanged centres s call);
      answered = each Answered (λ s call _. answered centres s call);
      changed = each Changed (λ s call _. changed centres s call);
      terms_kept = each TermsKept (λ s call _. terms_kept centres s call);
      conservation = λ k number. all_conserved centres quotes places (take k calls) number;
      slips_out = λ k. slips_out centres quotes places (take k calls);
    }
