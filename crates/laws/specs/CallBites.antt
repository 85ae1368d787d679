-- What the law refuses of all calls: answers, and states after a call, each wrong in one way, and each against the part of the law that its line names
use Rattle.std.specs.Prelude.{ℕ, Bool, true, false, not, List, [], ◌∷◌, take, Some, None, ◌==◌}
use Rattle.std.specs.List.{ContainsAt as Has, AllByRecursion as Each}
use Rattle.terms.specs.declared.market.Side.TheVariants.{Buy, Sell}
use Rattle.terms.specs.declared.orders.OrderKind.TheVariants.{Rpi, Hidden}
use Rattle.terms.specs.declared.orders.RestingOrder.{RestingOrder}
use Rattle.terms.specs.declared.orders.Fill.{Fill}
use Rattle.terms.specs.declared.orders.Phase.TheVariants.{Open, Halted, Closed}
use Rattle.terms.specs.declared.orders.PhaseEvent.TheVariants.{Opening}
use Rattle.terms.specs.declared.refusals.Refusal.TheVariants.{OutOfRange, WrongPhase, NoSuchOrder}
use Rattle.terms.specs.declared.calls.Call.TheVariants.{Enter, Cancel, Draw, Return, Move, Approve, Withdraw, Quotes}
use Rattle.terms.specs.declared.market.QuoteCall.TheVariants.{Tell}
use Rattle.quotes.specs.Quotes.{no_quotes, with_lot}
use Rattle.quotes.specs.Quotes.{Quotes as QuoteState}
use Rattle.rules.specs.WorkedPrices.{rests}
use Rattle.laws.specs.Book.{Book, State, Answer, start, with_phase, with_resting}
use Rattle.laws.specs.Book.Answer.{Refused, Done, Entered, Cancelled, Traded, Drawn, Returned}
use Rattle.laws.specs.Rows.{AnyCall}
use Rattle.laws.specs.Steps.{Met, of_book, run, trace}
use Rattle.laws.specs.Law.{OfTrades, TradeHasMost, TradeCostsBest, Priority, Remainder, Improvement, Savings, FillList, FillListKept, RefusedByTable, AcceptedByTable, Unchanged, Answered, Changed, TermsKept, Conserved, standing, an_entry, a_retail_order, other_calls, Law, TheBookKeepsTheLaw}
use Rattle.laws.specs.Routed.{Note, SlipsOut, drawn_notes, out_so_far}

-- CALLS THAT COME WHILE THE BOOK IS HALTED: order 1 rests, slip 2 waits, slip 3 is out, every member is approved, and the next number is 4

abbrev pub halted : State
halted = standing Halted

-- one call of each kind
abbrev pub every_kind : List AnyCall
every_kind = an_entry ∷ a_retail_order ∷ Move Opening ∷ other_calls

-- A call is answered so.
abbrev pub told : AnyCall → Answer → Met
told call answer = record { before = halted; call = call; answer = answer; after = halted }

-- A call is accepted, or a Retail Order refused, and this is the state that it leaves.
abbrev pub taken : State → AnyCall → Met
taken after call = record { before = halted; call = call; answer = Done; after = after }

abbrev pub refused : State → Met
refused after = record { before = halted; call = a_retail_order; answer = Refused WrongPhase; after = after }

-- What a call could leave otherwise: the phase, the register, the last number, the orders, the quotes, the fill list.
abbrev pub now_closed : State
now_closed = of_book halted (with_phase halted.book Closed)

abbrev pub registered : (ℕ → Bool) → State
registered approved = of_book halted (record { phase = Halted; approved = approved; last = 3; resting = halted.book.resting; slips = halted.book.slips })

abbrev pub numbered : (last : ℕ) → State
numbered last = of_book halted (record { phase = Halted; approved = halted.book.approved; last = last; resting = halted.book.resting; slips = halted.book.slips })

abbrev pub order_gone : State
order_gone = of_book halted (with_resting halted.book [])

abbrev pub other_quotes : State
other_quotes = record { book = halted.book; quotes = with_lot 100 no_quotes; fill_list = halted.fill_list }

abbrev pub other_list : State
other_list = record { book = halted.book; quotes = halted.quotes; fill_list = [] }

-- AN ORDER THAT RESTS ON OTHER TERMS

-- Buys of member 1: order 1 at 10,010 mills and order 2 at 10,020, of 100 shares each.
abbrev pub first_buy : RestingOrder
first_buy = rests Rpi Buy 1 10_010 None 100

abbrev pub second_buy : RestingOrder
second_buy = rests Rpi Buy 2 10_020 None 100

-- Each differs from order 2 in one thing: number, member, side, kind, limit, offset, more shares.
abbrev pub other_terms : List RestingOrder
other_terms =
    rests Rpi Buy 7 10_020 None 100
    ∷ record { number = 2; member = 2; side = Buy; kind = Rpi; limit = 10_020; offset = None; shares = 100 }
    ∷ rests Rpi Sell 2 10_020 None 100
    ∷ rests Hidden Buy 2 10_020 None 100
    ∷ rests Rpi Buy 2 10_010 None 100
    ∷ rests Rpi Buy 2 10_020 (Some 5) 100
    ∷ rests Rpi Buy 2 10_020 None 101
    ∷ []

abbrev pub book_of : (last : ℕ) → List RestingOrder → Book
book_of last resting = record { phase = Open; approved = λ _. true; last = last; resting = resting; slips = [] }

abbrev pub a_buy : (shares : ℕ) → AnyCall
a_buy shares = Enter (record { member = 1; side = Buy; kind = Rpi; limit = 10_020; offset = None; shares = shares })

-- Orders 1 and 2 rest; a call that concerns neither leaves order 1 and this one.
abbrev pub stays_as : RestingOrder → Met
stays_as o = record { before = of_book halted (book_of 2 (first_buy ∷ second_buy ∷ [])); call = Approve 5; answer = Done; after = of_book halted (book_of 2 (first_buy ∷ o ∷ [])) }

-- Order 1 rests; order 2 is entered, and this one rests beside order 1.
abbrev pub rests_as_sent : RestingOrder → Met
rests_as_sent o = record { before = of_book halted (book_of 1 (first_buy ∷ [])); call = a_buy 100; answer = Entered 2 100; after = of_book halted (book_of 2 (first_buy ∷ o ∷ [])) }

-- A DAY THAT DOES NOT BEGIN EMPTY

-- Order 1 of member 1 rests with 100 shares, and its number will be given again to the next order.
abbrev pub given_again : State
given_again = of_book halted (book_of 0 (first_buy ∷ []))

-- WHAT IS AGAINST THE LAW

-- What the law says of one call.
pub record Said (centres : ℕ) (m : Met) : Type 0 where
  pub most_shares : OfTrades (TradeHasMost centres) m
  pub best_cost : OfTrades (TradeCostsBest centres) m
  pub priority : OfTrades (Priority centres) m
  pub remainder : OfTrades Remainder m
  pub improvement : OfTrades (Improvement centres) m
  pub savings : OfTrades (Savings centres) m
  pub fill_list : FillList m
  pub fill_list_kept : FillListKept m
  pub refused_by_table : RefusedByTable centres m
  pub accepted_by_table : AcceptedByTable centres m
  pub unchanged : Unchanged m
  pub answered : Answered m
  pub changed : Changed m
  pub terms_kept : TermsKept m

pub record CallsBite : Type 0 where
  -- THE WHOLE LAW
  -- It is said of every day, of each of its calls, and, for conservation and slips, after each of them.
  pub each_day : TheBookKeepsTheLaw → (centres : ℕ) (quotes : QuoteState) (fill_list : List Fill) (calls : List AnyCall) → Law centres (start quotes fill_list) calls
  pub each_call : (centres : ℕ) (s : State) (calls : List AnyCall) (m : Met) → Law centres s calls → Has (trace centres s calls) m → Said centres m
  pub each_moment : (centres : ℕ) (s : State) (calls : List AnyCall) (k number : ℕ) → Law centres s calls → Conserved centres s (take k calls) number × SlipsOut centres s (take k calls)
  -- THE FILL LIST
  -- A call that is no accepted Retail Order leaves it as it was.
  pub list_lost : FillListKept (taken other_list an_entry) → ⊥
  pub list_lost_refused : FillListKept (refused other_list) → ⊥
  -- REFUSALS
  -- There is no member 65: to approve it is refused as out of range, and not done. To approve member 5 is done, and not refused.
  pub taken_anyway : RefusedByTable 32 (told (Approve 65) Done) → ⊥
  pub refused_for_nothing : RefusedByTable 32 (told (Approve 5) (Refused OutOfRange)) → ⊥
  -- A cancel of member 65 for an order that nobody has is refused by the upper of two rows that apply.
  pub refused_by_lower : RefusedByTable 32 (told (Cancel 65 7) (Refused NoSuchOrder)) → ⊥
  -- The same, said of what is accepted.
  pub accepted_anyway : AcceptedByTable 32 (told (Approve 65) Done) → ⊥
  pub not_accepted : AcceptedByTable 32 (told (Approve 5) (Refused OutOfRange)) → ⊥
  -- A refused call leaves the book as it was, and the quotes, and the fill list.
  pub refused_order_gone : Unchanged (refused order_gone) → ⊥
  pub refused_quotes : Unchanged (refused other_quotes) → ⊥
  pub refused_list : Unchanged (refused other_list) → ⊥
  -- ANSWERS
  -- No call is answered as the cancel of order 9 would be, and the cancel of another order is not either.
  pub answered_otherwise : Each (λ call. Answered (told call (Cancelled 9 9)) → ⊥) every_kind
  -- An entry is answered with the next number and with its shares, a Retail Order with the next number,
  pub entry_number : Answered (told an_entry (Entered 9 100)) → ⊥
  pub entry_shares : Answered (told an_entry (Entered 4 9)) → ⊥
  pub retail_number : Answered (told a_retail_order (Traded (record { number = 9; fills = []; filled = 0; cancelled = 100; waiting = 0 }))) → ⊥
  -- a cancel with the shares that rest, a draw with those of the slip, if that waits,
  pub cancel_shares : Answered (told (Cancel 1 1) (Cancelled 1 9)) → ⊥
  pub cancel_of_another : Answered (told (Cancel 2 1) (Cancelled 1 100)) → ⊥
  pub cancel_of_none : Answered (told (Cancel 1 7) (Cancelled 7 100)) → ⊥
  pub draw_shares : Answered (told (Draw 2) (Drawn 2 9)) → ⊥
  pub drawn_twice : Answered (told (Draw 3) (Drawn 3 100)) → ⊥
  -- a return with the shares executed away, and with the rest of the slip, if that was out.
  pub away_for_rest : Answered (told (Return 3 100 40) (Returned 3 60 40)) → ⊥
  pub rest_lost : Answered (told (Return 3 100 40) (Returned 3 40 0)) → ⊥
  pub returned_undrawn : Answered (told (Return 2 100 40) (Returned 2 40 60)) → ⊥
  -- WHAT A CALL CHANGES
  -- None of these calls leads from halted to closed, ends every approval, gives six numbers at once, or shows quotes by another lot.
  pub phase_changed : Each (λ call. Changed (taken now_closed call) → ⊥) every_kind
  pub register_changed : Each (λ call. Changed (taken (registered (λ m. false)) call) → ⊥) every_kind
  pub numbers_changed : Each (λ call. Changed (taken (numbered 9) call) → ⊥) every_kind
  pub quotes_changed : Each (λ call. Changed (taken other_quotes call) → ⊥) every_kind
  -- An opening opens; an entry and a Retail Order use up a number; a quote that is told stands.
  pub not_opened : Changed (taken halted (Move Opening)) → ⊥
  pub entry_not_numbered : Changed (taken halted an_entry) → ⊥
  pub retail_not_numbered : Changed (taken halted a_retail_order) → ⊥
  pub quote_not_told : Changed (taken halted (Quotes (Tell (record { centre = 1; side = Buy; price = 10_000; size = 300 })))) → ⊥
  -- An approval and its end mark the one member, and no other.
  pub not_approved : Changed (taken (registered (λ m. not (m == 5))) (Approve 5)) → ⊥
  pub others_withdrawn : Changed (taken (registered (λ m. m == 5)) (Approve 5)) → ⊥
  pub not_withdrawn : Changed (taken halted (Withdraw 5)) → ⊥
  -- TERMS
  -- An order that was there rests on, and a new one rests as it was sent: none under other terms, and none that nobody sent.
  pub terms_changed : Each (λ o. TermsKept (stays_as o) → ⊥) other_terms
  pub sent_otherwise : Each (λ o. TermsKept (rests_as_sent o) → ⊥) other_terms
  -- CONSERVATION
  -- Entered shares that rest nowhere are against the law, and shares that nobody entered, resting or on a slip.
  pub shares_lost : Conserved 32 given_again (a_buy 150 ∷ []) 1 → ⊥
  pub shares_gained : Conserved 32 given_again (a_buy 50 ∷ []) 1 → ⊥
  pub slip_of_nobody : Conserved 32 halted [] 2 → ⊥
  -- SLIPS
  -- A slip that no draw handed out is not out,
  pub never_drawn : SlipsOut 32 halted [] → ⊥
  -- and the book forgets none that was handed out and has not come back.
  pub none_forgotten : (centres : ℕ) (s : State) (calls : List AnyCall) (note : Note) → SlipsOut centres s calls → Has (out_so_far (trace centres s calls)) note → Has (drawn_notes (run centres s calls).book.slips) note
