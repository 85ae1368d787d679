-- What a call of the book answers and leaves, by the step of the definitions
use Rattle.std.proofs.Common.{◌≡◌, ℕ, ◌+◌, Bool, true, false, cond, not, eqb, List, [], ◌∷◌, ◌++◌, map, Some, None, Ok, Err, filter, Option, Result, sym, refl, ap, ◌∙◌}
use Rattle.terms.specs.declared.market.QuoteCall.{QuoteCall}
use Rattle.terms.specs.declared.orders.Fill.{Fill}
use Rattle.terms.specs.declared.orders.NewOrder.{NewOrder}
use Rattle.terms.specs.declared.orders.RestingOrder.{RestingOrder}
use Rattle.terms.specs.declared.orders.Slip.{Slip}
use Rattle.terms.specs.declared.orders.Phase.{Phase}
use Rattle.terms.specs.declared.refusals.Refusal.{Refusal}
use Rattle.terms.specs.declared.refusals.Refusal.TheVariants.{OutOfRange, NoSuchOrder, NoWaitingSlip}
use Rattle.terms.specs.declared.calls.Call.TheVariants.{Enter, Cancel, Draw, Approve, Withdraw, Quotes}
use Rattle.terms.specs.Limits.{is_member}
use Rattle.quotes.specs.Quotes.{accepted, after_accepted, call_answer, after_call}
use Rattle.quotes.specs.Quotes.{Quotes as QuoteState}
use Rattle.rules.specs.Lists.{any, found, present, read}
use Rattle.laws.specs.Book.{Book, State, Answer, rests_as, with_resting, with_slips, is_order, is_waiting, drawn_if}
use Rattle.laws.specs.Book.Answer.{Refused, Done, Entered, Cancelled, Drawn}
use Rattle.laws.specs.Rows.{AnyCall, decided}
use Rattle.laws.specs.Steps.{accepts, unless, step}
use Rattle.slips.specs.Slips.{shares_of, drawn_told, slips_drawn, told_of}
use Rattle.slips.proofs.Slipping.{any_present}
use Rattle.register.specs.Register.{approved_in, member_answer, member_set}
use Rattle.book.specs.BookState.{resting_of, book_of, state_of, Steps, Decided}
use Rattle.book.specs.Means.{done_answer}
use Rattle.book.proofs.Numbers.{any_found}

pub refused_steps : (b : Book) (call : AnyCall) (why : Refusal) → Decided b call (Err why) → Steps b call (Refused why) b
refused_steps b call why h centres quotes places =
    let s = state_of b quotes places in
    ap (λ d. unless d s (accepts centres s call)) (sym (h centres quotes places))

-- an accepted entry
pub entered_steps : (phase : Phase) (word last : ℕ) (buys sells buys' sells' : List RestingOrder) (slips : List Slip) (order : NewOrder)
    → Decided (book_of phase word last buys sells slips) (Enter order) (Ok tt)
    → resting_of buys' sells' ≡ resting_of buys sells ++ rests_as (last + 1) order ∷ []
    → Steps (book_of phase word last buys sells slips) (Enter order) (Entered (last + 1) order.shares) (book_of phase word (last + 1) buys' sells' slips)
entered_steps phase word last buys sells buys' sells' slips order h e centres quotes places =
    let b = book_of phase word last buys sells slips in
    let s = state_of b quotes places in
    let left : List RestingOrder → Book = λ resting. record { phase = phase; approved = b.approved; last = last + 1; resting = resting; slips = slips } in
    ap (λ d. unless d s (accepts centres s (Enter order))) (sym (h centres quotes places))
    ∙ ap (λ resting. (Entered (last + 1) order.shares, state_of (left resting) quotes places)) (sym e)

-- CANCEL

-- what decides a cancel, by whether its member is one and whether the order is found
abbrev cancel_rows : (member_ok there : Bool) → Option Refusal
cancel_rows member_ok there = decided ((not member_ok, OutOfRange) ∷ (not there, NoSuchOrder) ∷ [])

pub cancel_not_found : (b : Book) (member number : ℕ) → is_member member ≡ true → found (is_order member number) b.resting ≡ None → Steps b (Cancel member number) (Refused NoSuchOrder) b
cancel_not_found b member number good none =
    refused_steps b (Cancel member number) NoSuchOrder
    (λ centres quotes places.
    sym (ap (λ v. cancel_rows v (any (is_order member number) b.resting)) good ∙ ap (cancel_rows true) (any_found (is_order member number) b.resting ∙ ap present none)))

pub cancel_found : (b : Book) (member number : ℕ) (o : RestingOrder) (left : List RestingOrder) → is_member member ≡ true → found (is_order member number) b.resting ≡ Some o
    → filter (λ x. not (is_order member number x)) b.resting ≡ left
    → Steps b (Cancel member number) (Cancelled number o.shares) (with_resting b left)
cancel_found b member number o left good there e centres quotes places =
    let s = state_of b quotes places in
    let rows = ap (λ v. cancel_rows v (any (is_order member number) b.resting)) good ∙ ap (cancel_rows true) (any_found (is_order member number) b.resting ∙ ap present there) in
    ap (λ d. unless d s (accepts centres s (Cancel member number))) rows
    ∙ (ap (λ f. (Cancelled number (read (λ o. o.shares) 0 f), state_of (with_resting b (filter (λ x. not (is_order member number x)) b.resting)) quotes places)) there
    ∙ ap (λ l. (Cancelled number o.shares, state_of (with_resting b l) quotes places)) e)

-- THE REGISTER

-- the call that sets whether a member is approved
abbrev pub register_call : Bool → ℕ → AnyCall
register_call true member = Approve member
register_call false member = Withdraw member

pub register_steps : (value : Bool) (phase : Phase) (word word' last : ℕ) (buys sells : List RestingOrder) (slips : List Slip) (member : ℕ) (answer : Result Unit Refusal)
    → answer ≡ member_answer member → approved_in word' ≡ member_set member value (approved_in word)
    → Steps (book_of phase word last buys sells slips) (register_call value member) (done_answer answer) (book_of phase word' last buys sells slips)
register_steps value phase word word' last buys sells slips member answer a e centres quotes places = stepped value ∙ go (is_member member) refl
  where
    with_set : (ℕ → Bool) → State
    with_set approved = state_of (record { phase = phase; approved = approved; last = last; resting = resting_of buys sells; slips = slips }) quotes places

    set : Bool → ℕ → Bool
    set value m = cond (eqb m member) value (approved_in word m)

    ends : Bool → Bool → Answer × State
    ends value v = unless (decided ((not v, OutOfRange) ∷ [])) (with_set (approved_in word)) (Done, with_set (set value))

    stepped : (value : Bool) → step centres (with_set (approved_in word)) (register_call value member) ≡ ends value (is_member member)
    stepped true = refl
    stepped false = refl

    go : (v : Bool) → is_member member ≡ v → ends value v ≡ (done_answer answer, with_set (approved_in word'))
    go true i =
        let one : answer ≡ Ok tt = a ∙ ap (λ v. cond v (Ok tt) (Err OutOfRange)) i in
        let two : approved_in word' ≡ set value = e ∙ ap (λ v. cond v (set value) (approved_in word)) i in
        sym (ap (λ r. (done_answer r, with_set (approved_in word'))) one ∙ ap (λ f. (Done, with_set f)) two)
    go false i =
        let one : answer ≡ Err OutOfRange = a ∙ ap (λ v. cond v (Ok tt) (Err OutOfRange)) i in
        let two : approved_in word' ≡ approved_in word = e ∙ ap (λ v. cond v (set value) (approved_in word)) i in
        sym (ap (λ r. (done_answer r, with_set (approved_in word'))) one ∙ ap (λ f. (Refused OutOfRange, with_set f)) two)

-- A CALL OF THE QUOTES

pub quote_steps : (centres : ℕ) (b : Book) (q q' : QuoteState) (call : QuoteCall) (answer : Result Unit Refusal) → answer ≡ call_answer centres call → q' ≡ after_call centres q call
    → (places : List Fill) → step centres (state_of b q places) (Quotes call) ≡ (done_answer answer, state_of b q' places)
quote_steps centres b q q' call answer a e places = go (accepted centres call) refl
  where
    ends : Bool → Answer × State
    ends v = unless (decided ((not v, OutOfRange) ∷ [])) (state_of b q places) (Done, state_of b (after_accepted q call) places)

    go : (v : Bool) → accepted centres call ≡ v → step centres (state_of b q places) (Quotes call) ≡ (done_answer answer, state_of b q' places)
    go true i =
        let one : answer ≡ Ok tt = a ∙ ap (λ v. cond v (Ok tt) (Err OutOfRange)) i in
        let two : q' ≡ after_accepted q call = e ∙ ap (λ v. cond v (after_accepted q call) q) i in
        ap ends i ∙ sym (ap (λ r. (done_answer r, state_of b q' places)) one ∙ ap (λ q. (Done, state_of b q places)) two)
    go false i =
        let one : answer ≡ Err OutOfRange = a ∙ ap (λ v. cond v (Ok tt) (Err OutOfRange)) i in
        let two : q' ≡ q = e ∙ ap (λ v. cond v (after_accepted q call) q) i in
        ap ends i ∙ sym (ap (λ r. (done_answer r, state_of b q' places)) one ∙ ap (λ q. (Refused OutOfRange, state_of b q places)) two)

-- SLIPS

-- a draw, by whether a slip of the number waits
pub draw_steps : (b : Book) (n : ℕ) (answer : Answer) (slips : List Slip) → answer ≡ drawn_told n b.slips → slips ≡ slips_drawn n b.slips → Steps b (Draw n) answer (with_slips b slips)
draw_steps b n answer slips i j centres quotes places =
    whole ∙ sym (ap (λ l. (answer, state_of (with_slips b l) quotes places)) j ∙ ap (λ a. (a, state_of (with_slips b (slips_drawn n b.slips)) quotes places)) i)
  where
    -- what is decided, answered and left, by what is found
    s : State
    s = state_of b quotes places

    taken : Option Slip → Bool → Answer × State
    taken m there = unless (decided ((not there, NoWaitingSlip) ∷ [])) s (Drawn n (read (λ slip. slip.shares) 0 m), state_of (with_slips b (map (drawn_if n) b.slips)) quotes places)

    told : Option Slip → Bool → Answer × State
    told m there = (told_of n (shares_of m), state_of (with_slips b (cond there (map (drawn_if n) b.slips) b.slips)) quotes places)

    same : (m : Option Slip) → taken m (present (shares_of m)) ≡ told m (present (shares_of m))
    same None = refl
    same (Some slip) = refl

    whole : step centres s (Draw n) ≡ (drawn_told n b.slips, state_of (with_slips b (slips_drawn n b.slips)) quotes places)
    whole =
        let there = any_present n b.slips in
        let m = found (is_waiting n) b.slips in
        ap (taken m) there ∙ (same m ∙ sym (ap (told m) there))
