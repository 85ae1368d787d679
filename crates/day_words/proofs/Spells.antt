-- What can be spelled is read as it was spelled
use Rattle.std.proofs.Common.{◌≡◌, ◌≢◌, ℕ, ◌*◌, ◌≤◌, true, List, [], ◌∷◌, length, drop, Some, None, Ok, Option, refl, ap, ◌∙◌, sym, arith, length-append}
use Rattle.std.specs.Prelude.{decimal, unwrap_or, is_some}
use Rattle.std.specs.List.{AllByRecursion as Each}
use Rattle.std.proofs.lemmas.Bool.{or_right}
use Rattle.terms.specs.declared.market.Side.{Side}
use Rattle.terms.specs.declared.market.Side.TheVariants.{Buy, Sell}
use Rattle.terms.specs.declared.market.QuoteUpdate.{QuoteUpdate}
use Rattle.terms.specs.declared.market.QuoteCall.TheVariants.{Tell, Declare, Lift}
use Rattle.terms.specs.declared.orders.NewOrder.{NewOrder}
use Rattle.terms.specs.declared.orders.RetailOrder.{RetailOrder}
use Rattle.terms.specs.declared.orders.OrderKind.{OrderKind}
use Rattle.terms.specs.declared.orders.OrderKind.TheVariants.{Rpi, Hidden, Displayed}
use Rattle.terms.specs.declared.orders.RetailType.{RetailType}
use Rattle.terms.specs.declared.orders.RetailType.TheVariants.{One, Two, TwoRoutable}
use Rattle.terms.specs.declared.orders.PhaseEvent.{PhaseEvent}
use Rattle.terms.specs.declared.orders.PhaseEvent.TheVariants.{Opening, Halting, Closing}
use Rattle.terms.specs.declared.calls.Call.TheVariants.{Enter, Cancel, Retail, Draw, Return, Move, Approve, Withdraw, Quotes}
use Rattle.day_lines.specs.Lines.{cells, places, number_of}
use Rattle.day_lines.specs.LineLaws.{Lacks, EachLacks, after_commas, joined}
use Rattle.day_lines.proofs.ReadBack.{day_lines_hold}
use Rattle.day_words.specs.declared.line.Line.{Line}
use Rattle.day_words.specs.declared.line.Line.TheVariants.{Call as Calls, Route, Identify}
use Rattle.day_words.specs.declared.fault.FaultKind.TheVariants.{NotDigits}
use Rattle.day_words.specs.Spelling.{Form, Use, is_blank, is_number, blank_or, unless, fault_of, first_fault, or_later, fault_else, call_letters, side_letters, kind_letters, retail_letters, phase_letters, letter_in, letter_of, letter_else, number_in, uses, meaning, read_line, read_by, read_fields}
use Rattle.day_words.specs.Spelling.Form.{Entry, Cancellation, RetailEntry, Telling, PhaseChange, Approval, Withdrawal, Exception, Lifting, Routing, Identifier}
use Rattle.day_words.specs.Spelling.Use.{Unused, Number, MayBeBlank}
use Rattle.day_words.specs.SpellingLaws.{WellFormed, told_blank, side_text, kind_text, retail_text, phase_text, offset_text, spell, Fits, OffsetFits, Spellable, DayWordsHold}
use Rattle.day_words.proofs.Readable.{read_spellable}
use Rattle.day_words.proofs.AsSpelled.{read_spelled}
use Rattle.day_words.proofs.Firsts.{uses_seven, number_right, read_formed, faults_hold}

-- Bytes that are right for what is asked, have no comma and are at most nine.
record Text (u : Use) (bs : List ℕ) : Type 0 where
  right : fault_of u bs ≡ None
  lacks : Lacks 44 bs
  short : length bs ≤ 9

abbrev Texts : List Use → List (List ℕ) → Type 0
Texts [] [] = Unit {0}
Texts [] (c ∷ cs) = ⊥
Texts (u ∷ us) [] = ⊥
Texts (u ∷ us) (c ∷ cs) = Text u c × Texts us cs

first_none : (us : List Use) (cs : List (List ℕ)) (ps : List ℕ) → Texts us cs → first_fault us cs ps ≡ None
first_none [] cs ps h = refl
first_none (u ∷ us) [] ps h = refl
first_none (u ∷ us) (c ∷ cs) [] h = refl
first_none (u ∷ us) (c ∷ cs) (p ∷ ps) h = ap (λ o. or_later p o (first_fault us cs ps)) h.0.right ∙ first_none us cs ps h.1

texts_lack : (us : List Use) (cs : List (List ℕ)) → Texts us cs → EachLacks 44 cs
texts_lack [] [] h = tt
texts_lack [] (c ∷ cs) h = absurd h
texts_lack (u ∷ us) [] h = tt
texts_lack (u ∷ us) (c ∷ cs) h = (h.0.lacks, texts_lack us cs h.1)

texts_length : (us : List Use) (cs : List (List ℕ)) → Texts us cs → length cs ≡ length us
texts_length [] [] h = refl
texts_length [] (c ∷ cs) h = absurd h
texts_length (u ∷ us) [] h = absurd h
texts_length (u ∷ us) (c ∷ cs) h = omega (arith, texts_length us cs h.1)

texts_short : (us : List Use) (cs : List (List ℕ)) → Texts us cs → length (after_commas cs) ≤ 10 * length cs
texts_short us [] h = omega arith
texts_short [] (c ∷ cs) h = absurd h
texts_short (u ∷ us) (c ∷ cs) h = omega (arith, length-append c (after_commas cs), h.0.short, texts_short us cs h.1)

-- a line that is written in such fields
module _ (form : Form) (letter : ℕ) (cs : List (List ℕ)) (known : letter_of call_letters (letter ∷ []) ≡ Some form) (no_comma : letter ≢ 44) (texts : Texts (uses form) cs) where
  abbrev written : List ℕ
  written = joined ((letter ∷ []) ∷ cs)

  parted : cells written ≡ (letter ∷ []) ∷ cs
  parted = day_lines_hold.fields.joined_read (letter ∷ []) cs ((no_comma, tt), texts_lack (uses form) cs texts)

  formed : WellFormed written
  formed = record {
    short = omega (arith, texts_short (uses form) cs texts, texts_length (uses form) cs texts, uses_seven form);
    eight = ap length parted ∙ omega (arith, texts_length (uses form) cs texts, uses_seven form);
  }

  read_written : read_line written ≡ Ok (meaning form ((letter ∷ []) ∷ cs))
  read_written =
      read_formed written formed
      ∙ (ap (λ f. read_fields f (places 1 f)) parted
      ∙ (ap (λ o. read_by o ((letter ∷ []) ∷ cs) (places 1 ((letter ∷ []) ∷ cs))) known
      ∙ ap (λ o. fault_else o (meaning form ((letter ∷ []) ∷ cs))) (first_none (uses form) cs (drop 1 (places 1 ((letter ∷ []) ∷ cs))) texts)))

-- the texts of a call
blank_text : Text Unused []
blank_text = record { right = refl; lacks = tt; short = omega arith }

written_number : (n : ℕ) → Fits n → number_of (decimal n) ≡ Some n
written_number n h = day_lines_hold.numbers.written_read n h

no_commas : (bs : List ℕ) → Each (λ b. (48 ≤ b) × (b ≤ 57)) bs → Lacks 44 bs
no_commas [] h = tt
no_commas (b ∷ bs) h = (λ e. omega (arith, h.0.0), no_commas bs h.1)

number_text : (n : ℕ) → Fits n → Text Number (decimal n) × Text MayBeBlank (decimal n)
number_text n h =
    let one : is_number (decimal n) ≡ true = ap is_some (written_number n h) in
    let is = number_right (decimal n) one in (
      record { right = ap (λ t. unless t (blank_or NotDigits (decimal n))) one; lacks = no_commas (decimal n) is.digits; short = is.few },
      record { right = ap (λ t. unless t NotDigits) (or_right (is_blank (decimal n)) (is_number (decimal n)) one); lacks = no_commas (decimal n) is.digits; short = is.few },
    )

offset_right : (o : Option ℕ) → OffsetFits o → Text MayBeBlank (offset_text o)
offset_right None h = record { right = refl; lacks = tt; short = omega arith }
offset_right (Some n) h = (number_text n h).1

side_right : (side : Side) → Text (letter_in side_letters) (side_text side)
side_right Buy = record { right = refl; lacks = (λ e. omega arith, tt); short = omega arith }
side_right Sell = record { right = refl; lacks = (λ e. omega arith, tt); short = omega arith }

kind_right : (kind : OrderKind) → Text (letter_in kind_letters) (kind_text kind)
kind_right Rpi = record { right = refl; lacks = (λ e. omega arith, tt); short = omega arith }
kind_right Hidden = record { right = refl; lacks = (λ e. omega arith, tt); short = omega arith }
kind_right Displayed = record { right = refl; lacks = (λ e. omega arith, tt); short = omega arith }

retail_right : (kind : RetailType) → Text (letter_in retail_letters) (retail_text kind)
retail_right One = record { right = refl; lacks = (λ e. omega arith, tt); short = omega arith }
retail_right Two = record { right = refl; lacks = (λ e. omega arith, tt); short = omega arith }
retail_right TwoRoutable = record { right = refl; lacks = (λ e. omega arith, tt); short = omega arith }

phase_right : (event : PhaseEvent) → Text (letter_in phase_letters) (phase_text event)
phase_right Opening = record { right = refl; lacks = (λ e. omega arith, tt); short = omega arith }
phase_right Halting = record { right = refl; lacks = (λ e. omega arith, tt); short = omega arith }
phase_right Closing = record { right = refl; lacks = (λ e. omega arith, tt); short = omega arith }

-- what the texts are read as
number_back : (n : ℕ) → Fits n → number_in (decimal n) ≡ n
number_back n h = ap (λ o. unwrap_or o 0) (written_number n h)

offset_back : (o : Option ℕ) → OffsetFits o → number_of (offset_text o) ≡ o
offset_back None h = refl
offset_back (Some n) h = written_number n h

side_back : (side : Side) → letter_else Buy side_letters (side_text side) ≡ side
side_back Buy = refl
side_back Sell = refl

kind_back : (kind : OrderKind) → letter_else Rpi kind_letters (kind_text kind) ≡ kind
kind_back Rpi = refl
kind_back Hidden = refl
kind_back Displayed = refl

retail_back : (kind : RetailType) → letter_else One retail_letters (retail_text kind) ≡ kind
retail_back One = refl
retail_back Two = refl
retail_back TwoRoutable = refl

phase_back : (event : PhaseEvent) → letter_else Opening phase_letters (phase_text event) ≡ event
phase_back Opening = refl
phase_back Halting = refl
phase_back Closing = refl

-- a number, and else blanks
one_number : (n : ℕ) → Fits n → Texts (Number ∷ Unused ∷ Unused ∷ Unused ∷ Unused ∷ Unused ∷ Unused ∷ []) (decimal n ∷ [] ∷ [] ∷ [] ∷ [] ∷ [] ∷ [] ∷ [])
one_number n h = ((number_text n h).0, (blank_text, (blank_text, (blank_text, (blank_text, (blank_text, (blank_text, tt)))))))

-- calls with the same parts
enter_same : (o : NewOrder) (m l n : ℕ) (s : Side) (k : OrderKind) (f : Option ℕ) → m ≡ o.member → s ≡ o.side → k ≡ o.kind → l ≡ o.limit → f ≡ o.offset → n ≡ o.shares
    → Calls (Enter (record { member = m; side = s; kind = k; limit = l; offset = f; shares = n })) ≡ Calls (Enter o)
enter_same o m l n s k f a b c d e g = rw (a, b, c, d, e, g)

retail_same : (o : RetailOrder) (m l n room : ℕ) (s : Side) (k : RetailType) → m ≡ o.member → s ≡ o.side → k ≡ o.kind → l ≡ o.limit → n ≡ o.shares → room ≡ 256
    → Calls (Retail (record { member = m; side = s; kind = k; limit = l; shares = n }) 256) ≡ Calls (Retail o room)
retail_same o m l n room s k a b c d e g = rw (a, b, c, d, e, g)

tell_same : (u : QuoteUpdate) (m p n : ℕ) (s : Side) → m ≡ u.centre → s ≡ u.side → p ≡ u.price → n ≡ u.size
    → Calls (Quotes (Tell (record { centre = m; side = s; price = p; size = n }))) ≡ Calls (Quotes (Tell u))
tell_same u m p n s a b c d = rw (a, b, c, d)

cancel_same : (m n m' n' : ℕ) → m ≡ m' → n ≡ n' → Calls (Cancel m n) ≡ Calls (Cancel m' n')
cancel_same m n m' n' a b = cc

route_same : (m n m' n' : ℕ) → m ≡ m' → n ≡ n' → Route m n ≡ Route m' n'
route_same m n m' n' a b = cc

spelled_read : (line : Line) → Spellable line → read_line (spell line) ≡ Ok line
spelled_read (Calls (Enter o)) h =
    read_written Entry 69 (decimal o.member ∷ side_text o.side ∷ kind_text o.kind ∷ decimal o.limit ∷ offset_text o.offset ∷ decimal o.shares ∷ [] ∷ []) refl (λ e. omega arith)
    ((number_text o.member h.0).0, (side_right o.side, (kind_right o.kind, ((number_text o.limit h.1).0, (offset_right o.offset h.2, ((number_text o.shares h.3).0, (blank_text, tt)))))))
    ∙ ap Ok (enter_same o _ _ _ _ _ _ (number_back o.member h.0) (side_back o.side) (kind_back o.kind) (number_back o.limit h.1) (offset_back o.offset h.2) (number_back o.shares h.3))
spelled_read (Calls (Cancel member number)) h =
    read_written Cancellation 67 (decimal member ∷ [] ∷ [] ∷ [] ∷ [] ∷ [] ∷ decimal number ∷ []) refl (λ e. omega arith)
    ((number_text member h.0).0, (blank_text, (blank_text, (blank_text, (blank_text, (blank_text, ((number_text number h.1).0, tt)))))))
    ∙ ap Ok (cancel_same _ _ _ _ (number_back member h.0) (number_back number h.1))
spelled_read (Calls (Retail o room)) h =
    read_written RetailEntry 82 (decimal o.member ∷ side_text o.side ∷ retail_text o.kind ∷ decimal o.limit ∷ [] ∷ decimal o.shares ∷ [] ∷ []) refl (λ e. omega arith)
    ((number_text o.member h.0).0, (side_right o.side, (retail_right o.kind, ((number_text o.limit h.1).0, (blank_text, ((number_text o.shares h.2).0, (blank_text, tt)))))))
    ∙ ap Ok (retail_same o _ _ _ room _ _ (number_back o.member h.0) (side_back o.side) (retail_back o.kind) (number_back o.limit h.1) (number_back o.shares h.2) h.3)
spelled_read (Calls (Draw number)) h = absurd h
spelled_read (Calls (Return number shares away)) h = absurd h
spelled_read (Calls (Move event)) h =
    read_written PhaseChange 80 ([] ∷ [] ∷ phase_text event ∷ [] ∷ [] ∷ [] ∷ [] ∷ []) refl (λ e. omega arith)
    (blank_text, (blank_text, (phase_right event, (blank_text, (blank_text, (blank_text, (blank_text, tt)))))))
    ∙ ap (λ x. Ok (Calls (Move x))) (phase_back event)
spelled_read (Calls (Approve member)) h =
    read_written Approval 65 (decimal member ∷ [] ∷ [] ∷ [] ∷ [] ∷ [] ∷ [] ∷ []) refl (λ e. omega arith) (one_number member h)
    ∙ ap (λ x. Ok (Calls (Approve x))) (number_back member h)
spelled_read (Calls (Withdraw member)) h =
    read_written Withdrawal 87 (decimal member ∷ [] ∷ [] ∷ [] ∷ [] ∷ [] ∷ [] ∷ []) refl (λ e. omega arith) (one_number member h)
    ∙ ap (λ x. Ok (Calls (Withdraw x))) (number_back member h)
spelled_read (Calls (Quotes (Tell u))) h =
    read_written Telling 84 (decimal u.centre ∷ side_text u.side ∷ [] ∷ decimal u.price ∷ [] ∷ decimal u.size ∷ [] ∷ []) refl (λ e. omega arith)
    ((number_text u.centre h.0).0, (side_right u.side, (blank_text, ((number_text u.price h.1).1, (blank_text, ((number_text u.size h.2).0, (blank_text, tt)))))))
    ∙ ap Ok (tell_same u _ _ _ _ (number_back u.centre h.0) (side_back u.side) (number_back u.price h.1) (number_back u.size h.2))
spelled_read (Calls (Quotes (Declare centre))) h =
    read_written Exception 88 (decimal centre ∷ [] ∷ [] ∷ [] ∷ [] ∷ [] ∷ [] ∷ []) refl (λ e. omega arith) (one_number centre h)
    ∙ ap (λ x. Ok (Calls (Quotes (Declare x)))) (number_back centre h)
spelled_read (Calls (Quotes (Lift centre))) h =
    read_written Lifting 76 (decimal centre ∷ [] ∷ [] ∷ [] ∷ [] ∷ [] ∷ [] ∷ []) refl (λ e. omega arith) (one_number centre h)
    ∙ ap (λ x. Ok (Calls (Quotes (Lift x)))) (number_back centre h)
spelled_read (Route number away) h =
    read_written Routing 83 ([] ∷ [] ∷ [] ∷ [] ∷ [] ∷ decimal away ∷ decimal number ∷ []) refl (λ e. omega arith)
    (blank_text, (blank_text, (blank_text, (blank_text, (blank_text, ((number_text away h.1).0, ((number_text number h.0).0, tt)))))))
    ∙ ap Ok (route_same _ _ _ _ (number_back number h.0) (number_back away h.1))
spelled_read Identify h =
    read_written Identifier 73 ([] ∷ [] ∷ [] ∷ [] ∷ [] ∷ [] ∷ [] ∷ []) refl (λ e. omega arith)
    (blank_text, (blank_text, (blank_text, (blank_text, (blank_text, (blank_text, (blank_text, tt)))))))

blank_price : (u : QuoteUpdate) → Fits u.centre → u.price ≡ 0 → Fits u.size → read_line (joined (told_blank u)) ≡ Ok (Calls (Quotes (Tell u)))
blank_price u a b c =
    read_written Telling 84 (decimal u.centre ∷ side_text u.side ∷ [] ∷ [] ∷ [] ∷ decimal u.size ∷ [] ∷ []) refl (λ e. omega arith)
    ((number_text u.centre a).0, (side_right u.side, (blank_text, (offset_right None tt, (blank_text, ((number_text u.size c).0, (blank_text, tt)))))))
    ∙ ap Ok (tell_same u _ _ _ _ (number_back u.centre a) (side_back u.side) (sym b) (number_back u.size c))

pub day_words_hold : DayWordsHold
day_words_hold = record {
  faults = faults_hold;
  spelling = record { spelled_read = spelled_read; blank_price = blank_price; read_spellable = read_spellable; read_spelled = read_spelled };
}
