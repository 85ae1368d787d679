-- A plain call means a call exactly if it says it
use Rattle.std.proofs.Common.{◌≡◌, ℕ, Bool, true, false, cond, List, [], ◌∷◌, Some, None, Option, eqb, refl, ap, subst, ◌∙◌}
use Rattle.std.proofs.lemmas.Bool.{eqb-true}
use Rattle.std.specs.List.{AllByRecursion as Each}
use Rattle.terms.specs.declared.market.Side.{Side}
use Rattle.terms.specs.declared.market.Side.TheVariants.{Buy, Sell}
use Rattle.terms.specs.declared.market.QuoteCall.TheVariants.{Tell, Declare, Lift}
use Rattle.terms.specs.declared.orders.OrderKind.{OrderKind}
use Rattle.terms.specs.declared.orders.OrderKind.TheVariants.{Rpi, Hidden, Displayed}
use Rattle.terms.specs.declared.orders.RetailType.{RetailType}
use Rattle.terms.specs.declared.orders.RetailType.TheVariants.{One, Two, TwoRoutable}
use Rattle.terms.specs.declared.orders.PhaseEvent.{PhaseEvent}
use Rattle.terms.specs.declared.orders.PhaseEvent.TheVariants.{Opening, Halting, Closing}
use Rattle.terms.specs.declared.calls.Call.TheVariants.{Enter, Cancel, Retail, Draw, Return, Move, Approve, Withdraw, Quotes}
use Rattle.laws.specs.Rows.{AnyCall}
use Rattle.day_words.specs.Spelling.{named, side_letters, kind_letters, retail_letters, phase_letters}
use Rattle.plain_calls.specs.declared.calls.PlainCall.{PlainCall}
use Rattle.plain_calls.specs.Meant.{Form, both, if_some, offset_of, call_letters, meant, meant_as, meant_by}
use Rattle.plain_calls.specs.Meant.Form.{Entry, Cancellation, RetailEntry, SlipOut, SlipBack, PhaseChange, Approval, Withdrawal, Telling, Exception, Lifting}
use Rattle.plain_calls.specs.MeantLaws.{Says, SaysOffset, MeaningsHold, side_letter, kind_letter, type_letter, event_letter}

-- THE LETTERS

side_named : (s : Side) → named side_letters (side_letter s) ≡ Some s
side_named Buy = refl
side_named Sell = refl

kind_named : (k : OrderKind) → named kind_letters (kind_letter k) ≡ Some k
kind_named Rpi = refl
kind_named Hidden = refl
kind_named Displayed = refl

type_named : (t : RetailType) → named retail_letters (type_letter t) ≡ Some t
type_named One = refl
type_named Two = refl
type_named TwoRoutable = refl

event_named : (e : PhaseEvent) → named phase_letters (event_letter e) ≡ Some e
event_named Opening = refl
event_named Halting = refl
event_named Closing = refl

-- THE OFFSET

offset_said : (given : Bool) (number : ℕ) (offset : Option ℕ) → SaysOffset given number offset → offset_of given number ≡ offset
offset_said false number None h = refl
offset_said false number (Some offset) h = absurd h
offset_said true number None h = absurd h
offset_said true number (Some offset) h = ap Some h

offset_meant : (given : Bool) (number : ℕ) → SaysOffset given number (offset_of given number)
offset_meant false number = tt
offset_meant true number = refl

-- WHAT IS SAID IS MEANT

says_meant : (p : PlainCall) (call : AnyCall) → Says p call → meant p ≡ Some call
says_meant p (Enter o) h = rw (h.0, h.1, h.2, side_named o.side, kind_named o.kind, h.3, h.4, offset_said p.has_offset p.offset o.offset h.5, h.6) refl
says_meant p (Cancel member number) h = rw (h.0, h.1, h.2) refl
says_meant p (Retail o places) h = rw (h.0, h.1, h.2, side_named o.side, type_named o.kind, h.3, h.4, h.5, h.6) refl
says_meant p (Draw number) h = rw (h.0, h.1) refl
says_meant p (Return number shares away) h = rw (h.0, h.1, h.2, h.3) refl
says_meant p (Move event) h = rw (h.0, h.1, event_named event) refl
says_meant p (Approve member) h = rw (h.0, h.1) refl
says_meant p (Withdraw member) h = rw (h.0, h.1) refl
says_meant p (Quotes (Tell u)) h = rw (h.0, h.1, h.2, side_named u.side, h.3, h.4) refl
says_meant p (Quotes (Declare centre)) h = rw (h.0, h.1) refl
says_meant p (Quotes (Lift centre)) h = rw (h.0, h.1) refl

-- WHAT IS MEANT IS SAID

-- In a table of letters, a letter that stands for something is the letter of that.
named_back : {X : Type 0} (letter : X → ℕ) (table : List (ℕ × X)) → Each (λ entry. entry.0 ≡ letter entry.1) table → (b : ℕ) (x : X) → named table b ≡ Some x → b ≡ letter x
named_back letter [] h b x e = absurd cc
named_back {X} letter (entry ∷ entries) h b x e = go (eqb b entry.0) refl e (named_back letter entries h.1 b x)
  where
    go : (t : Bool) → eqb b entry.0 ≡ t → cond t (Some entry.1) (named entries b) ≡ Some x → (named entries b ≡ Some x → b ≡ letter x) → b ≡ letter x
    go true k e rest = let same : entry.1 ≡ x = cc in eqb-true b entry.0 k ∙ (h.0 ∙ ap letter same)
    go false k e rest = rest e

side_back : (b : ℕ) (s : Side) → named side_letters b ≡ Some s → b ≡ side_letter s
side_back = named_back side_letter side_letters (refl, (refl, tt))

kind_back : (b : ℕ) (k : OrderKind) → named kind_letters b ≡ Some k → b ≡ kind_letter k
kind_back = named_back kind_letter kind_letters (refl, (refl, (refl, tt)))

type_back : (b : ℕ) (t : RetailType) → named retail_letters b ≡ Some t → b ≡ type_letter t
type_back = named_back type_letter retail_letters (refl, (refl, (refl, tt)))

event_back : (b : ℕ) (e : PhaseEvent) → named phase_letters b ≡ Some e → b ≡ event_letter e
event_back = named_back event_letter phase_letters (refl, (refl, (refl, tt)))

abbrev form_letter : Form → ℕ
form_letter Entry = 69
form_letter Cancellation = 67
form_letter RetailEntry = 82
form_letter SlipOut = 68
form_letter SlipBack = 66
form_letter PhaseChange = 80
form_letter Approval = 65
form_letter Withdrawal = 87
form_letter Telling = 84
form_letter Exception = 88
form_letter Lifting = 76

form_back : (b : ℕ) (f : Form) → named call_letters b ≡ Some f → b ≡ form_letter f
form_back = named_back form_letter call_letters (refl, (refl, (refl, (refl, (refl, (refl, (refl, (refl, (refl, (refl, (refl, tt)))))))))))

abbrev entered : PlainCall → Side → OrderKind → AnyCall
entered p side kind = Enter (record { member = p.who; side = side; kind = kind; limit = p.price; offset = offset_of p.has_offset p.offset; shares = p.shares })

abbrev sent : PlainCall → Side → RetailType → AnyCall
sent p side kind = Retail (record { member = p.who; side = side; kind = kind; limit = p.price; shares = p.shares }) 256

abbrev told : PlainCall → Side → AnyCall
told p side = Quotes (Tell (record { centre = p.who; side = side; price = p.price; size = p.shares }))

as_said : (form : Form) (p : PlainCall) (call : AnyCall) → p.call ≡ form_letter form → meant_as form p ≡ Some call → Says p call
as_said Entry p call e h = go (named side_letters p.side) (named kind_letters p.kind) refl refl h
  where
    go : (a : Option Side) (b : Option OrderKind) → named side_letters p.side ≡ a → named kind_letters p.kind ≡ b → both a b (entered p) ≡ Some call → Says p call
    go None b i j h = absurd cc
    go (Some a) None i j h = absurd cc
    go (Some a) (Some b) i j h = let same : entered p a b ≡ call = cc in subst (Says p) same (e, side_back p.side a i, kind_back p.kind b j, refl, refl, offset_meant p.has_offset p.offset, refl)
as_said Cancellation p call e h = let same : Cancel p.who p.number ≡ call = cc in subst (Says p) same (e, refl, refl)
as_said RetailEntry p call e h = go (named side_letters p.side) (named retail_letters p.kind) refl refl h
  where
    go : (a : Option Side) (b : Option RetailType) → named side_letters p.side ≡ a → named retail_letters p.kind ≡ b → both a b (sent p) ≡ Some call → Says p call
    go None b i j h = absurd cc
    go (Some a) None i j h = absurd cc
    go (Some a) (Some b) i j h = let same : sent p a b ≡ call = cc in subst (Says p) same (e, side_back p.side a i, type_back p.kind b j, refl, refl, refl, refl)
as_said SlipOut p call e h = let same : Draw p.number ≡ call = cc in subst (Says p) same (e, refl)
as_said SlipBack p call e h = let same : Return p.number p.shares p.away ≡ call = cc in subst (Says p) same (e, refl, refl, refl)
as_said PhaseChange p call e h = go (named phase_letters p.kind) refl h
  where
    go : (a : Option PhaseEvent) → named phase_letters p.kind ≡ a → if_some a Move ≡ Some call → Says p call
    go None i h = absurd cc
    go (Some a) i h = let same : Move a ≡ call = cc in subst (Says p) same (e, event_back p.kind a i)
as_said Approval p call e h = let same : Approve p.who ≡ call = cc in subst (Says p) same (e, refl)
as_said Withdrawal p call e h = let same : Withdraw p.who ≡ call = cc in subst (Says p) same (e, refl)
as_said Telling p call e h = go (named side_letters p.side) refl h
  where
    go : (a : Option Side) → named side_letters p.side ≡ a → if_some a (told p) ≡ Some call → Says p call
    go None i h = absurd cc
    go (Some a) i h = let same : told p a ≡ call = cc in subst (Says p) same (e, refl, side_back p.side a i, refl, refl)
as_said Exception p call e h = let same : Quotes (Declare p.who) ≡ call = cc in subst (Says p) same (e, refl)
as_said Lifting p call e h = let same : Quotes (Lift p.who) ≡ call = cc in subst (Says p) same (e, refl)

pub meant_says : (p : PlainCall) (call : AnyCall) → meant p ≡ Some call → Says p call
meant_says p call h = go (named call_letters p.call) refl h
  where
    go : (o : Option Form) → named call_letters p.call ≡ o → meant_by o p ≡ Some call → Says p call
    go None e h = absurd cc
    go (Some form) e h = as_said form p call (form_back p.call form e) h

-- WHAT MEANS NOTHING

nothing_said : (p : PlainCall) → meant p ≡ None → (call : AnyCall) → ¬ Says p call
nothing_said p e call h = let m : meant p ≡ Some call = says_meant p call h in cc

nothing_meant : (p : PlainCall) → ((call : AnyCall) → ¬ Says p call) → meant p ≡ None
nothing_meant p h = go (meant p) refl
  where
    go : (o : Option AnyCall) → meant p ≡ o → meant p ≡ None
    go None i = i
    go (Some call) i = absurd (h call (meant_says p call i))

pub meanings_hold : MeaningsHold
meanings_hold = record {
  meanings = λ p call. record { only = meant_says p call; if = says_meant p call };
  silence = λ p. record { only = nothing_said p; if = nothing_meant p };
}
