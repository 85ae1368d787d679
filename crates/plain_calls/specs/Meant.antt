-- What a call means that is written as plain numbers
use Rattle.std.specs.Prelude.{ℕ, Bool, cond, List, [], ◌∷◌, Some, None, Option}
use Rattle.terms.specs.declared.market.QuoteCall.TheVariants.{Tell, Declare, Lift}
use Rattle.terms.specs.declared.calls.Call.TheVariants.{Enter, Cancel, Retail, Draw, Return, Move, Approve, Withdraw, Quotes}
use Rattle.laws.specs.Rows.{AnyCall}
use Rattle.day_words.specs.Spelling.{named, side_letters, kind_letters, retail_letters, phase_letters}
use Rattle.plain_calls.specs.declared.calls.PlainCall.{PlainCall}

-- What a call is, by its letter.
pub data Form : Type 0 where
  Entry : Form
  Cancellation : Form
  RetailEntry : Form
  SlipOut : Form
  SlipBack : Form
  PhaseChange : Form
  Approval : Form
  Withdrawal : Form
  Telling : Form
  Exception : Form
  Lifting : Form

-- The letters E, C, R, D, B, P, A, W, T, X and L. Those of sides and kinds are the day file's.
abbrev pub call_letters : List (ℕ × Form)
call_letters =
    (69, Entry) ∷ (67, Cancellation) ∷ (82, RetailEntry) ∷ (68, SlipOut) ∷ (66, SlipBack) ∷ (80, PhaseChange) ∷ (65, Approval) ∷ (87, Withdrawal) ∷ (84, Telling) ∷ (88, Exception) ∷ (76, Lifting) ∷ []

-- What two letters say together, if each stands for something.
abbrev pub both : {X Y : Type 0} → Option X → Option Y → (X → Y → AnyCall) → Option AnyCall
both None y f = None
both (Some x) None f = None
both (Some x) (Some y) f = Some (f x y)

-- The same of one letter.
abbrev pub if_some : {X : Type 0} → Option X → (X → AnyCall) → Option AnyCall
if_some None f = None
if_some (Some x) f = Some (f x)

abbrev pub offset_of : Bool → ℕ → Option ℕ
offset_of given offset = cond given (Some offset) None

-- What a call of a form means. A Retail Order is lent 256 places for its fills.
abbrev pub meant_as : Form → PlainCall → Option AnyCall
meant_as Entry c =
    both (named side_letters c.side) (named kind_letters c.kind) (λ side kind. Enter (record { member = c.who; side = side; kind = kind; limit = c.price; offset = offset_of c.has_offset c.offset; shares = c.shares }))
meant_as Cancellation c = Some (Cancel c.who c.number)
meant_as RetailEntry c =
    both (named side_letters c.side) (named retail_letters c.kind) (λ side kind. Retail (record { member = c.who; side = side; kind = kind; limit = c.price; shares = c.shares }) 256)
meant_as SlipOut c = Some (Draw c.number)
meant_as SlipBack c = Some (Return c.number c.shares c.away)
meant_as PhaseChange c = if_some (named phase_letters c.kind) Move
meant_as Approval c = Some (Approve c.who)
meant_as Withdrawal c = Some (Withdraw c.who)
meant_as Telling c = if_some (named side_letters c.side) (λ side. Quotes (Tell (record { centre = c.who; side = side; price = c.price; size = c.shares })))
meant_as Exception c = Some (Quotes (Declare c.who))
meant_as Lifting c = Some (Quotes (Lift c.who))

abbrev pub meant_by : Option Form → PlainCall → Option AnyCall
meant_by None c = None
meant_by (Some form) c = meant_as form c

-- The call that is meant, if its letter stands for one and each letter that this uses stands for something.
abbrev pub meant : PlainCall → Option AnyCall
meant c = meant_by (named call_letters c.call) c
