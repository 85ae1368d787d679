-- What a source of quotes stands for: what its market centres were told to quote, what of it is shown, and the protected bid and offer
use Rattle.std.specs.Prelude.{ℕ, zero, suc, min, max, Bool, false, cond, not, ◌&&◌, ◌||◌, Some, None, Ok, Err, Option, Result, ◌==◌, nat_le, nat_lt}
use Rattle.terms.specs.declared.market.Side.{Side}
use Rattle.terms.specs.declared.market.Side.TheVariants.{Buy, Sell}
use Rattle.terms.specs.declared.market.Quote.{Quote}
use Rattle.terms.specs.declared.market.QuoteUpdate.{QuoteUpdate}
use Rattle.terms.specs.declared.market.QuoteCall.{QuoteCall}
use Rattle.terms.specs.declared.market.QuoteCall.TheVariants.{Tell, Declare, Lift}
use Rattle.terms.specs.declared.refusals.Refusal.{Refusal}
use Rattle.terms.specs.declared.refusals.Refusal.TheVariants.{OutOfRange}
use Rattle.terms.specs.Limits.{is_price, is_quote_size}
use Rattle.terms.specs.Words.{only_if, keep_if, same_side}

-- The told table: for each market centre and each side, no quote, or the price and the size last told.
abbrev pub Table : Type 0
Table = ℕ → Side → Option Quote

-- A set of market centres.
abbrev pub Centres : Type 0
Centres = ℕ → Bool

abbrev pub no_centres : Centres
no_centres _ = false

pub record Quotes : Type 0 where
  pub table : Table
  -- the centres that the uppermost exception layer excepts; none without such a layer
  pub own : Centres
  -- the centres that are excepted below that layer
  pub beneath : Centres
  -- the smallest size that is shown, at least 1
  pub lot : ℕ

-- A source that was told nothing, excepts nobody and has the lot 1.
abbrev pub no_quotes : Quotes
no_quotes = record { table = λ _ _. None; own = no_centres; beneath = no_centres; lot = 1 }

-- THE QUESTIONS

-- A centre under an exception need not be honoured.
abbrev pub excepted : Quotes → ℕ → Bool
excepted q centre = q.own centre || q.beneath centre

abbrev pub as_large_as : ℕ → Quote → Bool
as_large_as lot quote = nat_le lot quote.size

-- What a centre shows on a side: the quote that it was last told to have there, unless there is an exception for the centre or the quote is smaller than the lot.
abbrev pub shown : Quotes → ℕ → Side → Option Quote
shown q centre side = only_if (not (excepted q centre)) (keep_if (as_large_as q.lot) (q.table centre side))

-- What a question about one centre and side is answered: the quote that is shown there. Where the source has no such centre, there is none.
abbrev pub asked : (centres : ℕ) → Quotes → ℕ → Side → Option Quote
asked centres q centre side = only_if (nat_lt centre centres) (shown q centre side)

abbrev pub price_of : Option Quote → Option ℕ
price_of None = None
price_of (Some t) = Some t.price

-- Of two prices, either of which may be absent, the one that leads its side: the higher bid, the lower offer.
abbrev pub leading : Side → Option ℕ → Option ℕ → Option ℕ
leading side None b = b
leading side (Some a) None = Some a
leading Buy (Some a) (Some b) = Some (max a b)
leading Sell (Some a) (Some b) = Some (min a b)

-- The highest bid, or the lowest offer, among the quotes of the centres below a number.
unfoldable pub leader : Side → (ℕ → Option Quote) → ℕ → Option ℕ
leader side quote zero = None
leader side quote (suc centre) = leading side (leader side quote centre) (price_of (quote centre))

-- The protected bid, or the protected offer: the leader of the quotes that are shown.
abbrev pub protected : (centres : ℕ) → Quotes → Side → Option ℕ
protected centres q side = leader side (λ centre. shown q centre side) centres

-- Ask the best: the protected bid and the protected offer.
abbrev pub best_pair : (centres : ℕ) → Quotes → Option ℕ × Option ℕ
best_pair centres q = (protected centres q Buy, protected centres q Sell)

-- THE CALLS

-- Tell, declare and lift are refused exactly if a centre, a size or, of a size above 0, a price is out of range.
abbrev pub tell_in_range : (centres centre price size : ℕ) → Bool
tell_in_range centres centre price size = nat_lt centre centres && is_quote_size size && (size == 0 || is_price price)

abbrev pub accepted : (centres : ℕ) → QuoteCall → Bool
accepted centres (Tell u) = tell_in_range centres u.centre u.price u.size
accepted centres (Declare centre) = nat_lt centre centres
accepted centres (Lift centre) = nat_lt centre centres

-- A told size of 0 leaves no quote there, at whatever price.
abbrev pub told_quote : (price size : ℕ) → Option Quote
told_quote price size = cond (size == 0) None (Some (record { price = price; size = size }))

-- The told table with one quote told, or taken away, at one centre and side.
abbrev pub with_told : Table → ℕ → Side → Option Quote → Table
with_told t at on told = λ centre side. cond (centre == at && same_side side on) told (t centre side)

abbrev pub after_tell : Quotes → QuoteUpdate → Quotes
after_tell q u =
    record {
      table = with_told q.table u.centre u.side (told_quote u.price u.size);
      own = q.own;
      beneath = q.beneath;
      lot = q.lot;
    }

-- Declare puts a centre into the uppermost exception layer's own set; lift takes it out.
abbrev pub after_declare : Quotes → ℕ → Quotes
after_declare q declared = record { table = q.table; own = λ centre. (centre == declared) || q.own centre; beneath = q.beneath; lot = q.lot }

abbrev pub after_lift : Quotes → ℕ → Quotes
after_lift q lifted = record { table = q.table; own = λ centre. not (centre == lifted) && q.own centre; beneath = q.beneath; lot = q.lot }

abbrev pub after_accepted : Quotes → QuoteCall → Quotes
after_accepted q (Tell u) = after_tell q u
after_accepted q (Declare centre) = after_declare q centre
after_accepted q (Lift centre) = after_lift q centre

-- What a call of the quotes answers, and the quotes after it: a refused call leaves them as they were.
abbrev pub call_answer : (centres : ℕ) → QuoteCall → Result Unit Refusal
call_answer centres call = cond (accepted centres call) (Ok tt) (Err OutOfRange)

abbrev pub after_call : (centres : ℕ) → Quotes → QuoteCall → Quotes
after_call centres q call = cond (accepted centres call) (after_accepted q call) q

-- THE LAYERS

-- An exception layer with its own set of centres, over a source.
abbrev pub with_exceptions : Centres → Quotes → Quotes
with_exceptions layer q = record { table = q.table; own = layer; beneath = excepted q; lot = q.lot }

-- A lot layer with its own lot, over a source.
abbrev pub with_lot : ℕ → Quotes → Quotes
with_lot layer q = record { table = q.table; own = q.own; beneath = q.beneath; lot = max layer q.lot }
