-- What the definitions of the quotes owe their reader, in plain relations
use Rattle.std.specs.Prelude.{◌≡◌, ℕ, ◌<◌, ◌≤◌, Bool, true, false, ◌⊎◌, Some, None, Option, ◌≢◌}
use Rattle.terms.specs.declared.market.Side.{Side}
use Rattle.terms.specs.declared.market.Side.TheVariants.{Buy, Sell}
use Rattle.terms.specs.declared.market.Quote.{Quote}
use Rattle.terms.specs.declared.market.QuoteUpdate.{QuoteUpdate}
use Rattle.terms.specs.declared.market.QuoteCall.{QuoteCall}
use Rattle.terms.specs.declared.market.QuoteCall.TheVariants.{Tell, Declare, Lift}
use Rattle.terms.specs.Words.{ExactlyIf}
use Rattle.quotes.specs.Quotes.{Quotes, Centres, asked, after_tell, after_declare, after_lift, after_accepted, with_exceptions, with_lot, excepted}

-- A quote is shown if and only if it was told, its centre is one that the source has and is honoured, and it is large enough for the lot.
pub record Shows (centres : ℕ) (q : Quotes) (centre : ℕ) (side : Side) (quote : Quote) : Type 0 where
  pub counted : centre < centres
  pub told : q.table centre side ≡ Some quote
  pub honoured : excepted q centre ≡ false
  pub large : q.lot ≤ quote.size

-- A price is no better than p: no higher, among bids; no lower, among offers.
abbrev pub NoBetter : Side → (price p : ℕ) → Type 0
NoBetter Buy price p = price ≤ p
NoBetter Sell price p = p ≤ price

-- The protected quote of a side is shown by some centre, and no centre shows a better one; it is absent exactly if none is shown there.
abbrev pub Protects : (centres : ℕ) → Quotes → Side → Option ℕ → Type 0
Protects centres q side None = (centre : ℕ) (quote : Quote) → asked centres q centre side ≢ Some quote
Protects centres q side (Some p) =
    ((centre : ℕ) × (quote : Quote) × (asked centres q centre side ≡ Some quote) × (quote.price ≡ p))
    × ((centre : ℕ) (quote : Quote) → asked centres q centre side ≡ Some quote → NoBetter side quote.price p)

abbrev pub PairProtects : (centres : ℕ) → Quotes → Option ℕ × Option ℕ → Type 0
PairProtects centres q pair = Protects centres q Buy pair.0 × Protects centres q Sell pair.1

-- A tell writes at one centre and side: nothing of a size of 0, else this price and size. All else stays.
pub record Tells (q : Quotes) (u : QuoteUpdate) (after : Quotes) : Type 0 where
  pub taken_away : u.size ≡ 0 → after.table u.centre u.side ≡ None
  pub stored : (u.size ≢ 0) → after.table u.centre u.side ≡ Some (record { price = u.price; size = u.size })
  pub other_side : (side : Side) → (side ≢ u.side) → after.table u.centre side ≡ q.table u.centre side
  pub other_centre : (centre : ℕ) (side : Side) → (centre ≢ u.centre) → after.table centre side ≡ q.table centre side
  pub same_own : after.own ≡ q.own
  pub same_beneath : after.beneath ≡ q.beneath
  pub same_lot : after.lot ≡ q.lot

-- Declare and lift change the uppermost exception layer's mark of one centre, and all else stays.
pub record Marks (q : Quotes) (at : ℕ) (mark : Bool) (after : Quotes) : Type 0 where
  pub marked : after.own at ≡ mark
  pub other_centre : (centre : ℕ) → (centre ≢ at) → after.own centre ≡ q.own centre
  pub same_table : after.table ≡ q.table
  pub same_beneath : after.beneath ≡ q.beneath
  pub same_lot : after.lot ≡ q.lot

-- A call does what it is called: a tell tells, a declare marks its centre as excepted, a lift takes that mark away.
abbrev pub Called : Quotes → QuoteCall → (after : Quotes) → Type 0
Called q (Tell u) after = Tells q u after
Called q (Declare centre) after = Marks q centre true after
Called q (Lift centre) after = Marks q centre false after

-- A quote is shown through a lot layer exactly if it is shown below with at least the layer's own lot.
abbrev pub LotShows : (centres layer : ℕ) → Quotes → Type 0
LotShows centres layer q = (centre : ℕ) (side : Side) (quote : Quote)
    → ExactlyIf (asked centres (with_lot layer q) centre side ≡ Some quote) ((asked centres q centre side ≡ Some quote) × (layer ≤ quote.size))

-- A quote is shown through an exception layer exactly if it is shown below and its centre is not in the layer's own set.
abbrev pub ExceptionsShow : (centres : ℕ) → Centres → Quotes → Type 0
ExceptionsShow centres layer q = (centre : ℕ) (side : Side) (quote : Quote)
    → ExactlyIf (asked centres (with_exceptions layer q) centre side ≡ Some quote) ((asked centres q centre side ≡ Some quote) × (layer centre ≡ false))

-- With an exception layer over a source the own set is the layer's, a centre is excepted below it exactly if it was excepted before, and all else stays.
pub record OverExceptions (layer : Centres) (q after : Quotes) : Type 0 where
  pub own_set : after.own ≡ layer
  pub excepted_before : (centre : ℕ) → ExactlyIf (after.beneath centre ≡ true) ((q.own centre ≡ true) ⊎ (q.beneath centre ≡ true))
  pub same_table : after.table ≡ q.table
  pub same_lot : after.lot ≡ q.lot

-- With a lot layer over a source the lot is the larger of the two, and all else stays.
pub record OverLot (layer : ℕ) (q after : Quotes) : Type 0 where
  pub layer_holds : layer ≤ after.lot
  pub lot_holds : q.lot ≤ after.lot
  pub one : (after.lot ≡ layer) ⊎ (after.lot ≡ q.lot)
  pub same_table : after.table ≡ q.table
  pub same_own : after.own ≡ q.own
  pub same_beneath : after.beneath ≡ q.beneath

pub record QuotesHold (centres : ℕ) (q : Quotes) : Type 0 where
  pub shows : (centre : ℕ) (side : Side) (quote : Quote) → ExactlyIf (asked centres q centre side ≡ Some quote) (Shows centres q centre side quote)
  pub tells : (u : QuoteUpdate) → Tells q u (after_tell q u)
  pub declares : (centre : ℕ) → Marks q centre true (after_declare q centre)
  pub lifts : (centre : ℕ) → Marks q centre false (after_lift q centre)
  pub called : (call : QuoteCall) → Called q call (after_accepted q call)
  pub lot_shows : (layer : ℕ) → LotShows centres layer q
  pub exceptions_show : (layer : Centres) → ExceptionsShow centres layer q
  pub lot_over : (layer : ℕ) → OverLot layer q (with_lot layer q)
  pub exceptions_over : (layer : Centres) → OverExceptions layer q (with_exceptions layer q)

abbrev pub QuotesAlwaysHold : Type 0
QuotesAlwaysHold = (centres : ℕ) (q : Quotes) → QuotesHold centres q
