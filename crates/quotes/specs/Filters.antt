-- What is shown through a filter over a source
use Rattle.std.specs.Prelude.{◌≡◌, ℕ, Bool, true, Some, None, Option, nat_lt}
use Rattle.terms.specs.declared.market.Side.{Side}
use Rattle.terms.specs.declared.market.Side.TheVariants.{Buy, Sell}
use Rattle.terms.specs.declared.market.Quote.{Quote}
use Rattle.terms.specs.Words.{keep_if}
use Rattle.quotes.specs.Quotes.{Quotes, asked, leader}

-- The quote that a centre shows, if the filter lets it through.
abbrev pub asked_through : (ℕ → Quote → Bool) → (centres : ℕ) → Quotes → ℕ → Side → Option Quote
asked_through passes centres q centre side = keep_if (passes centre) (asked centres q centre side)

-- The best price on a side among the quotes that the filter lets through, of the centres below a number.
abbrev pub best_through : (ℕ → Quote → Bool) → (centres : ℕ) → Quotes → Side → ℕ → Option ℕ
best_through passes centres q side n = leader side (λ centre. asked_through passes centres q centre side) n

-- The best bid and the best offer among the quotes that the filter lets through.
abbrev pub best_passing : (ℕ → Quote → Bool) → (centres : ℕ) → Quotes → Option ℕ × Option ℕ
best_passing passes centres q = (best_through passes centres q Buy centres, best_through passes centres q Sell centres)

-- What the filter of a layer lets through of any source is what the source shows with the layer over it.
abbrev pub ShowsWhatPasses : (passes : ℕ → Quote → Bool) → (over : Quotes → Quotes) → Type 0
ShowsWhatPasses passes over = (centres : ℕ) (q : Quotes) (centre : ℕ) (side : Side) → asked_through passes centres q centre side ≡ asked centres (over q) centre side

-- A price is better than the best so far on its side, a higher bid or a lower offer; where there is none so far, any price is.
abbrev pub leads_by : Side → Option ℕ → ℕ → Bool
leads_by side None price = true
leads_by Buy (Some best) price = nat_lt best price
leads_by Sell (Some best) price = nat_lt price best
