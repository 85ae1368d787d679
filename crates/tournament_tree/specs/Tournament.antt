-- A tournament between 16 market centres, as a list of 32 places: 1 is the root, the children of k are 2k and 2k + 1, and the centres stand from 16 on
use Rattle.std.specs.Prelude.{◌≡◌, ℕ, ◌+◌, ◌*◌, ◌<◌, ◌≤◌, Bool, cond, List, Some, None, Option, nat_lt, slice_index_or}
use Rattle.terms.specs.declared.market.Side.{Side}
use Rattle.terms.specs.declared.market.Side.TheVariants.{Buy, Sell}
use Rattle.terms.specs.declared.market.Quote.{Quote}
use Rattle.terms.specs.Words.{keep_if, only_if}
use Rattle.quotes.specs.Quotes.{Quotes, no_centres, as_large_as}

-- Of two quotes, either of which may be absent, the one with the better price.
abbrev pub winner : Side → Option Quote → Option Quote → Option Quote
winner side None b = b
winner side (Some a) None = Some a
winner Buy (Some a) (Some b) = cond (nat_lt a.price b.price) (Some b) (Some a)
winner Sell (Some a) (Some b) = cond (nat_lt b.price a.price) (Some b) (Some a)

abbrev pub node : List (Option Quote) → ℕ → Option Quote
node nodes k = slice_index_or nodes k None

-- what the tournament shows of a centre: the lot is 1
abbrev pub shown_at : List (Option Quote) → ℕ → Option Quote
shown_at nodes centre = keep_if (as_large_as 1) (node nodes (16 + centre))

-- what it shows of a centre, if a filter lets it through
abbrev pub passing_at : (ℕ → Quote → Bool) → List (Option Quote) → ℕ → Option Quote
passing_at passes nodes centre = keep_if (passes centre) (only_if (nat_lt centre 16) (shown_at nodes centre))

-- The place k holds the winner of its two children.
abbrev pub Won : Side → List (Option Quote) → ℕ → Type 0
Won side nodes k = node nodes k ≡ winner side (node nodes (2 * k)) (node nodes (2 * k + 1))

-- Every place above the centres holds the winner of its children.
abbrev pub AllWon : Side → List (Option Quote) → Type 0
AllWon side nodes = (k : ℕ) → 1 ≤ k → k < 16 → Won side nodes k

-- Every centre's quote has a size of at least 1.
abbrev pub Sized : List (Option Quote) → Type 0
Sized nodes = (centre : ℕ) (quote : Quote) → node nodes (16 + centre) ≡ Some quote → 1 ≤ quote.size

abbrev pub Sound : Side → List (Option Quote) → Type 0
Sound side nodes = AllWon side nodes × Sized nodes

abbrev pub of_side : Side → List (Option Quote) → List (Option Quote) → List (Option Quote)
of_side Buy bids offers = bids
of_side Sell bids offers = offers

-- What the tree means: the quotes at its centres' places are the told table, with no exceptions, and the lot is 1.
abbrev pub tree_means : (bids offers : List (Option Quote)) → Quotes
tree_means bids offers = record { table = λ centre side. node (of_side side bids offers) (16 + centre); own = no_centres; beneath = no_centres; lot = 1 }
