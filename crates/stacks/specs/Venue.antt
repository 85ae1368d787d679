-- The stack of layers that the venue runs on
use Rattle.std.specs.Prelude.{ℕ, Bool, List, None}
use Rattle.quotes.specs.Quotes.{Quotes, no_centres, with_lot, with_exceptions}
use Rattle.exception_layer.specs.Marks.{set_of}
use Rattle.scan_table.specs.declared.row.Row.{Row}
use Rattle.scan_table.specs.Rows.{scan_means}

-- What the stack means, by the lot of its lot layer, the marks of its exception layer and the rows of its scan table.
abbrev pub venue_means : ℕ → List Bool → List Row → Quotes
venue_means lot marks rows = with_lot lot (with_exceptions (set_of marks) (scan_means rows))

-- The quotes at the start of the day: nothing told, no exceptions, and a round lot of 100 shares.
abbrev pub opening_quotes : Quotes
opening_quotes = record { table = λ _ _. None; own = no_centres; beneath = no_centres; lot = 100 }
