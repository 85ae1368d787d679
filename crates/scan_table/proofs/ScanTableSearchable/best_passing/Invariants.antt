use Rattle.std.proofs.Common.{◌≡◌}
use Rattle.terms.specs.declared.market.Side.TheVariants.{Buy, Sell}
use Rattle.quotes.specs.Filters.{best_through}
use Rattle.scan_table.specs.Rows.{scan_means}
use Rattle.scan_table.proofs.ScanTableSearchable.best_passing.Given as goal

abbrev pub invariant-loop-centre : goal.invariant-loop-centre
invariant-loop-centre g l =
    (l.bid ≡ best_through (g.F.Filter.passes l.filter) 32 (scan_means l.self.rows) Buy l.centre)
    × (l.offer ≡ best_through (g.F.Filter.passes l.filter) 32 (scan_means l.self.rows) Sell l.centre)
