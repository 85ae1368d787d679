use Rattle.std.proofs.Common.{◌≡◌}
use Rattle.quotes.specs.Quotes.{protected}
use Rattle.scan_table.specs.Rows.{scan_means}
use Rattle.scan_table.proofs.ScanTable.best_on.Given as goal

abbrev pub invariant-loop-row : goal.invariant-loop-row
invariant-loop-row l = l.best ≡ protected l.row-index (scan_means l.self.rows) l.side
