use Rattle.std.proofs.Common.{get_or, refl, sym, rules}
use Rattle.quotes.proofs.Shown.{leader_none}
use Rattle.terms.specs.declared.market.Side.TheVariants.{Buy, Sell}
use Rattle.scan_table.specs.Rows.{no_row}
use Rattle.scan_table.proofs.Passing.{passing_more}
use Rattle.scan_table.proofs.ScanTableSearchable.best_passing.Goals as goal

pub loop-centre-init : goal.loop-centre-init
loop-centre-init g c = (sym (leader_none _ _), sym (leader_none _ _))

pub loop-centre-preserved : goal.loop-centre-preserved
loop-centre-preserved g c =
    let n = c.loop-centre.centre in
    let passes = g.F.Filter.passes c.args.filter.now in
    let rows = c.args.self.now.rows in (
      passing_more passes rows Buy n (get_or rows n no_row) _ _ c.loop-centre-test.true refl c.loop-centre.invariant.0 (search rules),
      passing_more passes rows Sell n (get_or rows n no_row) _ _ c.loop-centre-test.true refl c.loop-centre.invariant.1 (search rules),
    )
