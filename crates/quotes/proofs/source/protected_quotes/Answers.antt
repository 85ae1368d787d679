use Rattle.quotes.proofs.Shown.{pair_protects}
use Rattle.quotes.proofs.source.protected_quotes.Goals as goal

pub returns-clause-protects : goal.returns-clause-protects
returns-clause-protects g c = rw c.best.ensures (pair_protects g.S.QuoteSource.centres (g.S.QuoteSource.means c.args.source.now))
