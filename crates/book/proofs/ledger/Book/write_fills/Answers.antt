use Rattle.std.proofs.Common.{ap, ◌∙◌, subst}
use Rattle.rules.specs.Rules.{eligible, fills}
use Rattle.quotes.specs.Quotes.{best_pair}
use Rattle.matching.specs.Walks.{FillAnswer}
use Rattle.queues.specs.Sides.{orders_of}
use Rattle.book.proofs.Meeting.{from_buys, from_sells}
use Rattle.book.proofs.ledger.Book.write_fills.Goals as goal
use Rattle.book.proofs.ledger.Book.write_fills.Goals.{in-Buy, in-Sell}

pub returns : goal.returns
returns g c =
    let b = c.args.self.now in
    let r = c.args.order in
    let best = best_pair g.S.QuoteSource.centres (g.S.QuoteSource.means c.args.source.now) in
    let met = λ (q : _). fills r.side (eligible q r (orders_of c.match-order.met.now)) r.shares in
    subst (λ fs. FillAnswer fs c.args.out.now c.fill_from.new.out c.fill_from.result)
    (ap met c.protected_quotes-best.ensures.best ∙ elim c.match-order.branch [
      | in-Buy w ↦ ap (λ q. fills r.side (eligible best r (orders_of q.now)) r.shares) w.met-is ∙ from_sells best r b.buys b.sells b.buying b.selling b.last b.numbered w.in-Buy.is r.shares
      | in-Sell w ↦ ap (λ q. fills r.side (eligible best r (orders_of q.now)) r.shares) w.met-is ∙ from_buys best r b.buys b.sells b.buying b.selling b.last b.numbered w.in-Sell.is r.shares
    ])
    c.fill_from.ensures
