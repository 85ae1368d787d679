use Rattle.std.proofs.Common.{◌++◌, rules}
use Rattle.queues.specs.Sides.{orders_of}
use Rattle.book.proofs.Entering.{one_each}
use Rattle.book.proofs.Numbers.{found_either}
use Rattle.book.proofs.ledger.Book.order.Goals as goal

pub returns : goal.returns
returns c =
    let b = c.args.self.now in
    let buys = orders_of b.buys in
    let sells = orders_of b.sells in
    found_either c.args.number buys sells c.find.result c.or_else.result (one_each b.last (buys ++ sells) b.numbered) c.find.ensures c.or_else.ensures (λ p. search rules)
