use Rattle.std.proofs.Common.{arith}
use Rattle.queues.specs.Sides.{orders_of}
use Rattle.book.proofs.Numbers.{resting_length}
use Rattle.book.proofs.ledger.Book.resting_count.Goals as goal

pub returns : goal.returns
returns c =
    let b = c.args.self.now in
    omega (arith, resting_length (orders_of b.buys) (orders_of b.sells), c.len.ensures, c.len-2.ensures)
