use Rattle.std.proofs.Common.{false, vec_items}
use Rattle.queues.specs.Sides.{orders_of}
use Rattle.book.proofs.Stepping.{register_steps}
use Rattle.book.proofs.ledger.Book.withdraw.Goals as goal

pub returns : goal.returns
returns c =
    let b = c.args.self.now in
    register_steps false b.phase b.register.word c.withdraw.new.self.word b.last (orders_of b.buys) (orders_of b.sells) (vec_items b.slips.slips) c.args.member c.withdraw.result c.withdraw.ensures.answer
    c.withdraw.ensures.after
