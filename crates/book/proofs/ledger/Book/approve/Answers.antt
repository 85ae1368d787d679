use Rattle.std.proofs.Common.{true, vec_items}
use Rattle.queues.specs.Sides.{orders_of}
use Rattle.book.proofs.Stepping.{register_steps}
use Rattle.book.proofs.ledger.Book.approve.Goals as goal

pub returns : goal.returns
returns c =
    let b = c.args.self.now in
    register_steps true b.phase b.register.word c.approve.new.self.word b.last (orders_of b.buys) (orders_of b.sells) (vec_items b.slips.slips) c.args.member c.approve.result c.approve.ensures.answer
    c.approve.ensures.after
