use Rattle.slips.specs.Slips.{draw_answer}
use Rattle.std.proofs.Common.{vec_items}
use Rattle.book.specs.Means.{state}
use Rattle.book.proofs.Stepping.{draw_steps}
use Rattle.book.proofs.ledger.Book.draw.Goals as goal

pub returns : goal.returns
returns c = draw_steps (state c.args.self.now) c.args.number (draw_answer c.draw.result) (vec_items c.draw.new.self.slips) c.draw.ensures.answer c.draw.ensures.after
