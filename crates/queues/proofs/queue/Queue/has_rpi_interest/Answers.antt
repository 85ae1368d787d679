use Rattle.std.proofs.Common.{rules, tests, vec_items, ◌∙◌}
use Rattle.std.proofs.lemmas.Iterator.{YieldsList-from_slice}
use Rattle.std.proofs.lemmas.Iterator.Search.{any_from_yields_List}
use Rattle.queues.specs.Queues.{rpi_interest}
use Rattle.queues.proofs.Searches.{any_listed}
use Rattle.queues.proofs.queue.Queue.has_rpi_interest.Goals as goal

pub returns : goal.returns
returns c =
    let p = rpi_interest c.args.best in
    any_from_yields_List p _ _ c.any.result c.any.ensures.ran (YieldsList-from_slice (vec_items c.args.self.now) (cc)) (λ x b q k. search (rules, tests)) ∙ any_listed p (vec_items c.args.self.now)
