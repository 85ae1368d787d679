use Rattle.std.proofs.Common.{rules, tests, ◌≡◌, eqb, vec_items, ◌∙◌}
use Rattle.std.specs.Option.{option_map}
use Rattle.std.proofs.lemmas.Iterator.{YieldsList-from_slice}
use Rattle.std.proofs.lemmas.Iterator.Search.{find_from_yields_List}
use Rattle.terms.specs.declared.orders.RestingOrder.{RestingOrder}
use Rattle.queues.proofs.Searches.{first_found}
use Rattle.queues.proofs.queue.Queue.find.Goals as goal

pub returns : goal.returns
returns c =
    let p = λ (o : RestingOrder). eqb o.number c.args.number in
    let told : c.copied.result ≡ option_map (λ x. x.now) c.find.result = search rules in
    told ∙ (find_from_yields_List p _ _ c.find.result c.find.ensures.ran (YieldsList-from_slice (vec_items c.args.self.now) (cc)) (λ x b q k. search (rules, tests)) ∙ first_found p (vec_items c.args.self.now))
