use Rattle.std.proofs.Common.{rules, ◌≡◌, eqb, vec_items}
use Rattle.std.specs.Option.{MatchOption}
use Rattle.terms.specs.declared.orders.RestingOrder.{RestingOrder}
use Rattle.rules.specs.Lists.{found}
use Rattle.queues.proofs.Searches.{found_either}
use Rattle.queues.proofs.side.SideQueues.find.Goals as goal

pub returns : goal.returns
returns c =
    let p = λ (o : RestingOrder). eqb o.number c.args.number in
    let told : MatchOption c.find.result (c.or_else.result ≡ found p (vec_items c.args.self.now.following)) (λ x. c.or_else.result ≡ c.find.result) = search rules in
    found_either p (vec_items c.args.self.now.fixed) (vec_items c.args.self.now.following) c.find.result c.or_else.result c.find.ensures told
