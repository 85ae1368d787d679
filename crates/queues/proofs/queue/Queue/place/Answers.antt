use Rattle.std.proofs.Common.{◌≡◌, vec_items, not, sym, subst, ◌∙◌, rules}
use Rattle.std.specs.List.{insert as inserted}
use Rattle.std.proofs.lemmas.List.Sorted.{IsPartitionPoint-from_clause}
use Rattle.rules.specs.Lists.{insert}
use Rattle.rules.specs.Sorted.{Sorted}
use Rattle.queues.proofs.Inserts.{before_parted, parted_insert}
use Rattle.queues.proofs.queue.Queue.place.Goals as goal

pub returns : goal.returns
returns g c = λ lt is trans sorted.
    let x = c.args.order in
    let xs = vec_items c.args.self.now in
    let i = c.partition_point-place.result in
    let here : c.deref.result.now ≡ xs = search rules in
    let put : vec_items c.insert.new.self ≡ inserted xs i x = search rules in
    let point = IsPartitionPoint-from_clause (λ y. not (lt x y)) c.deref.result.now i c.partition_point-place.ensures.partitioned
    (before_parted lt x trans c.deref.result.now (subst (Sorted lt) (sym here) sorted))
    (λ a r f' k. search rules) in
    put ∙ subst (λ v. inserted v i x ≡ insert lt x v) here (parted_insert lt x c.deref.result.now i c.partition_point-place.ensures.bound point)
