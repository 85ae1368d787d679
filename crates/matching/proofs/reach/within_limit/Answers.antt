use Rattle.std.proofs.Common.{rules}
use Rattle.std.proofs.lemmas.List.Sorted.{IsPartitionPoint-from_clause}
use Rattle.matching.specs.Reach.{within_limit}
use Rattle.matching.proofs.Reaching.{reached}
use Rattle.matching.proofs.reach.within_limit.Goals as goal

pub returns : goal.returns
returns c =
    let p = within_limit c.args.best c.args.order in
    reached p c.args.queue.now c.partition_point-reach.result c.partition_point-reach.ensures.bound
    (λ parted. IsPartitionPoint-from_clause p c.args.queue.now c.partition_point-reach.result c.partition_point-reach.ensures.partitioned parted (λ a r f' k. search rules))
