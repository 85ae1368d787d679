use Rattle.std.proofs.Common.{◌≤◌, ◌++◌, length, length-append, vec_items, subst, sym, arith, rules}
use Rattle.rules.specs.Lists.{picked}
use Rattle.queues.proofs.Testing.{lined_from}
use Rattle.matching.specs.Lanes.{at_limit, counted, off_limit}
use Rattle.matching.specs.Reach.{Reaches, within_limit, within_offset}
use Rattle.matching.specs.Walks.{Written}
use Rattle.matching.proofs.Walking.{fills_given, fronts_count, gives_from, length_fills, queues_fit}
use Rattle.matching.proofs.walk.fill_from.Goals as goal

pub returns : goal.returns
returns c =
    let q = c.args.queues.now in
    let best = c.args.best in
    let r = c.args.order in
    let fixed = vec_items q.fixed in
    let following = vec_items q.following in
    let l = lined_from q.side fixed following (vec_items q.by_offset) q.lined q.again in
    let at = counted at_limit best r in
    let off = counted off_limit best r in
    let fronts = fronts_count best r q.side fixed following (vec_items q.by_offset) c.within_limit.result.now c.within_limit-2.result.now c.within_offset.result.now l
    (subst (λ v. Reaches (within_limit best r) v c.within_limit.result.now) c.fixed.ensures c.within_limit.ensures)
    (subst (λ v. Reaches (within_limit best r) v c.within_limit-2.result.now) c.following.ensures c.within_limit-2.ensures)
    (subst (λ v. Reaches (within_offset best r) v c.within_offset.result.now) c.by_offset.ensures c.within_offset.ensures) in
    let is = fills_given best r q.side fixed following (vec_items q.by_offset) l r.shares in
    let long : length (fixed ++ following) ≤ 256 = omega (arith, length-append fixed following, q.few, q.fixed.ok, q.following.ok) in
    let done = c.walk.ensures (picked at fixed) (picked at following) (picked off (vec_items q.by_offset))
    (record {
      fixed = gives_from fronts.fixed_front (c.new.ensures.gives at (λ o k e. search rules));
      following = gives_from fronts.following_front (c.new-2.ensures.gives at (λ o k e. search rules));
      by_offset = gives_from fronts.again_front (c.new-3.ensures.gives off (λ o k e. search rules));
      fit = queues_fit best r q.side fixed following (vec_items q.by_offset) l;
    })
    (subst (λ v. length v ≤ length c.args.out.now) (sym is) (omega (arith, length_fills best r (fixed ++ following) r.shares, long, c.if-out-lt-LEAST_FILL_PLACES.false))) in
    (c.if-out-lt-LEAST_FILL_PLACES.false, subst (λ v. Written v c.args.out.now c.walk.new.out c.walk.result) is done)
