use Rattle.std.proofs.Common.{◌+◌, ◌∙◌}
use Rattle.std.proofs.lemmas.List.{length-set}
use Rattle.plain_calls.proofs.Fronts.{fills_next}
use Rattle.plain_calls.proofs.lists.put_fills.Goals as goal

pub loop-i-preserved : goal.loop-i-preserved
loop-i-preserved c =
    let l = c.loop-i in
    let kept = length-set l.out (c.args.at + l.i) c.plain_fill.result ∙ l.invariant.0 in
    (kept, λ front list e k. fills_next front list c.args.fills.now l.out c.args.out.now c.args.at l.i _ c.plain_fill.result e k c.requires c.loop-i-test.true c.plain_fill.ensures (l.invariant.1 front list e k))
