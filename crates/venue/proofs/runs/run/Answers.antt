use Rattle.std.proofs.Common.{◌<◌, length, map, vec_items, sym, refl, ◌∙◌, arith}
use Rattle.std.proofs.lemmas.List.{length-map}
use Rattle.std.proofs.lemmas.Result.{on_ok_weaker, on_err_weaker}
use Rattle.venue.specs.Answers.{call_of}
use Rattle.venue.proofs.Running.{ran_kept}
use Rattle.venue.proofs.runs.run.Goals as goal

pub returns : goal.returns
returns g c =
    let denotes = g.S.QuoteSource.denotes in
    let calls = c.args.calls.now in
    ran_kept g.S.QuoteSource.centres (g.S.QuoteSource.means c.args.source.now) (g.S.QuoteSource.means c.follow-end.new.source) c.args.out.now c.follow-end.new.out (map (call_of denotes) calls) _ c.follow-end.new.venue _
    c.in_ok-venue.ensures.0 c.follow-end.ensures.ran refl
    (on_ok_weaker c.follow-end.result (λ n. n ∙ sym (length-map calls (call_of denotes))) c.follow-end.ensures.complete)
    (on_err_weaker c.follow-end.result (λ (lt : length (vec_items c.follow-end.new.self.answers) < length calls). omega (arith, lt, length-map calls (call_of denotes))) c.follow-end.ensures.cut_short)
