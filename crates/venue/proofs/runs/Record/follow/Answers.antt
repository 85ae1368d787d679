use Rattle.std.proofs.Common.{[], ◌∷◌, ◌++◌, map, take, vec_items, sym, ap, ◌∙◌, arith}
use Rattle.std.proofs.lemmas.List.{length-map, get_or-map}
use Rattle.venue.specs.Answers.{call_of, fills_in, note_of}
use Rattle.venue.proofs.Running.{ran_none, ran_more}
use Rattle.venue.proofs.runs.Record.follow.Goals as goal

pub loop-call-init : goal.loop-call-init
loop-call-init g c = ran_none _ _ _ _ _ _ c.requires.answers c.requires.fills (ap (map note_of) c.requires.slips)

pub loop-call-preserved : goal.loop-call-preserved
loop-call-preserved g c =
    let denotes = g.S.QuoteSource.denotes in
    let calls = c.args.calls.now in
    let i = c.loop-call.call-index in
    let l = c.loop-call in
    let made = call_of denotes c.call-item.result in
    let answers = c.note.ensures.answers ∙ ap (λ x. x ++ c.call-answer.result ∷ []) c.make_room.ensures.answers in
    let fills = c.note.ensures.fills ∙ ap (λ x. x ++ take (fills_in c.call-answer.result) c.call-answer.new.out) c.make_room.ensures.fills in
    ran_more g.S.QuoteSource.centres _ (map (call_of denotes) calls) i (vec_items l.self.answers) (vec_items l.self.fills) _ _ l.invariant
    made c.call-answer.result c.call-answer.new.out _ (vec_items c.note.new.self.answers) (vec_items c.note.new.self.fills) _
    (omega (arith, length-map calls (call_of denotes), c.loop-call-test.true))
    (ap (call_of denotes) c.call-item.is ∙ sym (get_or-map (call_of denotes) calls i c.call-item.result made c.loop-call-test.true))
    c.call-answer.ensures.step c.call-answer.ensures.within.0 answers fills c.call-answer.ensures.rest c.call-answer.ensures.slips
