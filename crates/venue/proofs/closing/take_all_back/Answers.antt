use Rattle.std.proofs.Common.{[], map, vec_items, sym, ◌∙◌, rules}
use Rattle.laws.specs.Routed.{InStep}
use Rattle.book.specs.Means.{state}
use Rattle.venue.specs.Answers.{note_of}
use Rattle.venue.proofs.Settling.{back_is_all, come_back, one_fewer, taken_back}
use Rattle.venue.proofs.closing.take_all_back.Goals as goal

pub loop-slip-preserved : goal.loop-slip-preserved
loop-slip-preserved c =
    let l = c.loop-slip in
    let fewer = one_fewer (state l.book) (state c.give_back.new.self) (vec_items l.slips) (vec_items c.pop.new.self) c.in-Some.slip c.in-Some.ensures.items l.invariant.0 c.give_back.result c.give_back.ensures.step in
    (fewer.0, fewer.1 ∙ l.invariant.1)

-- the book has each slip as drawn
pub unwrap-requires : goal.unwrap-requires
unwrap-requires c =
    let l = c.loop-slip in
    taken_back (state l.book) (state c.give_back.new.self) (vec_items l.slips) (vec_items c.pop.new.self) c.in-Some.slip c.in-Some.ensures.items l.invariant.0 c.give_back.result c.give_back.ensures.step

pub returns : goal.returns
returns c =
    let l = c.loop-slip in
    let none : InStep (state l.book) [] = search rules in
    come_back (state c.args.book.now) (state l.book) (map note_of (vec_items c.args.slips)) c.requires (sym (back_is_all (state l.book) none) ∙ l.invariant.1) none
