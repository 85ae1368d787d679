use Rattle.std.proofs.Common.{sym, subst, rules, tests}
use Rattle.std.proofs.lemmas.Iterator.{YieldsList-from_slice}
use Rattle.std.proofs.lemmas.Iterator.Search.{position_from_yields_List}
use Rattle.laws.specs.Routed.{is_note}
use Rattle.slips.specs.declared.slip.DrawnSlip.{DrawnSlip}
use Rattle.venue.specs.Answers.{note_of}
use Rattle.venue.specs.Holding.{FoundAt}
use Rattle.venue.proofs.Holding.{found_at}
use Rattle.venue.proofs.venue.routing.find_slip.Goals as goal

pub returns : goal.returns
returns c =
    let n = c.args.number in
    let shares = c.args.shares in
    let held = c.args.held.now in
    subst (FoundAt n shares held)
    (sym (position_from_yields_List (λ (slip : DrawnSlip). is_note n shares (note_of slip)) _ _ c.position.result c.position.ensures.ran (YieldsList-from_slice held cc) (λ x b q k. search (rules, tests))))
    (found_at n shares held)
