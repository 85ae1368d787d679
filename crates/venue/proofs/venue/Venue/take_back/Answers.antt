use Rattle.std.proofs.Common.{◌≡◌, [], ◌∷◌, ◌++◌, map, Err, None, vec_items, refl, ap, ◌∙◌, subst, arith}
use Rattle.std.specs.Option.{ok_or}
use Rattle.std.proofs.lemmas.Result.{err_from_is_err_and}
use Rattle.terms.specs.declared.refusals.Refusal.TheVariants.{NoDrawnSlip}
use Rattle.terms.specs.declared.calls.Call.TheVariants.{Return}
use Rattle.quotes.specs.Quotes.{no_quotes}
use Rattle.rules.proofs.Perms.{perm_refl}
use Rattle.laws.specs.Book.Answer.{Refused, Returned}
use Rattle.laws.specs.Routed.{is_note}
use Rattle.book.specs.Means.{state}
use Rattle.venue.specs.Answers.{note_of}
use Rattle.venue.specs.Holding.{FoundAt}
use Rattle.venue.proofs.Calling.{kept, together}
use Rattle.venue.proofs.Holding.{not_out, returned_number, any_map, taken, asked, gone, again}
use Rattle.venue.proofs.venue.Venue.take_back.Goals as goal

-- no such slip is out
pub returns-in_err-i-clause-step : goal.returns-in_err-i-clause-step
returns-in_err-i-clause-step c =
    let v = c.args.self.now in
    let n = c.args.number in
    let shares = c.args.shares in
    let held = vec_items v.held in
    let missing = subst (FoundAt n shares c.as_slice.result.now) c.in_err-i.ensures.ok_part c.find_slip.ensures in
    let none = subst (λ l. FoundAt n shares l None) c.as_slice.ensures.value missing in
    let told = subst (λ o. Err c.in_err-i.field-0.0 ≡ ok_or o NoDrawnSlip) c.in_err-i.ensures.ok_part c.in_err-i.ensures.value in
    let why : c.in_err-i.field-0.0 ≡ NoDrawnSlip = cc in
    let p = err_from_is_err_and c.from_residual.result c.from_residual.ensures.1 in
    rw (p.1, p.2, why) (not_out (state v.book) n shares c.args.away (map note_of held) (together v) (any_map note_of (is_note n shares) held ∙ none))

pub returns-in_err-i-clause-slips : goal.returns-in_err-i-clause-slips
returns-in_err-i-clause-slips c =
    let p = err_from_is_err_and c.from_residual.result c.from_residual.ensures.1 in
    rw p.1 (perm_refl (map note_of (vec_items c.args.self.now.held)))

-- it comes back
pub invariant_of-self : goal.invariant_of-self
invariant_of-self c =
    let v = c.args.self.now in
    let b = state v.book in
    let b' = state c.give_back.new.self in
    let n = c.args.number in
    let shares = c.args.shares in
    let held = vec_items v.held in
    let i = c.in_ok-i.i in
    let slip = c.remove-slip.result in
    let t = taken n shares held c.as_slice.result.now i slip c.as_slice.ensures.value c.in_ok-i.ensures.ok_part c.find_slip.ensures c.remove-slip.ensures.value in
    let a = c.in-Ok.answer in
    let st = asked n shares held i slip t b b' c.args.away (Returned a.number a.away a.cancelled) c.in-Ok.ensures.step in
    let p = gone n shares held i slip t b (vec_items c.remove-slip.new.self) a.number (together v) c.remove-slip.ensures.items (returned_number b b' n shares c.args.away a.number a.away a.cancelled st) in
    let out' = map note_of (vec_items c.remove-slip.new.self) in
    let k = kept 0 v b' no_quotes no_quotes [] [] (Return n shares c.args.away) (Returned a.number a.away a.cancelled) out' (st 0 no_quotes []) p in
    record { numbered = k.0; tallied = k.1; room = omega (arith, c.remove-slip.ensures.capacity, v.room) }

pub returns-in-Ok : goal.returns-in-Ok
returns-in-Ok c =
    let v = c.args.self.now in
    let b = state v.book in
    let b' = state c.give_back.new.self in
    let n = c.args.number in
    let shares = c.args.shares in
    let held = vec_items v.held in
    let i = c.in_ok-i.i in
    let slip = c.remove-slip.result in
    let t = taken n shares held c.as_slice.result.now i slip c.as_slice.ensures.value c.in_ok-i.ensures.ok_part c.find_slip.ensures c.remove-slip.ensures.value in
    let a = c.in-Ok.answer in
    let st = asked n shares held i slip t b b' c.args.away (Returned a.number a.away a.cancelled) c.in-Ok.ensures.step in
    let p = gone n shares held i slip t b (vec_items c.remove-slip.new.self) a.number (together v) c.remove-slip.ensures.items (returned_number b b' n shares c.args.away a.number a.away a.cancelled st) in
    record { step = st; plain = (refl, λ fs. refl, refl); slips = p }

-- it is refused, and is out again
pub invariant_of-self-in-Err : goal.invariant_of-self-in-Err
invariant_of-self-in-Err c =
    let v = c.args.self.now in
    let b = state v.book in
    let b' = state c.give_back.new.self in
    let n = c.args.number in
    let shares = c.args.shares in
    let held = vec_items v.held in
    let i = c.in_ok-i.i in
    let slip = c.remove-slip.result in
    let t = taken n shares held c.as_slice.result.now i slip c.as_slice.ensures.value c.in_ok-i.ensures.ok_part c.find_slip.ensures c.remove-slip.ensures.value in
    let st = asked n shares held i slip t b b' c.args.away (Refused c.in-Err.field-0.why) c.in-Err.ensures.step in
    let p = again n shares held i slip t (vec_items c.push_reserved.new.self) c.in-Err.field-0.slip c.in-Err.ensures.back (c.push_reserved.ensures.items ∙ ap (λ l. l ++ c.in-Err.field-0.slip ∷ []) c.remove-slip.ensures.items) in
    let out' = map note_of (vec_items c.push_reserved.new.self) in
    let k = kept 0 v b' no_quotes no_quotes [] [] (Return n shares c.args.away) (Refused c.in-Err.field-0.why) out' (st 0 no_quotes []) p in
    record { numbered = k.0; tallied = k.1; room = omega (arith, c.push_reserved.ensures.capacity, c.remove-slip.ensures.capacity, v.room) }

pub returns-in-Err : goal.returns-in-Err
returns-in-Err c =
    let v = c.args.self.now in
    let b = state v.book in
    let b' = state c.give_back.new.self in
    let n = c.args.number in
    let shares = c.args.shares in
    let held = vec_items v.held in
    let i = c.in_ok-i.i in
    let slip = c.remove-slip.result in
    let t = taken n shares held c.as_slice.result.now i slip c.as_slice.ensures.value c.in_ok-i.ensures.ok_part c.find_slip.ensures c.remove-slip.ensures.value in
    let st = asked n shares held i slip t b b' c.args.away (Refused c.in-Err.field-0.why) c.in-Err.ensures.step in
    let p = again n shares held i slip t (vec_items c.push_reserved.new.self) c.in-Err.field-0.slip c.in-Err.ensures.back (c.push_reserved.ensures.items ∙ ap (λ l. l ++ c.in-Err.field-0.slip ∷ []) c.remove-slip.ensures.items) in
    record { step = st; plain = (refl, λ fs. refl, refl); slips = p }
