use Rattle.std.proofs.Common.{[], ◌∷◌, ◌++◌, map, vec_items, sym, ap, ◌∙◌, arith}
use Rattle.std.proofs.lemmas.List.{length-map, length_push, map-append}
use Rattle.std.proofs.lemmas.Result.{err_from_is_err_and}
use Rattle.terms.specs.declared.calls.Call.TheVariants.{Draw}
use Rattle.quotes.specs.Quotes.{no_quotes}
use Rattle.rules.proofs.Perms.{perm_refl, perm_is}
use Rattle.laws.specs.Book.Answer.{Drawn, Refused}
use Rattle.laws.proofs.Out.{out_few}
use Rattle.book.specs.Means.{state}
use Rattle.venue.specs.Answers.{note_of}
use Rattle.venue.proofs.Calling.{kept, together}
use Rattle.venue.proofs.Holding.{after_steps}
use Rattle.venue.proofs.venue.Venue.draw.Goals as goal

-- a refused draw
pub invariant_of-self : goal.invariant_of-self
invariant_of-self c =
    let v = c.args.self.now in
    let out = map note_of (vec_items v.held) in
    let b' = state c.draw.new.self in
    let st = c.in_err-slip.ensures 0 no_quotes [] in
    let k = kept 0 v b' no_quotes no_quotes [] [] (Draw c.args.number) (Refused c.in_err-slip.field-0.0) out st (perm_refl out) in
    record { numbered = k.0; tallied = k.1; room = v.room }

pub returns-in_err-slip-clause-step : goal.returns-in_err-slip-clause-step
returns-in_err-slip-clause-step c =
    let p = err_from_is_err_and c.from_residual.result c.from_residual.ensures.1 in
    rw (p.1, p.2) c.in_err-slip.ensures

pub returns-in_err-slip-clause-slips : goal.returns-in_err-slip-clause-slips
returns-in_err-slip-clause-slips c =
    let p = err_from_is_err_and c.from_residual.result c.from_residual.ensures.1 in
    rw p.1 (perm_refl (map note_of (vec_items c.args.self.now.held)))

-- a slip goes out
pub push_reserved-requires : goal.push_reserved-requires
push_reserved-requires c =
    let v = c.args.self.now in
    let b' = state c.draw.new.self in
    let out = map note_of (vec_items v.held) in
    let slip = c.in_ok-slip.slip in
    let h = after_steps (state v.book) b' (Draw c.args.number) (Drawn slip.number slip.shares) out c.in_ok-slip.ensures (together v) in
    omega (arith, out_few b' (out ++ note_of slip ∷ []) h, length_push out (note_of slip), length-map (vec_items v.held) note_of, v.held.ok, v.room, c.draw.new.self.slips.few, c.draw.new.self.slips.slips.ok)

pub invariant_of-self-2 : goal.invariant_of-self-2
invariant_of-self-2 c =
    let v = c.args.self.now in
    let slip = c.in_ok-slip.slip in
    let b' = state c.draw.new.self in
    let out' = map note_of (vec_items c.push_reserved.new.self) in
    let st = c.in_ok-slip.ensures 0 no_quotes [] in
    let p = perm_is (sym (map-append note_of (vec_items v.held) (slip ∷ [])) ∙ ap (map note_of) (sym c.push_reserved.ensures.items)) in
    let k = kept 0 v b' no_quotes no_quotes [] [] (Draw c.args.number) (Drawn slip.number slip.shares) out' st p in
    record { numbered = k.0; tallied = k.1; room = omega (arith, c.push_reserved.ensures.capacity, v.room) }

pub returns-clause-step : goal.returns-clause-step
returns-clause-step c = rw (c.number.ensures, c.shares.ensures) c.in_ok-slip.ensures

pub returns-clause-slips : goal.returns-clause-slips
returns-clause-slips c =
    let held = vec_items c.args.self.now.held in
    rw (c.number.ensures, c.shares.ensures)
    (perm_is (sym (map-append note_of held (c.in_ok-slip.slip ∷ [])) ∙ ap (map note_of) (sym c.push_reserved.ensures.items)))
