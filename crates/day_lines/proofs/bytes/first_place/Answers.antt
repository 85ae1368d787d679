use Rattle.std.proofs.Common.{rules, tests, subst, sym, ◌≤◌, ℕ, eqb, ap, length, ◌∙◌, ◌≡◌}
use Rattle.std.specs.Option.{unwrap_or}
use Rattle.std.specs.List.{position_or_len}
use Rattle.std.proofs.lemmas.Iterator.{YieldsList-from_slice}
use Rattle.std.proofs.lemmas.Iterator.Search.{position_from_yields_List}
use Rattle.day_lines.proofs.Cuts.{place_found, place_within}
use Rattle.day_lines.proofs.bytes.first_place.Goals as goal
use Rattle.day_lines.proofs.bytes.first_place.Goals.{After-unwrap_or}

found : (c : After-unwrap_or) → c.unwrap_or.result ≡ position_or_len (λ b. eqb b c.args.byte) c.args.bytes.now
found c =
    let p = λ (b : ℕ). eqb b c.args.byte in
    let told = position_from_yields_List p _ _ c.position.result c.position.ensures.ran (YieldsList-from_slice c.args.bytes.now (cc)) (λ x b q k. search (rules, tests)) in
    c.unwrap_or.ensures ∙ (ap (λ o. unwrap_or o (length c.args.bytes.now)) told ∙ place_found p c.args.bytes.now)

pub returns-clause-place : goal.returns-clause-place
returns-clause-place c = found c

pub returns-clause-within : goal.returns-clause-within
returns-clause-within c = subst (λ n. n ≤ length c.args.bytes.now) (sym (found c)) (place_within (λ b. eqb b c.args.byte) c.args.bytes.now)
