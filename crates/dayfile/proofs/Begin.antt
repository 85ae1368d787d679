-- A file that begins with the header line
use Rattle.std.proofs.Common.{◌≡◌, ℕ, ◌+◌, ◌≤◌, Bool, true, false, cond, eqb, List, [], ◌∷◌, length, Ok, Err, ap, ◌∙◌, arith}
use Rattle.std.specs.Str.{bytes_eq}
use Rattle.std.proofs.lemmas.Bool.{le-ltb}
use Rattle.day_lines.specs.Lines.{lines, put}
use Rattle.day_words.specs.declared.fault.FaultKind.TheVariants.{TooLong, WrongNames}
use Rattle.dayfile.specs.Day.{names, behind_names, file_lines}

put_few : (b : ℕ) (ls : List (List ℕ)) → length (put b ls) ≤ length ls + 1
put_few b [] = omega arith
put_few b (l ∷ ls) = omega arith

more_few : (b : ℕ) (ls : List (List ℕ)) (ends : Bool) (n : ℕ) → length ls ≤ n → length (cond ends ([] ∷ ls) (put b ls)) ≤ n + 1
more_few b ls true n h = omega arith
more_few b ls false n h = omega (arith, put_few b ls)

-- a text has no more lines than bytes
lines_few : (text : List ℕ) → length (lines text) ≤ length text
lines_few [] = omega arith
lines_few (b ∷ bs) = omega (arith, more_few b (lines bs) (eqb b 10) (length bs) (lines_few bs))

pub file_begun : (text first : List ℕ) (more : List (List ℕ)) → length text ≤ 65_536 → lines text ≡ first ∷ more → bytes_eq first names ≡ true → (file_lines text ≡ Ok more) × (length more ≤ 65_536)
file_begun text first more h is e = (
  ap (λ b. cond b (Err TooLong) (behind_names (lines text))) (le-ltb 65_536 (length text) h) ∙ (ap behind_names is ∙ ap (λ b. cond b (Ok more) (Err WrongNames)) e),
  omega (arith, lines_few text, ap length is),
)
