-- A file that is read no further than is needed is answered as the whole
use Rattle.std.proofs.Common.{◌≡◌, ℕ, ◌<◌, ◌≤◌, cond, List, [], ◌++◌, length, take, Option, Some, None, IfSome, Err, sym, ap, ◌∙◌, subst, ⊎_elim, arith}
use Rattle.std.specs.Option.{option_map}
use Rattle.std.proofs.lemmas.Bool.{cases_lt, lt-ltb}
use Rattle.std.proofs.lemmas.List.{length-take-le, take_all}
use Rattle.std.specs.Io.KnownBytes.{Appends}
use Rattle.day_lines.specs.Lines.{lines}
use Rattle.day_words.specs.declared.fault.FaultKind.TheVariants.{TooLong}
use Rattle.dayfile.specs.Day.{behind_names, file_lines, file_answers, day_bytes}
use Rattle.dayfile.specs.DayLaws.{DayKept}
use Rattle.day_answers.specs.Written.{answers_bytes}

too_long : (text : List ℕ) → 65_536 < length text → file_lines text ≡ Err TooLong
too_long text h = ap (λ b. cond b (Err TooLong) (behind_names (lines text))) (lt-ltb 65_536 (length text) h)

lines_alike : (text : List ℕ) → file_lines (take 65_537 text) ≡ file_lines text
lines_alike text =
    ⊎_elim
    (λ (h : 65_536 < length text). too_long (take 65_537 text) (let e = length-take-le 65_537 text (omega arith) in omega arith) ∙ sym (too_long text h))
    (λ (h : length text ≤ 65_536). ap file_lines (take_all 65_537 text (omega arith)))
    (cases_lt 65_536 (length text))

answered_alike : (text : List ℕ) → day_bytes (take 65_537 text) ≡ day_bytes text
answered_alike text = ap (λ ls. answers_bytes (file_answers ls)) (lines_alike text)

-- what is read of known bytes where a limit is set
known_cut : (known : Option (List ℕ)) (limit : ℕ) (old got : List ℕ) → limit ≡ 65_537 → old ≡ [] → IfSome (option_map (take limit) known) (λ xs. got ≡ old ++ xs) → IfSome known (λ text. got ≡ take 65_537 text)
known_cut None limit old got l o h = h
known_cut (Some text) limit old got l o h = h ∙ (ap (λ before. before ++ take limit text) o ∙ ap (λ n. take n text) l)

pub read_cut : (known whole : Option (List ℕ)) (limit : ℕ) (old got : List ℕ) → known ≡ whole → limit ≡ 65_537 → old ≡ [] → IfSome (option_map (take limit) known) (λ xs. got ≡ old ++ xs) → IfSome whole (λ text. got ≡ take 65_537 text)
read_cut known whole limit old got e l o h = subst (λ k. IfSome k (λ text. got ≡ take 65_537 text)) e (known_cut known limit old got l o h)

-- what is written is the answer to the whole
pub answer_written : (whole before after : Option (List ℕ)) (read given answers out : List ℕ) → IfSome whole (λ text. read ≡ take 65_537 text) → given ≡ read → DayKept given answers → out ≡ answers → Appends before after out → IfSome whole (λ text. Appends before after (day_bytes text))
answer_written None before after read given answers out r g k o h = r
answer_written (Some text) before after read given answers out r g k o h =
    subst (Appends before after) (o ∙ (k.bytes ∙ (ap day_bytes (g ∙ r) ∙ answered_alike text))) h
