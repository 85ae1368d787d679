-- What a day does, one thing after another
use Rattle.std.proofs.Common.{◌≡◌, ℕ, ◌+◌, ◌≤◌, Bool, cond, List, [], ◌∷◌, ◌++◌, length, vec_items, append_assoc, Some, sym, refl, ap, ◌∙◌, subst, arith}
use Rattle.std.proofs.lemmas.Bool.{le-ltb}
use Rattle.terms.specs.declared.refusals.Refusal.TheVariants.{MoreThanSlip}
use Rattle.terms.specs.declared.calls.Call.TheVariants.{Draw, Return}
use Rattle.laws.specs.Book.{State}
use Rattle.laws.specs.Rows.{AnyCall}
use Rattle.laws.specs.Steps.{step, run}
use Rattle.slips.specs.Slips.{shares_waiting}
use Rattle.day_words.specs.declared.line.Line.TheVariants.{Route}
use Rattle.day_words.specs.Spelling.{read_line}
use Rattle.dayfile.specs.declared.day.Day.{Day}
use Rattle.dayfile.specs.Day.{answer_lines, calls_lines, refusal_line, route_calls, route_lines, line_calls, line_answers, read_calls, read_answers, day_calls_from, day_lines_from}
use Rattle.dayfile.specs.Doing.{day_state, Does, Leaves}
use Rattle.dayfile.specs.Writing.{lines_bytes}
use Rattle.dayfile.proofs.Behind.{behind, both_written, none_written}
use Rattle.dayfile.proofs.Follow.{run_append}

lines_append : (line : ℕ) (s : State) (xs ys : List AnyCall) → calls_lines line s (xs ++ ys) ≡ calls_lines line s xs ++ calls_lines line (run 32 s xs) ys
lines_append line s [] ys = refl
lines_append line s (x ∷ xs) ys =
    let after = (step 32 s x).1 in
    let here = answer_lines line x (step 32 s x).0 in
    ap (λ l. here ++ l) (lines_append line after xs ys) ∙ sym (append_assoc here (calls_lines line after xs) (calls_lines line (run 32 after xs) ys))

-- some calls and then others
pub calls_done : (line : ℕ) (a b c : Day) (xs ys : List AnyCall) → Does a b xs (calls_lines line (day_state a) xs) → Does b c ys (calls_lines line (day_state b) ys) → Does a c (xs ++ ys) (calls_lines line (day_state a) (xs ++ ys))
calls_done line a b c xs ys f g =
    let s = day_state a in
    record {
      made = g.made ∙ (ap (λ s. run 32 s ys) f.made ∙ sym (run_append 32 s xs ys));
      told =
          behind (vec_items a.out) (vec_items b.out) (vec_items c.out) (calls_lines line s xs) (calls_lines line (day_state b) ys) f.told g.told
          ∙ ap (λ l. vec_items a.out ++ lines_bytes l) (ap (λ t. calls_lines line s xs ++ calls_lines line t ys) f.made ∙ sym (lines_append line s xs ys));
    }

-- a slip that is drawn and returned
pub slip_done : (line number away shares : ℕ) (a b c : Day) → shares_waiting number (day_state a).book.slips ≡ Some shares → away ≤ shares
    → Does a b (Draw number ∷ []) (calls_lines line (day_state a) (Draw number ∷ []))
    → Does b c (Return number shares away ∷ []) (calls_lines line (day_state b) (Return number shares away ∷ []))
    → Does a c (line_calls (day_state a) (Route number away)) (line_answers (day_state a) line (Route number away))
slip_done line number away shares a b c waits h f g =
    let s = day_state a in
    let calls = Draw number ∷ Return number shares away ∷ [] in
    let over : Bool → Type 0 = λ b. Does a c (cond b [] calls) (cond b (refusal_line line MoreThanSlip ∷ []) (calls_lines line s calls)) in
    subst (λ w. Does a c (route_calls number away w) (route_lines line s number away w)) (sym waits)
    (subst over (sym (le-ltb shares away h)) (calls_done line a b c (Draw number ∷ []) (Return number shares away ∷ []) f g))

-- LINE AFTER LINE

pub all_left : (d : Day) (all : List (List ℕ)) → length all ≤ 65_536 → Leaves d d 2 all all
all_left d all h = record { made = refl; told = refl; few = omega arith }

pub one_less : (first now next : Day) (line : ℕ) (all left more : List (List ℕ)) (bytes : List ℕ) → left ≡ bytes ∷ more → Leaves first now line all left
    → Does now next (read_calls (day_state now) (read_line bytes)) (read_answers (day_state now) line (read_line bytes)) → Leaves first next (line + 1) all more
one_less first now next line all left more bytes is l d =
    let s = day_state now in
    let calls = read_calls s (read_line bytes) in
    let told = read_answers s line (read_line bytes) in
    let t = day_state next in
    let k = subst (λ left. Leaves first now line all left) is l in
    record {
      made = ap (λ t. run 32 t (day_calls_from t more)) d.made ∙ (sym (run_append 32 s calls (day_calls_from (run 32 s calls) more)) ∙ k.made);
      told =
          ap (λ x. x ++ lines_bytes (day_lines_from t (line + 1) more)) d.told
          ∙ (both_written (vec_items now.out) told (day_lines_from t (line + 1) more)
          ∙ (ap (λ t. vec_items now.out ++ lines_bytes (told ++ day_lines_from t (line + 1) more)) d.made ∙ k.told));
      few = omega (arith, k.few);
    }

pub none_left : (first now : Day) (line : ℕ) (all left : List (List ℕ)) → left ≡ [] → Leaves first now line all left → Does first now (day_calls_from (day_state first) all) (day_lines_from (day_state first) 2 all)
none_left first now line all left is l =
    let k = subst (λ left. Leaves first now line all left) is l in
    record { made = k.made; told = none_written (vec_items now.out) ∙ k.told }
