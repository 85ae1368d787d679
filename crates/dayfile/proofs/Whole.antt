-- The laws of a day
use Rattle.std.proofs.Common.{◌≡◌, ◌≢◌, ℕ, ◌≤◌, Bool, true, false, cond, List, [], ◌∷◌, length, Ok, Err, Result, ◌++◌, append-nil, flat_map, sym, refl, ap, ◌∙◌, subst}
use Rattle.std.specs.Str.{bytes_eq}
use Rattle.std.proofs.lemmas.Bool.{le-ltb, lt-ltb}
use Rattle.std.proofs.lemmas.Slice.Eq.{bytes_eq-Decides}
use Rattle.terms.specs.declared.market.Side.TheVariants.{Buy, Sell}
use Rattle.quotes.specs.Quotes.{best_pair}
use Rattle.rules.specs.Rules.{side_on}
use Rattle.laws.proofs.Whole.{the_law}
use Rattle.stacks.specs.Venue.{opening_quotes}
use Rattle.laws.specs.Book.{State}
use Rattle.laws.specs.Steps.{step}
use Rattle.book.specs.Identified.{identifier_of}
use Rattle.day_lines.specs.Lines.{lines}
use Rattle.day_words.specs.declared.fault.FaultKind.{FaultKind}
use Rattle.day_words.specs.declared.fault.FaultKind.TheVariants.{TooLong, WrongNames}
use Rattle.day_answers.specs.declared.answer.Code.TheVariants.{Identifier as I}
use Rattle.day_answers.specs.Written.{answer_bytes, head_bytes}
use Rattle.dayfile.specs.Day.{numbered, identifier_number, answer_lines, read_answers, read_calls, names, behind_names, file_lines, file_answers, file_calls, no_fills, day_start, day_calls}
use Rattle.dayfile.specs.Writing.{lines_bytes}
use Rattle.dayfile.specs.DayLaws.{Comes, DayKept, FileHolds, RouteHolds, interest_number, LineHolds, LineMet, state_after, number_after, DayHolds}
use Rattle.dayfile.proofs.Back.{none_out}
use Rattle.dayfile.proofs.Follow.{follows}
use Rattle.dayfile.proofs.Route.{route_holds}

-- a test that does not hold
cond_false : {X : Type 0} (b : Bool) (x y : X) → (b ≡ true → ⊥) → cond b x y ≡ y
cond_false true x y h = absurd (h refl)
cond_false false x y h = refl

-- lines that do not begin with the header line
not_behind : (ls : List (List ℕ)) → ((more : List (List ℕ)) → ls ≢ names ∷ more) → behind_names ls ≡ Err WrongNames
not_behind [] h = refl
not_behind (first ∷ more) h = cond_false (bytes_eq first names) (Ok more) (Err WrongNames) (λ e. h more (ap (λ l. l ∷ more) ((bytes_eq-Decides first names).0 e)))

comes : (text : List ℕ) (r : Result (List (List ℕ)) FaultKind) → file_lines text ≡ r → Comes text (file_answers r) (file_calls r)
comes text r e = record { answered = ap file_answers e; called = ap file_calls e }

pub file_holds : (text : List ℕ) → FileHolds text
file_holds text =
    let short : length text ≤ 65_536 → file_lines text ≡ behind_names (lines text) = λ h. ap (λ b. cond b (Err TooLong) (behind_names (lines text))) (le-ltb 65_536 (length text) h) in
    record {
      too_long = λ h. comes text (Err TooLong) (ap (λ b. cond b (Err TooLong) (behind_names (lines text))) (lt-ltb 65_536 (length text) h));
      wrong_names = λ h wrong. comes text (Err WrongNames) (short h ∙ not_behind (lines text) wrong);
      line_by_line = λ h more is. comes text (Ok more) (short h ∙ ap behind_names is);
    }

-- the identifier's number, by the two sides
interest : (buys sells : Bool) → identifier_number (identifier_of buys sells) ≡ interest_number buys sells
interest true true = refl
interest true false = refl
interest false true = refl
interest false false = refl

line_holds : (s : State) (line : ℕ) (bytes : List ℕ) → LineHolds s line bytes
line_holds s line bytes = record {
  call = λ call e. record { called = ap (read_calls s) e; answered = ap (read_answers s line) e ∙ append-nil (answer_lines line call (step 32 s call).0) };
  route = λ number away e. subst (λ said. RouteHolds s line said number away) (sym e) (route_holds s line number away);
  question = λ e. record {
    called = ap (read_calls s) e;
    answered = ap (read_answers s line) e ∙ ap (λ n. numbered line I n ∷ []) (interest (side_on (best_pair 32 s.quotes) s.book.resting Buy) (side_on (best_pair 32 s.quotes) s.book.resting Sell));
  };
  fault = λ fault e. record { called = ap (read_calls s) e; answered = ap (read_answers s line) e };
}

line_met : (text bytes : List ℕ) (before after : List (List ℕ)) → LineMet text bytes before after
line_met text bytes before after is =
    let both = follows day_start 2 before (bytes ∷ after) in
    record {
      calls = ap file_calls is ∙ both.calls;
      answers = ap file_answers is ∙ both.answers;
      holds = line_holds (state_after before) (number_after before) bytes;
    }

pub day_holds : DayHolds
day_holds = record { follows = follows; lines_met = line_met; none_out = none_out; line_holds = line_holds; routes = route_holds; files = file_holds; law = λ text. the_law 32 opening_quotes no_fills (day_calls text) }

-- what is written after the header line of the answers
pub day_kept : (text before after : List ℕ) (r : Result (List (List ℕ)) FaultKind) → before ≡ head_bytes → file_lines text ≡ r → after ≡ before ++ lines_bytes (file_answers r) → DayKept text after
unfolding lines_bytes
day_kept text before after r head is told = record {
  bytes = told ∙ (ap (λ l. l ++ lines_bytes (file_answers r)) head ∙ ap (λ r. head_bytes ++ flat_map answer_bytes (file_answers r)) (sym is));
  file = file_holds text;
  lines_met = line_met text;
  law = the_law 32 opening_quotes no_fills (day_calls text);
}
