-- One call of a list more
use Rattle.std.proofs.Common.{◌≡◌, ℕ, ◌+◌, ◌<◌, List, [], ◌∷◌, ◌++◌, map, length, get_or, take, set, append_assoc, Some, sym, refl, ap, ◌∙◌, arith}
use Rattle.std.proofs.lemmas.List.{append-nil, take_more, length-append, map-append, length-map}
use Rattle.rules.specs.Lists.{picked, and_then}
use Rattle.rules.proofs.Perms.{picked_append}
use Rattle.laws.specs.Book.{State, Answer}
use Rattle.laws.specs.Rows.{AnyCall}
use Rattle.laws.specs.Steps.{step, run}
use Rattle.dayfile.proofs.Follow.{run_append}
use Rattle.plain_calls.specs.declared.answers.PlainAnswer.{PlainAnswer}
use Rattle.plain_calls.specs.declared.answers.PlainFill.{PlainFill}
use Rattle.plain_calls.specs.declared.calls.PlainCall.{PlainCall}
use Rattle.plain_calls.specs.Meant.{meant}
use Rattle.plain_calls.specs.Plain.{over, plain, plain_fills}
use Rattle.plain_calls.specs.Runs.{answers_to, calls_meant, fills_of, Made}
use Rattle.plain_calls.proofs.Fronts.{over_put}

answers_more : (s : State) (calls : List AnyCall) (call : AnyCall) → answers_to s (calls ++ call ∷ []) ≡ answers_to s calls ++ (step 32 (run 32 s calls) call).0 ∷ []
answers_more s [] call = refl
answers_more s (c ∷ cs) call = ap (λ l. (step 32 s c).0 ∷ l) (answers_more (step 32 s c).1 cs call)

pub length_answers : (s : State) (calls : List AnyCall) → length (answers_to s calls) ≡ length calls
length_answers s [] = refl
length_answers s (c ∷ cs) = omega (arith, length_answers (step 32 s c).1 cs)

fills_more : (answers : List Answer) (a : Answer) → fills_of (answers ++ a ∷ []) ≡ fills_of answers ++ plain_fills a
fills_more [] a = append-nil (plain_fills a)
fills_more (x ∷ xs) a = ap (λ l. plain_fills x ++ l) (fills_more xs a) ∙ sym (append_assoc (plain_fills x) (fills_of xs) (plain_fills a))

-- one call more is meant
meant_more : (calls : List PlainCall) (n : ℕ) (c : PlainCall) (call : AnyCall) → n < length calls → meant (get_or calls n c) ≡ Some call → calls_meant (n + 1) calls ≡ calls_meant n calls ++ call ∷ []
meant_more calls n c call lt means =
    ap (picked meant) (take_more calls n c lt)
    ∙ (picked_append meant (take n calls) (get_or calls n c ∷ []) ∙ ap (λ m. calls_meant n calls ++ and_then m []) means)

-- before any call
pub made_none : (s : State) (calls : List PlainCall) (answers : List PlainAnswer) (fills : List PlainFill) → Made s calls answers answers fills fills 0 0
made_none s calls answers fills = record { within = omega arith; all_mean = refl; answered = refl; filled = refl; counted = refl }

module _ (s : State) (calls : List PlainCall) (answers answers' answers'' : List PlainAnswer) (fills fills' fills'' : List PlainFill) (n k k' : ℕ) (now : State) (c : PlainCall) (call : AnyCall) where
  abbrev told : Answer
  told = (step 32 now call).0

  pub made_more : Made s calls answers answers' fills fills' n k → now ≡ run 32 s (calls_meant n calls) → n < length calls → meant (get_or calls n c) ≡ Some call → n < length answers
      → answers'' ≡ set answers' n (plain told)
      → ((front list : List PlainFill) → fills' ≡ over front list → length front ≡ k → fills'' ≡ over (front ++ plain_fills told) list)
      → k' ≡ k + length (plain_fills told)
      → Made s calls answers answers'' fills fills'' (n + 1) k'
  made_more m at lt means room i j counts =
      let before = calls_meant n calls in
      let so_far = answers_to s before in
      let meant_now : calls_meant (n + 1) calls ≡ before ++ call ∷ [] = meant_more calls n c call lt means in
      let more : answers_to s (calls_meant (n + 1) calls) ≡ so_far ++ told ∷ [] =
      ap (answers_to s) meant_now ∙ (answers_more s before call ∙ ap (λ t. so_far ++ (step 32 t call).0 ∷ []) (sym at)) in
      let fills_now : fills_of (answers_to s (calls_meant (n + 1) calls)) ≡ fills_of so_far ++ plain_fills told = ap fills_of more ∙ fills_more so_far told in
      let many : length (map plain so_far) ≡ n = length-map so_far plain ∙ (length_answers s before ∙ m.all_mean) in
      record {
        within = omega arith;
        all_mean = omega (arith, ap length meant_now, length-append before (call ∷ []), m.all_mean);
        answered =
            i ∙ (ap (λ l. set l n (plain told)) m.answered
            ∙ (over_put (map plain so_far) answers n (plain told) many room
            ∙ ap (λ l. over l answers) (sym (ap (map plain) more ∙ map-append plain so_far (told ∷ [])))));
        filled = j (fills_of so_far) fills m.filled m.counted ∙ ap (λ l. over l fills) (sym fills_now);
        counted = omega (arith, ap length fills_now, length-append (fills_of so_far) (plain_fills told), m.counted, counts);
      }

  -- the state after it
  pub state_more : now ≡ run 32 s (calls_meant n calls) → n < length calls → meant (get_or calls n c) ≡ Some call → (step 32 now call).1 ≡ run 32 s (calls_meant (n + 1) calls)
  state_more at lt means =
      ap (λ t. (step 32 t call).1) at
      ∙ sym (ap (run 32 s) (meant_more calls n c call lt means) ∙ run_append 32 s (calls_meant n calls) (call ∷ []))
