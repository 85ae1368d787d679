-- A run, call by call
use Rattle.std.proofs.Common.{◌≡◌, ℕ, ◌+◌, ◌<◌, ◌≤◌, true, List, [], ◌∷◌, ◌++◌, map, length, get_or, take, drop, vec_items, Result, sym, refl, ap, ◌∙◌, subst, arith, length-drop, length-take-le, take-take}
use lib.Seq.{take-append-le, drop-append-le}
use Rattle.std.specs.List.{AllByRecursion as Each}
use Rattle.std.specs.Result.{OnOk, OnErr}
use Rattle.std.proofs.lemmas.List.{take_more, length-append, length_push, map-append}
use Rattle.std.proofs.lemmas.List.Sums.{fold-append}
use Rattle.std.proofs.lemmas.Result.{IfOk-at_ok, IfErr-at_err}
use Rattle.terms.specs.declared.orders.Fill.{Fill}
use Rattle.terms.specs.declared.refusals.Refusal.{Refusal}
use Rattle.rules.specs.Sorted.{Perm}
use Rattle.rules.specs.Sorted.Perm.{perm_nil, perm_trans}
use Rattle.rules.proofs.Members.{sum_push}
use Rattle.rules.proofs.Perms.{perm_is, perm_right}
use Rattle.quotes.specs.Quotes.{Quotes}
use Rattle.laws.specs.Book.{Book, State, empty_book}
use Rattle.laws.specs.Book.{Answer as Told}
use Rattle.laws.specs.Book.Answer.{Refused, Done, Entered, Cancelled, Traded, Drawn, Returned}
use Rattle.laws.specs.Rows.{AnyCall}
use Rattle.laws.specs.Routed.{Note, out_after, out_so_far}
use Rattle.laws.specs.Steps.{Met, step, run, trace}
use Rattle.laws.proofs.Out.{perm_kept}
use Rattle.laws.proofs.Whole.{the_law}
use Rattle.book.specs.BookState.{state_of}
use Rattle.book.specs.Means.{state}
use Rattle.venue.specs.declared.answers.Answer.{Answer}
use Rattle.venue.specs.declared.runs.Outcome.{Outcome}
use Rattle.venue.specs.declared.venue.Venue.{Venue}
use Rattle.venue.specs.Answers.{answer_of, answer_with, answers_of, all_fills, fills_in, note_of, rest_told}
use Rattle.venue.specs.Runs.{Ran, RanTo}
use Rattle.venue.proofs.Keeping.{met_last, stands_last}

-- with no call made, nothing is answered and no slip is out
pub ran_none : (centres : ℕ) (s : State) (calls : List AnyCall) (answers : List (Result Answer Refusal)) (fills : List Fill) (out : List Note) → answers ≡ [] → fills ≡ [] → out ≡ []
    → Ran centres s calls 0 answers fills s out
ran_none centres s calls answers fills out i j k = rw (i, j, k) (record { count = refl; told = refl; fits = refl; rests = tt; stands = refl; slips = perm_nil })

-- ONE CALL MORE

answers_push : (answers : List (Result Answer Refusal)) (a : Result Answer Refusal) (fills more : List Fill) → all_fills answers ≡ length fills → answers_of (answers ++ a ∷ []) (fills ++ more) ≡ answers_of answers fills ++ answer_of a more ∷ []
answers_push [] a [] more e = refl
answers_push [] a (f ∷ fs) more e = absurd (omega arith)
answers_push (x ∷ xs) a fills more e =
    let n = fills_in x in
    let within : n ≤ length fills = omega arith in
    let rest : all_fills xs ≡ length (drop n fills) = omega (arith, length-drop n fills) in
    let front = ap (answer_with x) (take-append-le n fills more within) in
    let after = ap (answers_of (xs ++ a ∷ [])) (drop-append-le n fills more within) ∙ answers_push xs a (drop n fills) more rest in
    rw (front, after)

rests_push : (answers : List (Result Answer Refusal)) (a : Result Answer Refusal) → Each (λ a. rest_told a ≡ true) answers → rest_told a ≡ true → Each (λ a. rest_told a ≡ true) (answers ++ a ∷ [])
rests_push [] a h e = (e, tt)
rests_push (x ∷ xs) a h e = (h.0, rests_push xs a h.1 e)

-- the order of the slips does not matter
out_perm : {xs ys : List Note} (a : Told) → Perm xs ys → Perm (out_after xs a) (out_after ys a)
out_perm (Refused why) p = p
out_perm Done p = p
out_perm (Entered number shares) p = p
out_perm (Cancelled number shares) p = p
out_perm (Traded t) p = p
out_perm (Drawn number shares) p = perm_right _ p
out_perm (Returned number away rest) p = perm_kept _ p

module _ (centres : ℕ) (s : State) (calls : List AnyCall) (n : ℕ) (answers : List (Result Answer Refusal)) (fills : List Fill) (now : State) (out : List Note) (g : Ran centres s calls n answers fills now out) where
  pub ran_more : (call : AnyCall) (a : Result Answer Refusal) (list : List Fill) (after : State) (answers' : List (Result Answer Refusal)) (fills' : List Fill) (out' : List Note)
      → n < length calls → call ≡ get_or calls n call → step centres now call ≡ (answer_of a list, after) → fills_in a ≤ length list
      → answers' ≡ answers ++ a ∷ [] → fills' ≡ fills ++ take (fills_in a) list → rest_told a ≡ true → Perm (out_after out (answer_of a list)) out'
      → Ran centres s calls (n + 1) answers' fills' after out'
  ran_more call a list after answers' fills' out' lt is st within i j rest p =
      let made : take (n + 1) calls ≡ take n calls ++ call ∷ [] = take_more calls n call lt ∙ ap (λ c. take n calls ++ c ∷ []) (sym is) in
      let before = trace centres s (take n calls) in
      let this : Met = record { before = now; call = call; answer = answer_of a list; after = after } in
      let met : trace centres s (take (n + 1) calls) ≡ before ++ this ∷ [] = ap (trace centres s) made ∙ met_last centres now after call (answer_of a list) st s (take n calls) g.stands in
      let k = fills_in a in
      let own : answer_of a (take k list) ≡ answer_of a list = ap (answer_with a) (take-take k k list (omega arith)) in
      record {
        count = omega (arith, ap length i, length_push answers a, g.count);
        told =
            ap (λ x. answers_of x fills') i
            ∙ (ap (answers_of (answers ++ a ∷ [])) j
            ∙ (answers_push answers a fills (take k list) g.fits
            ∙ (ap (λ l. l ++ answer_of a (take k list) ∷ []) g.told
            ∙ (ap (λ x. map (λ m. m.answer) before ++ x ∷ []) own
            ∙ sym (ap (map (λ m. m.answer)) met ∙ map-append (λ m. m.answer) before (this ∷ []))))));
        fits = omega (arith, ap all_fills i, sum_push fills_in answers a, g.fits, ap length j, length-append fills (take k list), length-take-le k list within);
        rests = subst (Each (λ a. rest_told a ≡ true)) (sym i) (rests_push answers a g.rests rest);
        stands = stands_last centres now after call (answer_of a list) st s (take n calls) g.stands ∙ ap (run centres s) (sym made);
        slips =
            perm_trans (perm_is (ap out_so_far met ∙ fold-append (λ out m. out_after out m.answer) [] before (this ∷ [])))
            (perm_trans (out_perm (answer_of a list) g.slips) p);
      }

-- WHAT A RUN LEAVES

-- what is handed back of a run that began with an empty book keeps the law
pub ran_kept : (centres : ℕ) (quotes quotes' : Quotes) (list list' : List Fill) (calls : List AnyCall) (b : Book) (v : Venue) (r : Outcome)
    → b ≡ empty_book
    → Ran centres (state_of b quotes list) calls (length (vec_items r.answers)) (vec_items r.answers) (vec_items r.fills) (state_of (state v.book) quotes' list') (map note_of (vec_items v.held))
    → r.venue ≡ v → OnOk r.end (length (vec_items r.answers) ≡ length calls) → OnErr r.end (length (vec_items r.answers) < length calls)
    → RanTo centres quotes list calls quotes' list' r (length (vec_items r.answers))
ran_kept centres quotes quotes' list list' calls b v r e g i all short =
    let n = length (vec_items r.answers) in
    let ran = subst (λ b. Ran centres (state_of b quotes list) calls n (vec_items r.answers) (vec_items r.fills) (state_of (state v.book) quotes' list') (map note_of (vec_items v.held))) e g in
    record {
      count = refl;
      answers = ran.told;
      fits = ran.fits;
      rests = ran.rests;
      state_after = ap (λ x. state_of (state x.book) quotes' list') i ∙ ran.stands;
      slips = perm_trans ran.slips (perm_is (sym (ap (λ x. map note_of (vec_items x.held)) i)));
      complete = λ ok. IfOk-at_ok (λ _. n ≡ length calls) ok all;
      cut_short = λ _ err. IfErr-at_err (λ _. n < length calls) err short;
      law = the_law centres quotes list (take n calls);
    }
