-- A routed slip
use Rattle.std.proofs.Common.{◌≡◌, ℕ, ◌-◌, ◌≤◌, Bool, true, false, cond, not, ◌||◌, ◌&&◌, eqb, ltb, List, [], ◌∷◌, ◌++◌, append-nil, map, Some, None, Ok, Option, Result, refl, ap, ◌∙◌, subst, arith}
use borrow.Author.Tests.{ne_eqb}
use Rattle.std.proofs.lemmas.Bool.{and_from, and_parts, eq-eqb, le-ltb, lt-ltb, or_right}
use Rattle.terms.specs.declared.orders.Slip.{Slip}
use Rattle.terms.specs.declared.refusals.Refusal.TheVariants.{NoWaitingSlip, NoDrawnSlip, MoreThanSlip}
use Rattle.terms.specs.declared.calls.Call.TheVariants.{Draw, Return}
use Rattle.rules.specs.Lists.{any, found, present}
use Rattle.laws.specs.Book.{State, Answer, is_waiting, is_drawn, drawn_if, after_draw}
use Rattle.laws.specs.Rows.{AnyCall, decided}
use Rattle.laws.specs.Steps.{of_book, step, accepts, unless}
use Rattle.slips.specs.Slips.{shares_of, shares_waiting}
use Rattle.slips.proofs.Slipping.{any_present}
use Rattle.day_words.specs.declared.fault.Fault.{Fault}
use Rattle.day_words.specs.declared.line.Line.{Line}
use Rattle.day_words.specs.declared.line.Line.TheVariants.{Route}
use Rattle.day_answers.specs.declared.answer.AnswerLine.{AnswerLine}
use Rattle.day_answers.specs.declared.answer.Code.TheVariants.{Away as B, Cancelled as K}
use Rattle.dayfile.specs.Day.{counted, if_any, answer_lines, calls_lines, route_calls, route_lines, refusal_line}
use Rattle.dayfile.specs.DayLaws.{Makes, RouteHolds}

cond_true : (b c : Bool) → c ≡ true → cond b true c ≡ true
cond_true true c e = refl
cond_true false c e = e

-- the slip that waited is out once it is drawn, with the same shares
out_here : (n shares : ℕ) (x : Slip) → is_waiting n x ≡ true → x.shares ≡ shares → is_drawn n shares (drawn_if n x) ≡ true
out_here n shares x w is =
    let e = (and_parts (eqb x.number n) (not x.drawn) w).0 in
    and_from (eqb x.number n) ((x.drawn || eqb x.number n) && eqb x.shares shares) e (and_from (x.drawn || eqb x.number n) (eqb x.shares shares) (or_right x.drawn (eqb x.number n) e) (eq-eqb x.shares shares is))

out_first : (n shares : ℕ) (x : Slip) (xs : List Slip) (b : Bool) → is_waiting n x ≡ b → (shares_waiting n xs ≡ Some shares → any (is_drawn n shares) (map (drawn_if n) xs) ≡ true)
    → shares_of (cond b (Some x) (found (is_waiting n) xs)) ≡ Some shares → any (is_drawn n shares) (map (drawn_if n) (x ∷ xs)) ≡ true
out_first n shares x xs true w h e = ap (λ b. cond b true (any (is_drawn n shares) (map (drawn_if n) xs))) (out_here n shares x w (cc))
out_first n shares x xs false w h e = cond_true (is_drawn n shares (drawn_if n x)) (any (is_drawn n shares) (map (drawn_if n) xs)) (h e)

pub out_after_draw : (n shares : ℕ) (xs : List Slip) → shares_waiting n xs ≡ Some shares → any (is_drawn n shares) (map (drawn_if n) xs) ≡ true
out_after_draw n shares [] e = cc
out_after_draw n shares (x ∷ xs) e = out_first n shares x xs (is_waiting n x) refl (out_after_draw n shares xs) e

module _ (s : State) (n : ℕ) where
  pub waits : (w : Option ℕ) → shares_waiting n s.book.slips ≡ w → any (is_waiting n) s.book.slips ≡ present w
  waits w e = any_present n s.book.slips ∙ ap present e

  pub draw_step : (b : Bool) → any (is_waiting n) s.book.slips ≡ b → step 32 s (Draw n) ≡ unless (decided ((not b, NoWaitingSlip) ∷ [])) s (accepts 32 s (Draw n))
  draw_step b e = ap (λ b. unless (decided ((not b, NoWaitingSlip) ∷ [])) s (accepts 32 s (Draw n))) e

pub return_step : (s : State) (n shares away : ℕ) → any (is_drawn n shares) s.book.slips ≡ true → ltb shares away ≡ false → step 32 s (Return n shares away) ≡ accepts 32 s (Return n shares away)
return_step s n shares away e f =
    ap (λ b. unless (decided ((not b, NoDrawnSlip) ∷ (ltb shares away, MoreThanSlip) ∷ [])) s (accepts 32 s (Return n shares away))) e
    ∙ ap (λ b. unless (decided ((b, MoreThanSlip) ∷ [])) s (accepts 32 s (Return n shares away))) f

-- a slip that is drawn and returned
routed : (s : State) (line number away shares : ℕ) → shares_waiting number s.book.slips ≡ Some shares → away ≤ shares
    → Makes s line (Ok (Route number away)) (Draw number ∷ Return number shares away ∷ []) (counted line B number away ∷ if_any line K number (shares - away))
routed s line number away shares e h =
    let over = le-ltb shares away h in
    let there = λ (st : Answer × State). calls_lines line st.1 (Return number shares away ∷ []) in
    record {
      called = ap (route_calls number away) e ∙ ap (λ b. cond b [] (Draw number ∷ Return number shares away ∷ [])) over;
      answered =
          ap (route_lines line s number away) e
          ∙ (ap (λ b. cond b (refusal_line line MoreThanSlip ∷ []) (calls_lines line s (Draw number ∷ Return number shares away ∷ []))) over
          ∙ (ap (λ st. answer_lines line (Draw number) st.0 ++ there st) (draw_step s number true (waits s number (Some shares) e))
          ∙ (ap (λ st. answer_lines line (Return number shares away) st.0 ++ []) (return_step (of_book s (after_draw s.book number)) number shares away (out_after_draw number shares s.book.slips e) over)
          ∙ append-nil (counted line B number away ∷ if_any line K number (shares - away)))));
    }

-- with other answers, which are the same
answered_so : (s : State) (line : ℕ) (said : Result Line Fault) (calls : List AnyCall) (xs ys : List AnswerLine) → xs ≡ ys → Makes s line said calls xs → Makes s line said calls ys
answered_so s line said calls xs ys e m = subst (Makes s line said calls) e m

any_line : (line number shares : ℕ) (none : Bool) → eqb shares 0 ≡ none → if_any line K number shares ≡ cond none [] (counted line K number shares ∷ [])
any_line line number shares none e = ap (λ b. cond b [] (counted line K number shares ∷ [])) e

pub route_holds : (s : State) (line number away : ℕ) → RouteHolds s line (Ok (Route number away)) number away
route_holds s line number away = record {
  none = λ e. record {
    called = ap (route_calls number away) e;
    answered = ap (route_lines line s number away) e ∙ ap (λ r. answer_lines line (Draw number) r.0 ++ []) (draw_step s number false (waits s number None e));
  };
  too_many = λ shares e h. record {
    called = ap (route_calls number away) e ∙ ap (λ b. cond b [] (Draw number ∷ Return number shares away ∷ [])) (lt-ltb shares away h);
    answered = ap (route_lines line s number away) e ∙ ap (λ b. cond b (refusal_line line MoreThanSlip ∷ []) (calls_lines line s (Draw number ∷ Return number shares away ∷ []))) (lt-ltb shares away h);
  };
  whole = λ shares e h.
      let nothing : shares - away ≡ 0 = omega arith in
      let none = any_line line number (shares - away) true (eq-eqb (shares - away) 0 nothing) in
      answered_so s line (Ok (Route number away)) (Draw number ∷ Return number shares away ∷ []) _ _ (ap (λ l. counted line B number away ∷ l) none) (routed s line number away shares e (omega arith));
  part = λ shares e h.
      let some = any_line line number (shares - away) false (ne_eqb (shares - away) 0 (λ q. omega arith)) in
      answered_so s line (Ok (Route number away)) (Draw number ∷ Return number shares away ∷ []) _ _ (ap (λ l. counted line B number away ∷ l) some) (routed s line number away shares e (omega arith));
}
