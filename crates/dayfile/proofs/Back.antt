-- No slip is out when a line comes
use Rattle.std.proofs.Common.{◌≡◌, ℕ, Bool, true, false, cond, not, eqb, ltb, List, [], ◌∷◌, filter, Some, None, Ok, Err, Option, Result, sym, refl, ap, subst}
use Rattle.std.proofs.lemmas.Bool.{eq-eqb}
use Rattle.terms.specs.declared.calls.Call.TheVariants.{Enter, Cancel, Retail, Draw, Return, Move, Approve, Withdraw, Quotes}
use Rattle.rules.specs.Sorted.{Perm}
use Rattle.rules.specs.Sorted.Perm.{perm_nil, perm_cons, perm_swap, perm_trans}
use Rattle.laws.specs.Book.{State, after_draw, slip_shares}
use Rattle.laws.specs.Rows.{AnyCall, decided, refusals}
use Rattle.laws.specs.Routed.{InStep, Note, drawn_notes, out_after}
use Rattle.laws.specs.Steps.{of_book, step, accepts, run}
use Rattle.laws.proofs.Out.{in_step_empty, stays_in_step}
use Rattle.laws.proofs.Soundness.{refused_or}
use Rattle.slips.specs.Slips.{shares_waiting}
use Rattle.day_words.specs.declared.fault.Fault.{Fault}
use Rattle.day_words.specs.declared.line.Line.{Line}
use Rattle.day_words.specs.declared.line.Line.TheVariants.{Call as Calls, Route, Identify}
use Rattle.day_words.specs.Spelling.{read_line}
use Rattle.day_words.specs.SpellingLaws.{Spellable}
use Rattle.day_words.proofs.Readable.{read_spellable}
use Rattle.dayfile.specs.Day.{line_calls, route_calls, read_calls, after_line, day_calls_from, day_start}
use Rattle.dayfile.proofs.Follow.{run_append}
use Rattle.dayfile.proofs.Route.{draw_step, out_after_draw, return_step, waits}

nothing_perm : {X : Type 0} {xs ys : List X} → Perm xs ys → ys ≡ [] → xs ≡ []
nothing_perm perm_nil e = refl
nothing_perm (perm_cons p) e = cc
nothing_perm perm_swap e = cc
nothing_perm (perm_trans p q) e = nothing_perm p (nothing_perm q e)

-- a line with a call of its own hands no slip out
none_drawn : (s : State) (call : AnyCall) → Spellable (Calls call) → out_after [] (accepts 32 s call).0 ≡ []
none_drawn s (Enter o) h = refl
none_drawn s (Cancel member number) h = refl
none_drawn s (Retail r lent) h = refl
none_drawn s (Draw number) h = absurd h
none_drawn s (Return number shares away) h = absurd h
none_drawn s (Move event) h = refl
none_drawn s (Approve member) h = refl
none_drawn s (Withdraw member) h = refl
none_drawn s (Quotes q) h = refl

call_none : (s : State) (call : AnyCall) → Spellable (Calls call) → InStep s.book [] → InStep (step 32 s call).1.book []
call_none s call h i =
    let e = refused_or (λ x. out_after [] x.0 ≡ []) (decided (refusals 32 s call)) s (accepts 32 s call) (λ why. refl) (λ _. none_drawn s call h) in
    subst (InStep (step 32 s call).1.book) e (stays_in_step 32 s call [] i)

-- a slip that is drawn and returned
route_none : (s : State) (number away : ℕ) (w : Option ℕ) → shares_waiting number s.book.slips ≡ w → InStep s.book [] → InStep (run 32 s (route_calls number away w)).book []
route_none s number away None e i = subst (λ x. InStep x.1.book []) (sym (draw_step s number false (waits s number None e))) i
route_none s number away (Some shares) e i = go (ltb shares away) refl
  where
    go : (over : Bool) → ltb shares away ≡ over → InStep (run 32 s (cond over [] (Draw number ∷ Return number shares away ∷ []))).book []
    go true f = i
    go false f =
        let drawn = of_book s (after_draw s.book number) in
        let note : Note = record { number = number; shares = slip_shares s.book number } in
        let first = draw_step s number true (waits s number (Some shares) e) in
        let out = subst (λ x. InStep x.1.book (out_after [] x.0)) first (stays_in_step 32 s (Draw number) [] i) in
        let second = return_step drawn number shares away (out_after_draw number shares s.book.slips e) f in
        let back = subst (λ x. InStep x.1.book (out_after (note ∷ []) x.0)) second (stays_in_step 32 drawn (Return number shares away) (note ∷ []) out) in
        let gone : filter (λ (v : Note). not (eqb v.number number)) (note ∷ []) ≡ [] = ap (λ b. cond (not b) (note ∷ []) []) (eq-eqb number number refl) in
        subst (λ x. InStep (step 32 x.1 (Return number shares away)).1.book []) (sym first)
        (subst (λ x. InStep x.1.book []) (sym second) (subst (InStep (accepts 32 drawn (Return number shares away)).1.book) gone back))

line_none : (s : State) (said : Line) → Spellable said → InStep s.book [] → InStep (run 32 s (line_calls s said)).book []
line_none s (Calls call) h i = call_none s call h i
line_none s (Route number away) h i = route_none s number away (shares_waiting number s.book.slips) refl i
line_none s Identify h i = i

read_none : (s : State) (r : Result Line Fault) → ((said : Line) → r ≡ Ok said → Spellable said) → InStep s.book [] → InStep (run 32 s (read_calls s r)).book []
read_none s (Ok said) h i = line_none s said (h said refl) i
read_none s (Err fault) h i = i

lines_none : (s : State) (xs : List (List ℕ)) → InStep s.book [] → InStep (run 32 s (day_calls_from s xs)).book []
lines_none s [] i = i
lines_none s (x ∷ xs) i =
    subst (λ t. InStep t.book []) (sym (run_append 32 s (read_calls s (read_line x)) (day_calls_from (after_line s x) xs)))
    (lines_none (after_line s x) xs (read_none s (read_line x) (read_spellable x) i))

pub none_out : (xs : List (List ℕ)) → drawn_notes (run 32 day_start (day_calls_from day_start xs)).book.slips ≡ []
none_out xs = nothing_perm (lines_none day_start xs in_step_empty).same refl
