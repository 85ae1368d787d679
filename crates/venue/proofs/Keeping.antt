-- A call is made after others
use Rattle.std.proofs.Common.{◌≡◌, ℕ, List, [], ◌∷◌, ◌++◌, sym, refl, ap, ◌∙◌}
use Rattle.laws.specs.Book.{State, start}
use Rattle.laws.specs.Book.{Answer as Told}
use Rattle.laws.specs.Rows.{AnyCall}
use Rattle.laws.specs.Steps.{Met, step, run, meet, trace}
use Rattle.laws.proofs.Whole.{the_law}
use Rattle.venue.specs.Calls.{KeepsTheLaw}

run_push : (centres : ℕ) (began : State) (calls : List AnyCall) (call : AnyCall) → run centres began (calls ++ call ∷ []) ≡ (step centres (run centres began calls) call).1
run_push centres began [] call = refl
run_push centres began (c ∷ cs) call = run_push centres (step centres began c).1 cs call

trace_push : (centres : ℕ) (began : State) (calls : List AnyCall) (call : AnyCall) → trace centres began (calls ++ call ∷ []) ≡ trace centres began calls ++ meet centres (run centres began calls) call ∷ []
trace_push centres began [] call = refl
trace_push centres began (c ∷ cs) call = ap (λ l. meet centres began c ∷ l) (trace_push centres (step centres began c).1 cs call)

-- A call that takes its step in the state that others left is the last call met, and leaves the state after all of them.
module _ (centres : ℕ) (before after : State) (call : AnyCall) (answer : Told) (st : step centres before call ≡ (answer, after)) (began : State) (calls : List AnyCall) (led : before ≡ run centres began calls) where
  pub met_last : trace centres began (calls ++ call ∷ []) ≡ trace centres began calls ++ record { before = before; call = call; answer = answer; after = after } ∷ []
  met_last =
      trace_push centres began calls call
      ∙ (ap (λ s. trace centres began calls ++ meet centres s call ∷ []) (sym led)
      ∙ ap (λ (r : Told × State). let m : Met = record { before = before; call = call; answer = r.0; after = r.1 } in trace centres began calls ++ m ∷ []) st)

  pub stands_last : after ≡ run centres began (calls ++ call ∷ [])
  stands_last = sym (run_push centres began calls call ∙ (ap (λ s. (step centres s call).1) (sym led) ∙ ap (λ r. r.1) st))

pub keeps_the_law : (centres : ℕ) (before after : State) (call : AnyCall) (answer : Told) → step centres before call ≡ (answer, after) → KeepsTheLaw centres before call answer after
keeps_the_law centres before after call answer st = record {
  whatever_came_before = λ quotes list calls led. record {
    met = met_last centres before after call answer st (start quotes list) calls led;
    stands = stands_last centres before after call answer st (start quotes list) calls led;
    law = the_law centres quotes list (calls ++ call ∷ []);
  };
}
