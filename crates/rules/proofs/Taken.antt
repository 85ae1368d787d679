-- What fills leave of an order
use Rattle.std.proofs.Common.{ℕ, ◌-◌, ◌<◌, ◌≤◌, eqb, List, Some, None, Option, arith}
use Rattle.std.proofs.lemmas.Bool.{cond_both, eqb-true, eqb-false}
use Rattle.terms.specs.declared.orders.RestingOrder.{RestingOrder}
use Rattle.terms.specs.declared.orders.Fill.{Fill}
use Rattle.rules.specs.Rules.{filled_to, with_shares, after_fill}

-- it leaves, or rests with fewer shares
pub after_cases : (P : Option RestingOrder → Type 0) (fs : List Fill) (o : RestingOrder) → (o.shares ≤ filled_to fs o.number → P None)
    → (filled_to fs o.number < o.shares → P (Some (with_shares o (o.shares - filled_to fs o.number)))) → P (after_fill fs o)
after_cases P fs o leaves less =
    let left : ℕ = o.shares - filled_to fs o.number in
    cond_both (eqb left 0) None (Some (with_shares o left)) P
    (λ e. leaves (omega (arith, eqb-true left 0 e)))
    (λ e. less (omega (arith, eqb-false left 0 e)))
