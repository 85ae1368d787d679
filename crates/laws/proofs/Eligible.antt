-- What an eligible order is, and what the fills of a Retail Order allot to the eligible orders
use Rattle.std.proofs.Common.{◌≡◌, true, List, Some, sym, ap, ◌∙◌, subst}
use Rattle.std.specs.List.{ContainsAt as Has, AllByRecursion as Each}
use Rattle.std.proofs.ByRecursion.{all-has, all_has_itself, All-weaker}
use Rattle.terms.specs.declared.orders.RestingOrder.{RestingOrder}
use Rattle.terms.specs.declared.orders.RetailOrder.{RetailOrder}
use Rattle.terms.specs.declared.orders.Ranked.{Ranked}
use Rattle.terms.specs.declared.orders.Fill.{Fill}
use Rattle.rules.specs.Lists.{Distinct}
use Rattle.rules.specs.Rules.{BestPair, ranked_price, eligible_at, at_price, candidate, eligible, fills}
use Rattle.rules.specs.Allotment.{MostShares}
use Rattle.rules.proofs.Members.{all_picked, distinct_picked}
use Rattle.rules.proofs.Best.{fills_have_most}
use Rattle.rules.proofs.Relations.{found_eligible}

module _ (q : BestPair) (r : RetailOrder) where
  -- an eligible order e is the resting order o at a price at which that is eligible
  pub Of : RestingOrder → Ranked → Type 0
  Of o e = (eligible_at q r o e.price ≡ true) × (e ≡ at_price o e.price)

  pub of_candidate : (o : RestingOrder) (e : Ranked) → candidate q r o ≡ Some e → Of o e
  unfolding Of
  of_candidate o e h = let found = found_eligible q r o e (ranked_price q o) h in (found.1, found.2)

  pub of_number : (o : RestingOrder) (e : Ranked) → Of o e → e.number ≡ o.number
  unfolding Of
  of_number o e h = ap (λ x. x.number) h.1

  pub of_shares : (o : RestingOrder) (e : Ranked) → Of o e → e.shares ≡ o.shares
  unfolding Of
  of_shares o e h = ap (λ x. x.shares) h.1

  pub of_eligible : (o : RestingOrder) (e : Ranked) → Of o e → eligible_at q r o e.price ≡ true
  unfolding Of
  of_eligible o e h = h.0

  pub candidate_number : (o : RestingOrder) (e : Ranked) → candidate q r o ≡ Some e → e.number ≡ o.number
  candidate_number o e h = of_number o e (of_candidate o e h)

  pub eligible_distinct : (os : List RestingOrder) → Distinct (λ o. o.number) os → Distinct (λ e. e.number) (eligible q r os)
  eligible_distinct os d = distinct_picked (candidate q r) (λ o. o.number) (λ e. e.number) candidate_number os d

  -- each eligible order is a resting one
  pub eligible_from : (os : List RestingOrder) → Each (λ e. (o : RestingOrder) × Has os o × Of o e) (eligible q r os)
  eligible_from os =
      all_picked (candidate q r) (Has os) (λ e. (o : RestingOrder) × Has os o × Of o e) (λ o e has h. (o, has, of_candidate o e h)) os (all_has_itself os)

  -- the fills have the most shares that the eligible orders allow
  pub most_now : (os : List RestingOrder) → Distinct (λ o. o.number) os → MostShares (eligible q r os) r.shares (fills r.side (eligible q r os) r.shares)
  most_now os d = fills_have_most r.side (eligible q r os) r.shares (eligible_distinct os d)

  -- a fill is from a resting order of its number that is eligible at its price
  abbrev pub From : List RestingOrder → Fill → Type 0
  From os f = (o : RestingOrder) × Has os o × (o.number ≡ f.number) × (eligible_at q r o f.price ≡ true)

  -- and each fill of a Retail Order is
  pub fill_from : (os : List RestingOrder) → Distinct (λ o. o.number) os → Each (From os) (fills r.side (eligible q r os) r.shares)
  fill_from os d =
      let es = eligible q r os in
      All-weaker
      (λ f. (e : Ranked) × Has es e × (f.number ≡ e.number) × (f.price ≡ e.price))
      (From os)
      (λ f from.
      let e = from.0 in
      let back = all-has (λ e. (o : RestingOrder) × Has os o × Of o e) es e (eligible_from os) from.1 in
      (back.0, back.1, sym (from.2 ∙ of_number back.0 e back.2), subst (λ p. eligible_at q r back.0 p ≡ true) (sym from.3) (of_eligible back.0 e back.2)))
      (fills r.side es r.shares)
      (most_now os d).ranked
