-- Each rule is what its plain relation says
use Rattle.std.proofs.Common.{◌≡◌, ℕ, ◌+◌, ◌-◌, ◌<◌, ◌≤◌, min, max, Bool, true, false, cond, ◌&&◌, leb, List, [], ◌∷◌, Some, None, Decides, Option, sym, refl, ap, ◌∙◌, subst, inl, inr, ⊎_elim, arith}
use Rattle.std.specs.List.{ContainsAt as Has, AllByRecursion as Each}
use Rattle.std.proofs.ByRecursion.{all-has, all_has_itself, All-weaker}
use Rattle.std.proofs.lemmas.Bool.{and_parts, and_from, leb-true, le-leb, false≢true, cases_lt}
use Rattle.std.proofs.lemmas.Bool.Decides.{Decides-and, Decides-like}
use Rattle.terms.specs.declared.market.Side.{Side}
use Rattle.terms.specs.declared.market.Side.TheVariants.{Buy, Sell}
use Rattle.terms.specs.declared.orders.OrderKind.{OrderKind}
use Rattle.terms.specs.declared.orders.OrderKind.TheVariants.{Rpi, Hidden, Displayed}
use Rattle.terms.specs.declared.orders.RetailType.{RetailType}
use Rattle.terms.specs.declared.orders.RetailType.TheVariants.{One, Two, TwoRoutable}
use Rattle.terms.specs.declared.orders.RestingOrder.{RestingOrder}
use Rattle.terms.specs.declared.orders.RetailOrder.{RetailOrder}
use Rattle.terms.specs.declared.orders.Ranked.{Ranked}
use Rattle.terms.specs.Words.{only_if, same_side, ExactlyIf}
use Rattle.rules.specs.Lists.{any, Downward}
use Rattle.rules.specs.Rules.{BestPair, own_side, priced, ranked_price, no_worse, ordinary_eligible, quote_allows, opposite, eligible_at, at_price, if_eligible, candidate, eligible, cancelled_rest, waiting_rest, rpi_eligible, rpi_shows, side_on}
use Rattle.rules.specs.RuleLaws.{RanksBuy, RanksSell, Ranks, RanksAt, SellMeetsOrdinary, BuyMeetsOrdinary, Meets, EligibleAt, FoundAs, Remains, SomeRpi, RulesAlwaysHold}
use Rattle.rules.proofs.Picks.{downward_picked, has_picked, picked_from}
use Rattle.rules.proofs.Precedes.{ahead_exactly}

some_same : {X : Type 0} (x y : X) → ◌≡◌ {A = Option X} (Some x) (Some y) → x ≡ y
some_same x y e = cc

none_some : {X : Type 0} (x : X) → ◌≡◌ {A = Option X} None (Some x) → ⊥
none_some x e = let z : ◌≡◌ {A = ℕ} 0 1 = cc in omega arith

-- RANKED PRICE

-- an order without an offset stands at its limit
some_exactly : (x p : ℕ) → ExactlyIf (◌≡◌ {A = Option ℕ} (Some x) (Some p)) (p ≡ x)
some_exactly x p = record { only = λ e. sym (some_same x p e); if = λ e. ap Some (sym e) }

-- a buy with an offset, where there is a protected bid
buy_exactly : (ceiling offset bid p : ℕ) → ExactlyIf (◌≡◌ {A = Option ℕ} (Some (min ceiling (bid + offset))) (Some p)) (RanksBuy ceiling offset bid p)
buy_exactly ceiling offset bid p =
    record {
      only = λ e.
          let is : min ceiling (bid + offset) ≡ p = some_same _ _ e in
          let one = ⊎_elim (λ lt. inl (omega arith)) (λ le. inr (omega arith)) (cases_lt ceiling (bid + offset)) in
          record { under_ceiling = omega arith; under_bid = omega arith; one = one };
      if = λ h. ap Some (⊎_elim (λ e. omega arith) (λ e. omega arith) h.one);
    }

-- a sell with an offset, where there is a protected offer
sell_exactly : (floor offset offer p : ℕ) → ExactlyIf (◌≡◌ {A = Option ℕ} (Some (max floor (offer - offset))) (Some p)) (RanksSell floor offset offer p)
sell_exactly floor offset offer p =
    record {
      only = λ e.
          let is : max floor (offer - offset) ≡ p = some_same _ _ e in
          let one = ⊎_elim (λ lt. inr (omega arith)) (λ le. inl (omega arith)) (cases_lt floor (offer - offset)) in
          record { over_floor = omega arith; over_offer = omega arith; one = one };
      if = λ h. ap Some (⊎_elim (λ e. omega arith) (λ e. omega arith) h.one);
    }

-- an order with an offset, where its own side has no protected quote
none_exactly : (p : ℕ) → ExactlyIf (◌≡◌ {A = Option ℕ} None (Some p)) ⊥
none_exactly p = record { only = none_some p; if = λ z. absurd z }

-- any order
ranks_parts : (kind : OrderKind) (offset : Option ℕ) (side : Side) (limit : ℕ) (best : BestPair) (p : ℕ) → ExactlyIf (priced kind offset side limit (own_side best side) ≡ Some p) (Ranks kind offset side limit best p)
ranks_parts Rpi None side limit best p = some_exactly limit p
ranks_parts Rpi (Some offset) Buy limit (None, offer) p = none_exactly p
ranks_parts Rpi (Some offset) Buy limit (Some bid, offer) p = buy_exactly limit offset bid p
ranks_parts Rpi (Some offset) Sell limit (bid, None) p = none_exactly p
ranks_parts Rpi (Some offset) Sell limit (bid, Some offer) p = sell_exactly limit offset offer p
ranks_parts Hidden offset side limit best p = some_exactly limit p
ranks_parts Displayed offset side limit best p = some_exactly limit p

-- ELIGIBILITY

-- a comparison
decides_leb : (a b : ℕ) → Decides (leb a b) (a ≤ b)
decides_leb a b = (leb-true a b, le-leb a b)

-- what never holds
decides_no : Decides false ⊥
decides_no = (false≢true, λ z. absurd z)

-- two comparisons
decides_two : (a b c d : ℕ) → Decides (leb a b && leb c d) ((a ≤ b) × (c ≤ d))
decides_two a b c d = Decides-and (leb a b) (leb c d) (decides_leb a b) (decides_leb c d)

-- three of them, where the limit is compared last
decides_three : (a b c d e f : ℕ) → Decides ((leb a b && leb c d) && leb e f) ((a ≤ b) × (e ≤ f) × (c ≤ d))
decides_three a b c d e f =
    Decides-like
    ((leb a b && leb c d) && leb e f)
    (λ h. (h.0.0, h.1, h.0.1))
    (λ h. ((h.0, h.2), h.1))
    (Decides-and (leb a b && leb c d) (leb e f) (decides_two a b c d) (decides_leb e f))

-- a hidden or displayed buy order and a Retail sell
sell_ordinary : (type : RetailType) (L p : ℕ) (bid : Option ℕ) → Decides (ordinary_eligible type Sell p bid && leb L p) (SellMeetsOrdinary type L p bid)
sell_ordinary One L p None = decides_no
sell_ordinary One L p (Some bid) = decides_two (bid + 1) p L p
sell_ordinary Two L p None = decides_leb L p
sell_ordinary Two L p (Some bid) = decides_two bid p L p
sell_ordinary TwoRoutable L p None = decides_leb L p
sell_ordinary TwoRoutable L p (Some bid) = decides_two bid p L p

-- a hidden or displayed sell order and a Retail buy
buy_ordinary : (type : RetailType) (L p : ℕ) (offer : Option ℕ) → Decides (ordinary_eligible type Buy p offer && leb p L) (BuyMeetsOrdinary type L p offer)
buy_ordinary One L p None = decides_no
buy_ordinary One L p (Some offer) = decides_two (p + 1) offer p L
buy_ordinary Two L p None = decides_leb p L
buy_ordinary Two L p (Some offer) = decides_two p offer p L
buy_ordinary TwoRoutable L p None = decides_leb p L
buy_ordinary TwoRoutable L p (Some offer) = decides_two p offer p L

-- any order and any Retail Order
meets_parts : (customer order : Side) (type : RetailType) (kind : OrderKind) (L p : ℕ) (best : BestPair)
    → Decides (same_side order (opposite customer) && (quote_allows kind type customer p (own_side best order) && no_worse customer p L)) (Meets customer order type kind L p best)
meets_parts Buy Buy type kind L p best = decides_no
meets_parts Sell Sell type kind L p best = decides_no
meets_parts Sell Buy type Rpi L p (None, offer) = decides_no
meets_parts Sell Buy type Rpi L p (Some bid, offer) = decides_three (bid + 1) p 1_000 p L p
meets_parts Sell Buy type Hidden L p best = sell_ordinary type L p best.0
meets_parts Sell Buy type Displayed L p best = sell_ordinary type L p best.0
meets_parts Buy Sell type Rpi L p (bid, None) = decides_no
meets_parts Buy Sell type Rpi L p (bid, Some offer) = decides_three (p + 1) offer 1_000 p p L
meets_parts Buy Sell type Hidden L p best = buy_ordinary type L p best.1
meets_parts Buy Sell type Displayed L p best = buy_ordinary type L p best.1

-- What a Retail Order meets is the resting order at its ranked price, and it is eligible at that price.
pub found_eligible : (best : BestPair) (r : RetailOrder) (o : RestingOrder) (e : Ranked) (price : Option ℕ) → if_eligible best r o price ≡ Some e
    → (price ≡ Some e.price) × (eligible_at best r o e.price ≡ true) × (e ≡ at_price o e.price)
found_eligible best r o e None h = absurd (none_some e h)
found_eligible best r o e (Some p) h = go (eligible_at best r o p) refl h
  where
    go : (b : Bool) → eligible_at best r o p ≡ b → only_if b (Some (at_price o p)) ≡ Some e
        → (◌≡◌ {A = Option ℕ} (Some p) (Some e.price)) × (eligible_at best r o e.price ≡ true) × (e ≡ at_price o e.price)
    go true i j =
        let same : at_price o p ≡ e = some_same (at_price o p) e j in
        subst (λ x. (◌≡◌ {A = Option ℕ} (Some p) (Some x.price)) × (eligible_at best r o x.price ≡ true) × (x ≡ at_price o x.price)) same (refl, i, refl)
    go false i j = absurd (none_some e j)

module _ (best : BestPair) where
  -- the same of whole orders
  ranks_at : (o : RestingOrder) (p : ℕ) → ExactlyIf (ranked_price best o ≡ Some p) (RanksAt best o p)
  ranks_at o p = ranks_parts o.kind o.offset o.side o.limit best p

  meets_at : (r : RetailOrder) (o : RestingOrder) (p : ℕ) → Decides (eligible_at best r o p) (Meets r.side o.side r.kind o.kind r.limit p best)
  meets_at r o p = meets_parts r.side o.side r.kind o.kind r.limit p best

  -- so the order is met at p exactly if it ranks at p and the Retail Order meets it there
  eligible_exactly : (r : RetailOrder) (o : RestingOrder) (p : ℕ) → ExactlyIf (candidate best r o ≡ Some (at_price o p)) (EligibleAt best r o p)
  eligible_exactly r o p =
      record {
        only = λ e.
            let found = found_eligible best r o (at_price o p) (ranked_price best o) e in
            record { ranks = (ranks_at o p).only found.0; meets = (meets_at r o p).0 found.1 };
        if = λ h.
            ap (if_eligible best r o) ((ranks_at o p).if h.ranks)
            ∙ ap (λ b. only_if b (Some (at_price o p))) ((meets_at r o p).1 h.meets);
      }

  -- so the order is found exactly if it ranks at that price and the Retail Order meets it there
  found_exactly : (r : RetailOrder) (o : RestingOrder) (e : Ranked) → ExactlyIf (candidate best r o ≡ Some e) (FoundAs best r o e)
  found_exactly r o e =
      record {
        only = λ h.
            let found = found_eligible best r o e (ranked_price best o) h in
            let is = found.2 in
            record {
              number = ap (λ x. x.number) is;
              kind = ap (λ x. x.kind) is;
              shares = ap (λ x. x.shares) is;
              eligible = record { ranks = (ranks_at o e.price).only found.0; meets = (meets_at r o e.price).0 found.1 };
            };
        if = λ h.
            ap (if_eligible best r o) ((ranks_at o e.price).if h.eligible.ranks)
            ∙ (ap (λ b. only_if b (Some (at_price o e.price))) ((meets_at r o e.price).1 h.eligible.meets)
            ∙ ap Some (same_parts o.number e.number o.kind e.kind o.shares e.shares e.price h.number h.kind h.shares));
      }
    where
      same_parts : (n n' : ℕ) (k k' : OrderKind) (m m' : ℕ) (p : ℕ) → n' ≡ n → k' ≡ k → m' ≡ m
          → ◌≡◌ {A = Ranked} (record { number = n; kind = k; price = p; shares = m }) (record { number = n'; kind = k'; price = p; shares = m' })
      same_parts n n' k k' m m' p i j l = rw (i, j, l)

  -- so an order is in the list exactly if some resting order is found as it,
  listed : (r : RetailOrder) (resting : List RestingOrder) (e : Ranked)
      → ExactlyIf (Has (eligible best r resting) e) ((o : RestingOrder) × Has resting o × FoundAs best r o e)
  listed r resting e =
      record {
        only = λ h. let from = picked_from (candidate best r) resting e h in (from.0, from.1, (found_exactly r from.0 e).only from.2);
        if = λ h. has_picked (candidate best r) resting h.0 e h.1 ((found_exactly r h.0 e).if h.2);
      }

  -- and numbers that rise along the resting orders rise along the list
  listed_rise : (r : RetailOrder) (resting : List RestingOrder) → Downward (λ a b. a.number < b.number) resting
      → Downward (λ a b. a.number < b.number) (eligible best r resting)
  listed_rise r resting h =
      downward_picked (candidate best r) (λ a b. a.number < b.number) (λ a b. a.number < b.number)
      (λ a b c e is is' lt. omega (arith, lt, ((found_exactly r a c).only is).number, ((found_exactly r b e).only is').number)) resting h

-- REMAINDER

-- what is left is cancelled, or waits if the Retail Order is routable
remainder : (type : RetailType) (shares filled : ℕ) → filled ≤ shares → Remains type shares filled (cancelled_rest type (shares - filled)) (waiting_rest type (shares - filled))
remainder One shares filled le = record { all = omega arith; waits_if_routable = λ ne. refl; cancels_if_not = λ e. cc }
remainder Two shares filled le = record { all = omega arith; waits_if_routable = λ ne. refl; cancels_if_not = λ e. cc }
remainder TwoRoutable shares filled le = record { all = omega arith; waits_if_routable = λ ne. absurd (ne refl); cancels_if_not = λ e. refl }

-- LIQUIDITY IDENTIFIER

-- If something in a list passes a test, then what follows from each thing that passes holds;
any_only : {X Y : Type 0} (test : X → Bool) (xs : List X) → Each (λ x. test x ≡ true → Y) xs → any test xs ≡ true → Y
any_only test [] each h = absurd (false≢true h)
any_only {X} {Y} test (x ∷ xs) each h = go (test x) refl h (any_only test xs each.1)
  where
    go : (b : Bool) → test x ≡ b → cond b true (any test xs) ≡ true → (any test xs ≡ true → Y) → Y
    go true i j later = each.0 i
    go false i j later = later j

-- and one thing of the list that passes is enough.
any_if : {X : Type 0} (test : X → Bool) (xs : List X) → Each (λ x. test x ≡ true → any test xs ≡ true) xs
any_if test [] = tt
any_if test (x ∷ xs) =
    (λ e. ap (λ b. cond b true (any test xs)) e, All-weaker (λ y. test y ≡ true → any test xs ≡ true) (λ y. test y ≡ true → any test (x ∷ xs) ≡ true) (λ y f e. go (test x) refl (f e)) xs (any_if test xs))
  where
    go : (b : Bool) → test x ≡ b → any test xs ≡ true → cond b true (any test xs) ≡ true
    go true i j = refl
    go false i j = j

-- An RPI Order that turns its side on has a price, and a Retail Order of the other side with that price as its limit meets it.
shown_only : (side order : Side) (kind : OrderKind) (price : Option ℕ) (best : BestPair) → (same_side order side && rpi_shows kind (opposite side) price (own_side best side)) ≡ true
    → (p : ℕ) × (price ≡ Some p) × (kind ≡ Rpi) × (order ≡ side) × Meets (opposite side) order One kind p p best
shown_only Buy Sell kind price best h = absurd (false≢true h)
shown_only Sell Buy kind price best h = absurd (false≢true h)
shown_only Buy Buy Hidden price best h = absurd (false≢true h)
shown_only Buy Buy Displayed price best h = absurd (false≢true h)
shown_only Buy Buy Rpi None best h = absurd (false≢true h)
shown_only Buy Buy Rpi (Some p) best h =
    (p, refl, refl, refl, (meets_parts Sell Buy One Rpi p p best).0 (and_from (rpi_eligible Sell p best.0) (leb p p) h (le-leb p p (omega arith))))
shown_only Sell Sell Hidden price best h = absurd (false≢true h)
shown_only Sell Sell Displayed price best h = absurd (false≢true h)
shown_only Sell Sell Rpi None best h = absurd (false≢true h)
shown_only Sell Sell Rpi (Some p) best h =
    (p, refl, refl, refl, (meets_parts Buy Sell One Rpi p p best).0 (and_from (rpi_eligible Buy p best.1) (leb p p) h (le-leb p p (omega arith))))

-- An RPI Order that some Retail Order meets turns its side on.
shown_if : (customer order : Side) (type : RetailType) (L p : ℕ) (best : BestPair) → Meets customer order type Rpi L p best
    → (same_side order order && rpi_shows Rpi (opposite order) (Some p) (own_side best order)) ≡ true
shown_if Buy Buy type L p best h = absurd h
shown_if Sell Sell type L p best h = absurd h
shown_if Sell Buy type L p best h = (and_parts (rpi_eligible Sell p best.0) (leb L p) ((meets_parts Sell Buy type Rpi L p best).1 h)).0
shown_if Buy Sell type L p best h = (and_parts (rpi_eligible Buy p best.1) (leb p L) ((meets_parts Buy Sell type Rpi L p best).1 h)).0

module _ (best : BestPair) (resting : List RestingOrder) (side : Side) where
  -- whether this order turns the side on
  abbrev shows : RestingOrder → Bool
  shows o = same_side o.side side && rpi_shows o.kind (opposite side) (ranked_price best o) (own_side best side)

  -- an order that shows, and the Retail Order that would meet it
  some_rpi : (o : RestingOrder) → Has resting o → shows o ≡ true → SomeRpi best resting side
  some_rpi o rests h =
      let t = shown_only side o.side o.kind (ranked_price best o) best h in
      let p = t.0 in
      record {
        order = o;
        rests = rests;
        is_rpi = t.2;
        of_side = t.3;
        customer = record { member = 1; side = opposite side; kind = One; limit = p; shares = 1 };
        price = p;
        eligible = record { ranks = (ranks_at best o p).only t.1; meets = t.4 };
      }

  -- an order that some Retail Order would meet, shows
  rpi_shown : (h : SomeRpi best resting side) → shows h.order ≡ true
  rpi_shown h =
      let o = h.order in
      let r = h.customer in
      let price : ranked_price best o ≡ Some h.price = (ranks_at best o h.price).if h.eligible.ranks in
      let met = subst (λ k. Meets r.side o.side r.kind k r.limit h.price best) h.is_rpi h.eligible.meets in
      let here = shown_if r.side o.side r.kind r.limit h.price best met in
      ap (λ v. same_side o.side side && rpi_shows o.kind (opposite side) v (own_side best side)) price
      ∙ (ap (λ k. same_side o.side side && rpi_shows k (opposite side) (Some h.price) (own_side best side)) h.is_rpi
      ∙ subst (λ s. (same_side o.side s && rpi_shows Rpi (opposite s) (Some h.price) (own_side best s)) ≡ true) h.of_side here)

  -- the side is on exactly if the book has such an order
  side_exactly : ExactlyIf (side_on best resting side ≡ true) (SomeRpi best resting side)
  side_exactly =
      record {
        only = any_only shows resting (All-weaker (Has resting) (λ o. shows o ≡ true → SomeRpi best resting side) some_rpi resting (all_has_itself resting));
        if = λ h. all-has (λ o. shows o ≡ true → any shows resting ≡ true) resting h.order (any_if shows resting) h.rests (rpi_shown h);
      }

-- ALL OF THEM

pub rules_hold : RulesAlwaysHold
rules_hold best resting =
    record {
      ranks = ranks_at best;
      meets = eligible_exactly best;
      carries = λ r o e h. (found_eligible best r o e (ranked_price best o) h).2;
      finds = found_exactly best;
      lists = λ r e. listed best r resting e;
      lists_rise = λ r h. listed_rise best r resting h;
      precedes = ahead_exactly;
      remains = remainder;
      identifies = side_exactly best resting;
    }
