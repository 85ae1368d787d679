-- What `find_map` says of the orders of a queue
use Rattle.std.proofs.Common.{◌≡◌, ℕ, zero, suc, true, List, [], ◌∷◌, Some, None, Option, Iter, Bor, sym, ap, ◌∙◌, subst, arith}
use Rattle.std.proofs.lemmas.List.{nil_from_length}
use Rattle.std.specs.Prelude.{slice_get, IsTrue}
use Rattle.std.specs.Option.{MatchOption, IfSome}
use Rattle.std.specs.List.{FoldsTo}
use Rattle.std.specs.Fn.{Called}
use Rattle.std.specs.Iterator.{Yields, YieldsThen}
use Rattle.std.specs.Iterator.Runs.{Run, SomeRun, YieldsRun, AllItemsGive}
use Rattle.std.specs.Slice.Iter.{iter_rest, iter_steps}
use denote.Param.Members.{Mut}
use Rattle.rules.specs.Lists.{picked, and_then}

module _ {P X Y : Type 0} {g : Mut P (Bor X × Unit {0}) (Option Y)} (f : X → Option Y) (p : P) (calls : (x : Bor X) (r : Option Y) (q : P) → Called g p (x, tt) r q → (q ≡ p) × (r ≡ f x.now)) where
  -- where the calls gave nothing, nothing is picked
  none_on : (xs : List (Bor X)) (s t : Iter X) (q : P) → Yields iter_steps s xs t → FoldsTo (λ p x q. Called g p (x, tt) None q) p xs q → (q ≡ p) × (picked f (iter_rest s) ≡ picked f (iter_rest t))
  none_on [] s t q y e = (sym e, ap (λ v. picked f (iter_rest v)) y)
  none_on (x ∷ xs) s t q y e =
      let c = calls x None e.0 e.1 in
      let i = none_on xs y.0 t q y.2 (subst (λ v. FoldsTo (λ p x q. Called g p (x, tt) None q) v xs q) c.0 e.2) in
      (i.0, ap (picked f) y.1 ∙ (ap (λ v. and_then v (picked f (iter_rest y.0))) (sym c.1) ∙ i.1))

  pub splits : {s u : Iter X} {r : Option Y}
      → (xs : List (Bor X)) × (o : Option (Bor X)) × (q : P) × YieldsThen iter_steps s xs o u × FoldsTo (λ p x q. Called g p (x, tt) None q) p xs q × MatchOption o (r ≡ None) (λ x. (h : P) × Called g q (x, tt) r h)
      → picked f (iter_rest s) ≡ and_then r (picked f (iter_rest u))
  splits {s} {u} {r} (xs, o, q, (t, y, step), folds, last) = (none_on xs s t q y folds).1 ∙ end o step last
    where
      end : (o : Option (Bor X)) → iter_steps t o u → MatchOption o (r ≡ None) (λ x. (h : P) × Called g q (x, tt) r h) → picked f (iter_rest t) ≡ and_then r (picked f (iter_rest u))
      end None a b = ap (λ v. picked f (iter_rest v)) (sym a.1) ∙ ap (λ v. and_then v (picked f (iter_rest u))) (sym b)
      end (Some x) a b =
          let c = calls x r b.0 (subst (λ v. Called g v (x, tt) r b.0) (none_on xs s t q y folds).0 b.1) in
          ap (picked f) a ∙ ap (λ v. and_then v (picked f (iter_rest u))) (sym c.1)

  all_none : (xs : List (Bor X)) (s t : Iter X) → Yields iter_steps s xs t → ((k : ℕ) → IfSome (slice_get xs k) (λ x. f x.now ≡ None)) → picked f (iter_rest s) ≡ picked f (iter_rest t)
  all_none [] s t y h = ap (λ v. picked f (iter_rest v)) y
  all_none (x ∷ xs) s t y h = ap (picked f) y.1 ∙ (ap (λ v. and_then v (picked f (iter_rest y.0))) (h zero) ∙ all_none xs y.0 t y.2 (λ k. h (suc k)))

  drained : (i : Run (iter_steps {A = X})) → i.whole ≡ true → ((k : ℕ) → IfSome (i.at k) (λ x. f x.now ≡ None)) → picked f (iter_rest i.from) ≡ []
  unfolding YieldsRun
  drained i whole none =
      let t = i.gave.0 in
      all_none i.items i.from t.0 t.1 (λ k. subst (λ o. IfSome o (λ x. f x.now ≡ None)) (i.gave.1 k) (none k)) ∙ ap (picked f) (nil_from_length (iter_rest t.0) (t.2 whole).1.0)

  pub ends : {s u : Iter X} {r : Option Y} (Found : Run (iter_steps {A = X}) → Y → Type 0)
      → (xs : List (Bor X)) × (o : Option (Bor X)) × (q : P) × YieldsThen iter_steps s xs o u × FoldsTo (λ p x q. Called g p (x, tt) None q) p xs q × MatchOption o (r ≡ None) (λ x. (h : P) × Called g q (x, tt) r h)
      → SomeRun iter_steps s (λ i. MatchOption r (IsTrue i.whole × AllItemsGive i g p None) (Found i))
      → r ≡ None → picked f (iter_rest u) ≡ []
  ends {r = None} Found ran (i, from, (whole, give)) e =
      let h = give (λ a r q c. (calls a.0 r q c).0) in
      sym (splits ran) ∙ (ap (λ v. picked f (iter_rest v)) (sym from) ∙ drained i whole (λ k. each (i.at k) (h k)))
    where
      each : (o : Option (Bor X)) → IfSome o (λ x. Called g p (x, tt) None p) → IfSome o (λ x. f x.now ≡ None)
      each None h = tt
      each (Some x) h = sym (calls x None p h).1
  ends {r = Some y} Found ran run e = let z : ◌≡◌ {A = ℕ} 0 1 = cc in absurd (omega arith)
