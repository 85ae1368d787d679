-- What becomes of the slips that are out
use Rattle.std.proofs.Common.{◌≡◌, ℕ, zero, suc, ◌+◌, ◌<◌, Bool, true, false, cond, not, eqb, ltb, List, [], ◌∷◌, ◌++◌, map, length, get_or, Some, None, filter, Option, sym, refl, ap, ◌∙◌, subst, append-nil, arith}
use Rattle.std.specs.List.{position, position_from, position_or_len, remove, AllByRecursion as Each}
use Rattle.std.proofs.ByRecursion.{All-get_or}
use Rattle.std.proofs.lemmas.Iterator.Adapters.{position_from-zero}
use Rattle.std.proofs.lemmas.List.{length-map, get_or-map, map-append}
use Rattle.std.proofs.lemmas.List.Sums.{passes_at_first}
use Rattle.std.proofs.lemmas.Bool.{eq-eqb, ne_eqb, and_parts, eqb-true, ltb-true}
use Rattle.terms.specs.declared.refusals.Refusal.{Refusal}
use Rattle.terms.specs.declared.refusals.Refusal.TheVariants.{NoDrawnSlip, MoreThanSlip}
use Rattle.terms.specs.declared.calls.Call.TheVariants.{Return}
use Rattle.quotes.specs.Quotes.{no_quotes}
use Rattle.rules.specs.Lists.{Distinct, any}
use Rattle.rules.specs.Sorted.{Perm}
use Rattle.rules.specs.Sorted.Perm.{perm_cons, perm_trans}
use Rattle.rules.proofs.Perms.{perm_sym, perm_is, perm_middle}
use Rattle.laws.specs.Book.{Book, Answer, after_return}
use Rattle.laws.specs.Book.Answer.{Refused, Returned}
use Rattle.laws.specs.Rows.{AnyCall, refusals, decided}
use Rattle.laws.specs.Routed.{Note, out_after, InStep, is_note}
use Rattle.laws.specs.Steps.{accepts, unless}
use Rattle.laws.proofs.Out.{stays_in_step, out_has, out_apart}
use Rattle.slips.specs.declared.slip.DrawnSlip.{DrawnSlip}
use Rattle.book.specs.BookState.{Steps, state_of}
use Rattle.venue.specs.Answers.{note_of}
use Rattle.venue.specs.Holding.{FoundAt}

-- a call of the book keeps the slips that are out in step with it
pub after_steps : (b b' : Book) (call : AnyCall) (answer : Answer) (out : List Note) → Steps b call answer b' → InStep b out → InStep b' (out_after out answer)
after_steps b b' call answer out st h =
    subst (λ x. InStep x.1.book (out_after out x.0)) (st 0 no_quotes []) (stays_in_step 0 (state_of b no_quotes []) call out h)

-- A RETURN

-- a slip that is not out is not the book's
pub not_out : (b : Book) (n shares away : ℕ) (out : List Note) → InStep b out → any (is_note n shares) out ≡ false → Steps b (Return n shares away) (Refused NoDrawnSlip) b
not_out b n shares away out h none centres quotes list =
    let s = state_of b quotes list in
    ap (λ there. unless (decided ((not there, NoDrawnSlip) ∷ (ltb shares away, MoreThanSlip) ∷ [])) s (accepts centres s (Return n shares away))) (out_has b out h n shares ∙ none)

-- an accepted return answers its number
pub returned_number : (b b' : Book) (n shares away m x y : ℕ) → Steps b (Return n shares away) (Returned m x y) b' → n ≡ m
returned_number b b' n shares away m x y st = go (decided (refusals 0 (state_of b no_quotes []) (Return n shares away))) (ap (λ z. z.0) (st 0 no_quotes []))
  where
    go : (d : Option Refusal) → (unless d (state_of b no_quotes []) (accepts 0 (state_of b no_quotes []) (Return n shares away))).0 ≡ Returned m x y → n ≡ m
    go None e = cc
    go (Some why) e = absurd cc

-- and leaves the book without the slip
pub returned_book : (b b' : Book) (n shares away m x y : ℕ) → Steps b (Return n shares away) (Returned m x y) b' → b' ≡ after_return b n shares
returned_book b b' n shares away m x y st = go (decided (refusals 0 (state_of b no_quotes []) (Return n shares away))) (st 0 no_quotes [])
  where
    go : (d : Option Refusal) → unless d (state_of b no_quotes []) (accepts 0 (state_of b no_quotes []) (Return n shares away)) ≡ (Returned m x y, state_of b' no_quotes []) → b' ≡ after_return b n shares
    go None e = sym (ap (λ z. z.1.book) e)
    go (Some why) e = let told = ap (λ z. z.0) e in absurd cc

-- WHERE IT STANDS

none_from : {X : Type 0} (p : X → Bool) (i : ℕ) (xs : List X) → position_from p i xs ≡ None → any p xs ≡ false
none_from p i [] h = refl
none_from p i (x ∷ xs) h = go (p x) h (none_from p (i + 1) xs)
  where
    go : (b : Bool) → cond b (Some i) (position_from p (i + 1) xs) ≡ None → (position_from p (i + 1) xs ≡ None → any p xs ≡ false) → cond b true (any p xs) ≡ false
    go true h ih = absurd cc
    go false h ih = ih h

pub found_at : (n shares : ℕ) (held : List DrawnSlip) → FoundAt n shares held (position (λ slip. is_note n shares (note_of slip)) held)
found_at n shares held = go (ltb first (length held)) refl
  where
    is : DrawnSlip → Bool
    is slip = is_note n shares (note_of slip)

    first : ℕ
    first = position_or_len is held

    go : (b : Bool) → ltb first (length held) ≡ b → FoundAt n shares held (cond b (Some first) None)
    go true e = (ltb-true first (length held) e, λ d. passes_at_first is held d (ltb-true first (length held) e))
    go false e = none_from is 0 held (sym (position_from-zero is held) ∙ ap (λ b. cond b (Some first) None) e)

-- ONE SLIP LESS

module _ {X Y : Type 0} (f : X → Y) where
  pub map_removed : (xs : List X) (i : ℕ) → map f (remove xs i) ≡ remove (map f xs) i
  map_removed [] zero = refl
  map_removed [] (suc i) = refl
  map_removed (x ∷ xs) zero = refl
  map_removed (x ∷ xs) (suc i) = ap (λ l. f x ∷ l) (map_removed xs i)

  pub any_map : (p : Y → Bool) (xs : List X) → any p (map f xs) ≡ any (λ x. p (f x)) xs
  any_map p [] = refl
  any_map p (x ∷ xs) = ap (λ b. cond (p (f x)) true b) (any_map p xs)

-- put back at the end it is among them again
pub back_again : {X : Type 0} (xs : List X) (i : ℕ) (x : X) → i < length xs → x ≡ get_or xs i x → Perm xs (remove xs i ++ x ∷ [])
back_again [] i x h e = absurd (omega arith)
back_again (y ∷ ys) zero x h e = perm_trans (perm_is (ap (λ v. v ∷ ys) (sym e))) (perm_trans (perm_cons (perm_is (sym (append-nil ys)))) (perm_sym (perm_middle ys x [])))
back_again (y ∷ ys) (suc i) x h e = perm_cons (back_again ys i x (omega arith) e)

-- where no slip has the number, none is taken out
pub kept_all : (n : ℕ) (xs : List Note) → Each (λ v. v.number ≡ n → ⊥) xs → filter (λ v. not (eqb v.number n)) xs ≡ xs
kept_all n [] h = refl
kept_all n (x ∷ xs) h = ap (λ b. cond (not b) (x ∷ filter (λ v. not (eqb v.number n)) xs) (filter (λ v. not (eqb v.number n)) xs)) (ne_eqb x.number n h.0) ∙ ap (λ l. x ∷ l) (kept_all n xs h.1)

-- where each number stands once, taking one out by its place is taking it out by its number
pub removed_kept : (n : ℕ) (xs : List Note) (i : ℕ) (d : Note) → Distinct (λ v. v.number) xs → i < length xs → (get_or xs i d).number ≡ n → remove xs i ≡ filter (λ v. not (eqb v.number n)) xs
removed_kept n [] i d a h e = absurd (omega arith)
removed_kept n (x ∷ xs) zero d a h e =
    let rest = filter (λ v. not (eqb v.number n)) xs in
    sym (ap (λ b. cond (not b) (x ∷ rest) rest) (eq-eqb x.number n e) ∙ kept_all n xs (subst (λ m. Each (λ v. v.number ≡ m → ⊥) xs) e a.0))
removed_kept n (x ∷ xs) (suc i) d a h e =
    let rest = filter (λ v. not (eqb v.number n)) xs in
    let lt : i < length xs = omega arith in
    let other : x.number ≡ n → ⊥ = λ k. All-get_or (λ v. v.number ≡ x.number → ⊥) xs i d lt a.0 (e ∙ sym k) in
    ap (λ l. x ∷ l) (removed_kept n xs i d a.1 lt e) ∙ sym (ap (λ b. cond (not b) (x ∷ rest) rest) (ne_eqb x.number n other))

-- THE SLIP THAT COMES BACK

-- the slip that was taken out is the one asked for
pub record Taken (n shares : ℕ) (held : List DrawnSlip) (i : ℕ) (slip : DrawnSlip) : Type 0 where
  pub within : i < length held
  pub number : slip.number ≡ n
  pub shares_on : slip.shares ≡ shares
  pub noted : note_of slip ≡ get_or (map note_of held) i (note_of slip)

pub taken : (n shares : ℕ) (held view : List DrawnSlip) {o : Option ℕ} (i : ℕ) (slip : DrawnSlip) → view ≡ held → o ≡ Some i → FoundAt n shares view o → slip ≡ get_or held i slip → Taken n shares held i slip
taken n shares held view i slip v at f e =
    let found = subst (λ l. FoundAt n shares l (Some i)) v (subst (FoundAt n shares view) at f) in
    let same = subst (λ (s : DrawnSlip). is_note n shares (note_of s) ≡ true) (sym e) (found.1 slip) in
    let parts = and_parts (eqb slip.number n) (eqb slip.shares shares) same in
    record {
      within = found.0;
      number = eqb-true slip.number n parts.0;
      shares_on = eqb-true slip.shares shares parts.1;
      noted = ap note_of e ∙ sym (get_or-map note_of held i slip (note_of slip) found.0);
    }

module _ (n shares : ℕ) (held : List DrawnSlip) (i : ℕ) (slip : DrawnSlip) (t : Taken n shares held i slip) where
  -- the call that was made is the call that was asked for
  pub asked : (b b' : Book) (away : ℕ) (answer : Answer) → Steps b (Return slip.number slip.shares away) answer b' → Steps b (Return n shares away) answer b'
  asked b b' away answer st =
      subst (λ m. Steps b (Return m shares away) answer b') t.number (subst (λ m. Steps b (Return slip.number m away) answer b') t.shares_on st)

  -- it is gone
  pub gone : (b : Book) (left : List DrawnSlip) (m : ℕ) → InStep b (map note_of held) → left ≡ remove held i → n ≡ m → Perm (filter (λ v. not (eqb v.number m)) (map note_of held)) (map note_of left)
  gone b left m h e same =
      let at = ap (λ v. v.number) t.noted in
      perm_is (sym (ap (map note_of) e ∙ (map_removed note_of held i ∙ removed_kept m (map note_of held) i (note_of slip) (out_apart b (map note_of held) h) (omega (arith, length-map held note_of, t.within)) (sym at ∙ (t.number ∙ same)))))

  -- it is out again
  pub again : (left : List DrawnSlip) (back : DrawnSlip) → back ≡ slip → left ≡ remove held i ++ back ∷ [] → Perm (map note_of held) (map note_of left)
  again left back s e =
      perm_trans (back_again (map note_of held) i (note_of slip) (omega (arith, length-map held note_of, t.within)) t.noted)
      (perm_is (sym (ap (map note_of) (e ∙ ap (λ v. remove held i ++ v ∷ []) s) ∙ (map-append note_of (remove held i) (slip ∷ []) ∙ ap (λ l. l ++ note_of slip ∷ []) (map_removed note_of held i)))))
