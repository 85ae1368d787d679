-- The slips that are out come back, each with nothing executed away
use Rattle.std.proofs.Common.{◌≡◌, ℕ, ◌-◌, Bool, true, false, cond, not, ◌&&◌, eqb, ltb, List, [], ◌∷◌, ◌++◌, map, filter, Some, None, Ok, Err, Result, sym, refl, ap, ◌∙◌, subst, arith}
use Rattle.std.specs.Result.{IsOk}
use Rattle.std.proofs.lemmas.List.{append-nil, map-append}
use Rattle.std.proofs.lemmas.Bool.{eq-eqb, le-ltb, true≢false}
use Rattle.terms.specs.declared.orders.Fill.{Fill}
use Rattle.terms.specs.declared.orders.Slip.{Slip}
use Rattle.terms.specs.declared.refusals.Refusal.TheVariants.{NoDrawnSlip, MoreThanSlip}
use Rattle.quotes.specs.Quotes.{Quotes, no_quotes}
use Rattle.rules.specs.Lists.{any, and_then}
use Rattle.rules.specs.Sorted.{Perm}
use Rattle.rules.specs.Sorted.Perm.{perm_nil, perm_cons, perm_swap, perm_trans}
use Rattle.rules.proofs.Perms.{perm_is, perm_middle}
use Rattle.laws.specs.Book.{Book, after_return, is_drawn, with_slips}
use Rattle.laws.specs.Book.{Answer as Told}
use Rattle.laws.specs.Book.Answer.{Returned}
use Rattle.laws.specs.Rows.{decided}
use Rattle.laws.specs.Routed.{Note, drawn_notes, out_after, InStep, is_note}
use Rattle.laws.specs.Steps.{accepts, unless, step, run, trace}
use Rattle.laws.proofs.Out.{stays_in_step, out_has, out_apart}
use Rattle.laws.proofs.Whole.{the_law}
use Rattle.slips.specs.declared.slip.DrawnSlip.{DrawnSlip}
use Rattle.slips.specs.declared.slip.ReturnAnswer.{ReturnAnswer}
use Rattle.slips.specs.declared.slip.RefusedReturn.{RefusedReturn}
use Rattle.slips.specs.Slips.{return_answer}
use Rattle.book.specs.BookState.{Steps, state_of}
use Rattle.venue.specs.Answers.{note_of}
use Rattle.venue.specs.Closing.{all_back, all_cancelled, unspent, ComeBack}
use Rattle.venue.proofs.Holding.{kept_all}
use Rattle.venue.proofs.Tallies.{in_step_perm}

-- ALL SLIPS ARE BACK

-- no slip is out, so none is drawn
none_out : {xs ys : List Note} → Perm xs ys → ys ≡ [] → xs ≡ []
none_out perm_nil e = refl
none_out (perm_cons p) e = absurd cc
none_out perm_swap e = absurd cc
none_out (perm_trans p q) e = none_out p (none_out q e)

none_drawn : (xs : List Slip) → drawn_notes xs ≡ [] → filter (λ x. not x.drawn) xs ≡ xs
none_drawn [] h = refl
none_drawn (x ∷ xs) h = go x.drawn h (none_drawn xs)
  where
    go : (d : Bool) → and_then (cond d (Some (record { number = x.number; shares = x.shares })) None) (drawn_notes xs) ≡ [] → (drawn_notes xs ≡ [] → filter (λ x. not x.drawn) xs ≡ xs) → cond (not d) (x ∷ filter (λ x. not x.drawn) xs) (filter (λ x. not x.drawn) xs) ≡ x ∷ xs
    go true e rest = absurd cc
    go false e rest = ap (λ l. x ∷ l) (rest e)

-- where no slip is out, a book is as it would be with all back
pub back_is_all : (b : Book) → InStep b [] → all_back b ≡ b
back_is_all b h = ap (with_slips b) (none_drawn b.slips (none_out h.same refl))

-- ONE SLIP COMES BACK

-- what a test keeps it keeps also where nothing of that was taken out before
kept_within : {X : Type 0} (p q : X → Bool) → ((x : X) → p x ≡ true → q x ≡ true) → (xs : List X) → filter p (filter q xs) ≡ filter p xs
kept_within p q h [] = refl
kept_within p q h (x ∷ xs) = go (q x) refl (p x) refl (kept_within p q h xs)
  where
    go : (c : Bool) → q x ≡ c → (b : Bool) → p x ≡ b → filter p (filter q xs) ≡ filter p xs → filter p (cond c (x ∷ filter q xs) (filter q xs)) ≡ cond b (x ∷ filter p xs) (filter p xs)
    go true i b j rest = ap (λ v. cond v (x ∷ filter p (filter q xs)) (filter p (filter q xs))) j ∙ ap (λ l. cond b (x ∷ l) l) rest
    go false i true j rest = absurd (true≢false (sym (h x j) ∙ i))
    go false i false j rest = rest

-- a slip that waits is not one that is taken back
waiting_stays : (n shares : ℕ) (x : Slip) → not x.drawn ≡ true → not (is_drawn n shares x) ≡ true
waiting_stays n shares x = go (eqb x.number n) x.drawn (eqb x.shares shares)
  where
    go : (b d k : Bool) → not d ≡ true → not (b && (d && k)) ≡ true
    go true true k e = absurd (true≢false (sym e))
    go true false k e = refl
    go false d k e = refl

module _ (b : Book) (v : Note) (rest : List Note) (h : InStep b (v ∷ rest)) where
  abbrev left : Book
  left = after_return b v.number v.shares

  its_own : is_note v.number v.shares v ≡ true
  its_own = ap (λ x. x && eqb v.shares v.shares) (eq-eqb v.number v.number refl) ∙ eq-eqb v.shares v.shares refl

  -- the book has it as drawn, so it is not refused, and all its shares are cancelled
  comes_back : (centres : ℕ) (quotes : Quotes) (list : List Fill) → step centres (state_of b quotes list) (unspent v) ≡ (all_cancelled v, state_of left quotes list)
  comes_back centres quotes list =
      let s = state_of b quotes list in
      let asked = λ (there more : Bool). unless (decided ((not there, NoDrawnSlip) ∷ (more, MoreThanSlip) ∷ [])) s (accepts centres s (unspent v)) in
      let there : any (is_drawn v.number v.shares) b.slips ≡ true = out_has b (v ∷ rest) h v.number v.shares ∙ ap (λ x. cond x true (any (is_note v.number v.shares) rest)) its_own in
      let whole : v.shares - 0 ≡ v.shares = omega arith in
      let told : ℕ → Told = λ n. Returned v.number 0 n in
      ap (λ there. asked there (ltb v.shares 0)) there ∙ (ap (asked true) (le-ltb v.shares 0 (omega arith)) ∙ ap (λ n. (told n, state_of left quotes list)) whole)

  -- the others stay out
  others_out : InStep left rest
  others_out =
      let kept = λ (x : Bool). cond (not x) (v ∷ filter (λ w. not (eqb w.number v.number)) rest) (filter (λ w. not (eqb w.number v.number)) rest) in
      let without : out_after (v ∷ rest) (all_cancelled v) ≡ rest = ap kept (eq-eqb v.number v.number refl) ∙ kept_all v.number rest (out_apart b (v ∷ rest) h).0 in
      in_step_perm left (out_after (v ∷ rest) (all_cancelled v)) rest
      (subst (λ x. InStep x.1.book (out_after (v ∷ rest) x.0)) (comes_back 0 no_quotes []) (stays_in_step 0 (state_of b no_quotes []) (unspent v) (v ∷ rest) h)) (perm_is without)

  -- the slips that wait stay, and so does all else
  still_all_back : all_back left ≡ all_back b
  still_all_back = ap (with_slips b) (kept_within (λ x. not x.drawn) (λ x. not (is_drawn v.number v.shares x)) (waiting_stays v.number v.shares) b.slips)

-- ALL COME BACK, ONE AFTER ANOTHER

module _ (centres : ℕ) (quotes : Quotes) (list : List Fill) where
  all_answered : (b : Book) (out : List Note) → InStep b out → map (λ m. m.answer) (trace centres (state_of b quotes list) (map unspent out)) ≡ map all_cancelled out
  all_answered b [] h = refl
  all_answered b (v ∷ rest) h =
      ap (λ r. r.0 ∷ map (λ m. m.answer) (trace centres r.1 (map unspent rest))) (comes_back b v rest h centres quotes list)
      ∙ ap (λ l. all_cancelled v ∷ l) (all_answered (after_return b v.number v.shares) rest (others_out b v rest h))

  all_left : (b : Book) (out : List Note) → InStep b out → run centres (state_of b quotes list) (map unspent out) ≡ state_of (all_back b) quotes list
  all_left b [] h = ap (λ b. state_of b quotes list) (sym (back_is_all b h))
  all_left b (v ∷ rest) h =
      ap (λ r. run centres r.1 (map unspent rest)) (comes_back b v rest h centres quotes list)
      ∙ (all_left (after_return b v.number v.shares) rest (others_out b v rest h) ∙ ap (λ b. state_of b quotes list) (still_all_back b v rest h))

pub come_back : (b b' : Book) (out : List Note) → InStep b out → b' ≡ all_back b → InStep b' [] → ComeBack b out b'
come_back b b' out h stands none = record {
  stands = stands;
  none_out = none;
  answered = λ centres quotes list order p. all_answered centres quotes list b order (in_step_perm b out order h p);
  leaves = λ centres quotes list order p. all_left centres quotes list b order (in_step_perm b out order h p) ∙ ap (λ b. state_of b quotes list) (sym stands);
  law = λ centres quotes _ list _ calls order _ _. the_law centres quotes list (calls ++ map unspent order);
}

-- THE LAST SLIP OF A LIST, given to its book

module _ (b b' : Book) (held rest : List DrawnSlip) (slip : DrawnSlip) (is : held ≡ rest ++ slip ∷ []) (h : InStep b (map note_of held)) where
  with_it : InStep b (note_of slip ∷ map note_of rest)
  with_it =
      in_step_perm b (map note_of held) (note_of slip ∷ map note_of rest) h
      (perm_trans (perm_is (ap (map note_of) is ∙ map-append note_of rest (slip ∷ [])))
      (perm_trans (perm_middle (map note_of rest) (note_of slip) []) (perm_cons (perm_is (append-nil (map note_of rest))))))

  -- it is not refused
  pub taken_back : (r : Result ReturnAnswer RefusedReturn) → Steps b (unspent (note_of slip)) (return_answer r) b' → IsOk r
  taken_back (Ok a) st = refl
  taken_back (Err back) st =
      let told = ap (λ x. x.0) (sym (comes_back b (note_of slip) (map note_of rest) with_it 0 no_quotes []) ∙ st 0 no_quotes []) in
      absurd cc

  -- the others stay out, and so much is left to come back
  pub one_fewer : (r : Result ReturnAnswer RefusedReturn) → Steps b (unspent (note_of slip)) (return_answer r) b' → InStep b' (map note_of rest) × (all_back b' ≡ all_back b)
  one_fewer r st =
      let stands : after_return b slip.number slip.shares ≡ b' = ap (λ x. x.1.book) (sym (comes_back b (note_of slip) (map note_of rest) with_it 0 no_quotes []) ∙ st 0 no_quotes []) in (
        subst (λ b. InStep b (map note_of rest)) stands (others_out b (note_of slip) (map note_of rest) with_it),
        ap all_back (sym stands) ∙ still_all_back b (note_of slip) (map note_of rest) with_it,
      )
