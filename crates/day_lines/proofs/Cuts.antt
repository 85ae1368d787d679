-- Where the first line of a text ends, and the first field of a line
use Rattle.std.proofs.Common.{◌≡◌, ℕ, ◌+◌, ◌<◌, ◌≤◌, Bool, true, false, cond, not, eqb, ltb, leb, List, [], ◌∷◌, length, take, drop, Some, None, sym, refl, ap, ◌∙◌, ⊎_elim, arith, suc, one-add}
use Rattle.std.specs.Option.{unwrap_or}
use Rattle.std.specs.List.{position_or_len, before_first, after_first}
use Rattle.std.proofs.lemmas.Bool.{cases_lt, lt-ltb, le-ltb}
use Rattle.std.proofs.lemmas.Bool.Decides.{nat_tests}
use Rattle.std.proofs.lemmas.List.{length-drop, drop-drop, length-take-le}
use Rattle.day_lines.specs.Lines.{put, lines, cells}
use Rattle.day_lines.specs.Cutting.{cells_from}

pub place_within : (p : ℕ → Bool) (bs : List ℕ) → position_or_len p bs ≤ length bs
place_within p [] = omega arith
place_within p (b ∷ bs) = go (p b) (place_within p bs)
  where
    go : (t : Bool) → position_or_len p bs ≤ length bs → cond (not t) (1 + position_or_len p bs) 0 ≤ length (b ∷ bs)
    go true h = omega arith
    go false h = omega arith

pub place_found : (p : ℕ → Bool) (bs : List ℕ) → unwrap_or (cond (ltb (position_or_len p bs) (length bs)) (Some (position_or_len p bs)) None) (length bs) ≡ position_or_len p bs
place_found p bs =
    ⊎_elim
    (λ (k : position_or_len p bs < length bs). ap (λ t. unwrap_or (cond t (Some (position_or_len p bs)) None) (length bs)) (lt-ltb _ _ k))
    (λ (k : length bs ≤ position_or_len p bs). ap (λ t. unwrap_or (cond t (Some (position_or_len p bs)) None) (length bs)) (le-ltb _ _ k) ∙ let h = place_within p bs in omega arith)
    (cases_lt (position_or_len p bs) (length bs))

abbrev ends_line : ℕ → Bool
ends_line b = eqb b 10

abbrev parts_fields : ℕ → Bool
parts_fields b = eqb b 44

one_more : (n : ℕ) (b : ℕ) (bs : List ℕ) → (take (1 + n) (b ∷ bs) ≡ b ∷ take n bs) × (drop (1 + n + 1) (b ∷ bs) ≡ drop (n + 1) bs)
one_more n b bs = (ap (λ k. take k (b ∷ bs)) (one-add n), let e : 1 + n + 1 ≡ suc (n + 1) = omega arith in ap (λ k. drop k (b ∷ bs)) e)

-- the first line of a text that is not empty, and the lines after it
pub first_line : (bs : List ℕ) → 0 < length bs → lines bs ≡ before_first ends_line bs ∷ lines (after_first ends_line bs)
first_line [] h = absurd (omega arith)
first_line (b ∷ bs) h = go (ends_line b) bs (first_line bs)
  where
    go : (t : Bool) (bs : List ℕ) → (0 < length bs → lines bs ≡ before_first ends_line bs ∷ lines (after_first ends_line bs)) → cond t ([] ∷ lines bs) (put b (lines bs)) ≡ take (cond (not t) (1 + position_or_len ends_line bs) 0) (b ∷ bs) ∷ lines (drop (cond (not t) (1 + position_or_len ends_line bs) 0 + 1) (b ∷ bs))
    go true bs k = refl
    go false [] k = refl
    go false (c ∷ cs) k =
        let n = position_or_len ends_line (c ∷ cs) in
        let both = one_more n b (c ∷ cs) in
        ap (put b) (k (omega arith)) ∙ sym (ap (λ l. l ∷ lines (drop (1 + n + 1) (b ∷ c ∷ cs))) both.0 ∙ ap (λ t. (b ∷ take n (c ∷ cs)) ∷ lines t) both.1)

-- the first field of a line, and the fields after it
pub first_cell : (bs : List ℕ) → cells bs ≡ before_first parts_fields bs ∷ cond (ltb (position_or_len parts_fields bs) (length bs)) (cells (after_first parts_fields bs)) []
first_cell [] = refl
first_cell (b ∷ bs) = go (parts_fields b) (first_cell bs)
  where
    go : (t : Bool) → cells bs ≡ before_first parts_fields bs ∷ cond (ltb (position_or_len parts_fields bs) (length bs)) (cells (after_first parts_fields bs)) [] → cond t ([] ∷ cells bs) (put b (cells bs)) ≡ take (cond (not t) (1 + position_or_len parts_fields bs) 0) (b ∷ bs) ∷ cond (ltb (cond (not t) (1 + position_or_len parts_fields bs) 0) (length (b ∷ bs))) (cells (drop (cond (not t) (1 + position_or_len parts_fields bs) 0 + 1) (b ∷ bs))) []
    go true k = ap (λ t. [] ∷ cond t (cells bs) []) (sym (lt-ltb 0 (suc (length bs)) (omega arith)))
    go false k =
        let n = position_or_len parts_fields bs in
        let both = one_more n b bs in
        let t : ltb (1 + n) (suc (length bs)) ≡ ltb n (length bs) = grind (arith, nat_tests) in
        ap (put b) k ∙ sym (ap (λ l. l ∷ cond (ltb (1 + n) (suc (length bs))) (cells (drop (1 + n + 1) (b ∷ bs))) []) both.0
        ∙ (ap (λ t. (b ∷ take n bs) ∷ cond (ltb (1 + n) (suc (length bs))) (cells t) []) both.1 ∙ ap (λ t. (b ∷ take n bs) ∷ cond t (cells (drop (n + 1) bs)) []) t))

-- one field cut off from a place on
pub cell_cut : (line : List ℕ) (at : ℕ) → at ≤ length line → cells_from at line ≡ before_first parts_fields (drop at line) ∷ cells_from (at + (position_or_len parts_fields (drop at line) + 1)) line
cell_cut line at h =
    let rest = drop at line in
    let n = position_or_len parts_fields rest in
    let here : leb at (length line) ≡ true = grind (arith, nat_tests) in
    let l = length-drop at line in
    let there : ltb n (length rest) ≡ leb (at + (n + 1)) (length line) = grind (arith, nat_tests) in
    ap (λ t. cond t (cells rest) []) here ∙ (first_cell rest
    ∙ (ap (λ t. take n rest ∷ cond t (cells (drop (n + 1) rest)) []) there
    ∙ ap (λ t. take n rest ∷ cond (leb (at + (n + 1)) (length line)) (cells t) []) (drop-drop (n + 1) at line)))

-- the same, in the words of what cuts it off
pub field_cut : (line rest c : List ℕ) (at n : ℕ) → at ≤ length line → rest ≡ drop at line → n ≡ position_or_len parts_fields rest → n ≤ length rest → c ≡ take n rest → (cells_from at line ≡ c ∷ cells_from (at + (n + 1)) line) × (length c ≡ n)
field_cut line rest c at n h e place within is =
    let m : n ≡ position_or_len parts_fields (drop at line) = place ∙ ap (position_or_len parts_fields) e in
    let first : c ≡ before_first parts_fields (drop at line) = is ∙ (ap (take n) e ∙ ap (λ k. take k (drop at line)) m) in (
      cell_cut line at h ∙ (ap (λ t. t ∷ cells_from (at + (position_or_len parts_fields (drop at line) + 1)) line) (sym first) ∙ ap (λ k. c ∷ cells_from (at + (k + 1)) line) (sym m)),
      ap length is ∙ length-take-le n rest within,
    )
