-- Lists that are written from the front
use Rattle.std.proofs.Common.{◌≡◌, ℕ, ◌+◌, ◌-◌, ◌<◌, ◌≤◌, List, [], ◌∷◌, ◌++◌, map, length, get_or, take, drop, set, append_assoc, sym, refl, ap, ◌∙◌, arith, length-drop, length-take-le}
use Rattle.std.proofs.lemmas.List.{length-append, length-map, map-append, take_more}
use Rattle.terms.specs.declared.orders.Fill.{Fill}
use Rattle.plain_calls.specs.declared.answers.PlainFill.{PlainFill}
use Rattle.plain_calls.specs.Plain.{over, plain_fill}

put_next : {X : Type 0} (front list : List X) (x : X) → length front < length list → set (over front list) (length front) x ≡ over (front ++ x ∷ []) list
put_next [] [] x h = absurd (omega arith)
put_next [] (b ∷ bs) x h = refl
put_next (f ∷ fs) [] x h = absurd (omega arith)
put_next (f ∷ fs) (b ∷ bs) x h = ap (λ l. f ∷ l) (put_next fs bs x (omega arith))

-- one more after the front
pub over_put : {X : Type 0} (front list : List X) (n : ℕ) (x : X) → length front ≡ n → n < length list → set (over front list) n x ≡ over (front ++ x ∷ []) list
over_put front list n x e h = ap (λ m. set (over front list) m x) (sym e) ∙ put_next front list x (omega arith)

-- how long such a list is
pub length_over : {X : Type 0} (front list : List X) → length (over front list) ≡ length front + (length list - length front)
length_over front list = omega (arith, length-append front (drop (length front) list), length-drop (length front) list)

-- fills one after another, after so many places
module _ (front list : List PlainFill) (fills : List Fill) where
  pub fills_next : (out old : List PlainFill) (at i : ℕ) (f : Fill) (p : PlainFill) → old ≡ over front list → length front ≡ at → at + length fills ≤ length old → i < length fills → p ≡ plain_fill (get_or fills i f)
      → out ≡ over (front ++ map plain_fill (take i fills)) list → set out (at + i) p ≡ over (front ++ map plain_fill (take (i + 1) fills)) list
  fills_next out old at i f p e k room lt is so_far =
      let before = front ++ map plain_fill (take i fills) in
      let many : length before ≡ at + i = omega (arith, length-append front (map plain_fill (take i fills)), length-map (take i fills) plain_fill, length-take-le i fills (omega arith), k) in
      let long : at + i < length list = omega (arith, ap length e, length_over front list, k) in
      let more : map plain_fill (take (i + 1) fills) ≡ map plain_fill (take i fills) ++ p ∷ [] =
      ap (map plain_fill) (take_more fills i f lt) ∙ (map-append plain_fill (take i fills) (get_or fills i f ∷ []) ∙ ap (λ x. map plain_fill (take i fills) ++ x ∷ []) (sym is)) in
      ap (λ l. set l (at + i) p) so_far
      ∙ (over_put before list (at + i) p many long
      ∙ ap (λ l. over l list) (append_assoc front (map plain_fill (take i fills)) (p ∷ []) ∙ ap (λ l. front ++ l) (sym more)))
