-- Words compared letter by letter.
use Rattle.std.proofs.Common.{◌≡◌, ℕ, ◌+◌, ◌≤◌, Bool, false, ◌&&◌, ◌==◌, eqb, List, [], ◌∷◌, length, drop, Option, Some, None, sym, refl, ap, ◌∙◌, arith}
use Rattle.lexer.proofs.Turns.{by_byte, turn}
use Rattle.lexer.specs.Psql.{spelt}
use Rattle.std.proofs.lemmas.List.{drop_all}
use Rattle.std.proofs.lemmas.Bool.{and_right}
use Rattle.std.specs.List.{list_all, range_with_len, slice_get, zip}

-- words of two lengths differ
pub spelt_unlike : (f : ℕ → ℕ) (xs ys : List ℕ) → (length xs ≡ length ys → ⊥) → spelt f xs ys ≡ false
spelt_unlike f [] [] h = absurd (h refl)
spelt_unlike f [] (y ∷ ys) h = refl
spelt_unlike f (x ∷ xs) [] h = refl
spelt_unlike f (x ∷ xs) (y ∷ ys) h = and_right (eqb x (f y)) (spelt f xs ys) (spelt_unlike f xs ys (λ e. h (omega arith)))

and_by_byte : (o : Option ℕ) (p : ℕ → Bool) (r : Bool) → (by_byte o false p && r) ≡ by_byte o false (λ b. p b && r)
and_by_byte None p r = refl
and_by_byte (Some b) p r = refl

-- whether the byte at a place, folded, is a letter
abbrev pub stands : (ℕ → ℕ) → List ℕ → ℕ × ℕ → Bool
stands f ys p = by_byte (slice_get ys p.0) false (λ b. p.1 == f b)

-- the letters one by one, from a place on
pub spelt_from : (f : ℕ → ℕ) (xs ys : List ℕ) (i : ℕ) → length ys ≤ i + length xs → list_all (stands f ys) (zip (range_with_len i (length xs)) xs) ≡ spelt f xs (drop i ys)
spelt_from f [] ys i h = sym (ap (spelt f []) (drop_all i ys (omega arith)))
spelt_from f (x ∷ xs) ys i h =
    ap (λ b. stands f ys (i, x) && b) (spelt_from f xs ys (i + 1) (omega arith))
    ∙ and_by_byte (slice_get ys i) (λ b. x == f b) (spelt f xs (drop (i + 1) ys))
    ∙ sym (turn (spelt f (x ∷ xs)) false (λ b zs. x == f b && spelt f xs zs) refl (λ b zs. refl) ys i)
