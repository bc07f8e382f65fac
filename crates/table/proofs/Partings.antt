-- Where two lists of tokens part, one entry after another.
use Rattle.std.proofs.Common.{◌≡◌, ℕ, suc, ◌+◌, ◌<◌, ◌≤◌, Bool, true, false, cond, List, [], ◌∷◌, length, get_or, take, drop, Some, None, Option, sym, refl, ap, ◌∙◌, subst, inl, inr, arith}
use Rattle.lexer.specs.declared.token.Token.{Token}
use Rattle.std.proofs.lemmas.List.{drop_all, drop_more}
use Rattle.std.proofs.lemmas.Bool.{both_ways, cases_Bool}
use Rattle.std.specs.List.{slice_get}
use Rattle.table.proofs.Readings.{some_none, some_value}
use Rattle.table.proofs.Equal.{same_decides}
use Rattle.table.specs.Parting.{Tells, parting, parting_from}
use Rattle.table.specs.Same.{same}
use Rattle.std.proofs.lemmas.Option.{slice_get_within, get_or_from_slice_get}

-- lists of which one or both are at their end
module _ (ts us : List Token) (i : ℕ) (d : Token) where
  pub parting_first_ends : length ts ≤ i → i < length us → parting_from i (drop i ts) (drop i us) ≡ Some i
  unfolding parting_from
  parting_first_ends beyond below = rw (drop_all i ts beyond, drop_more us i d below)

  pub parting_second_ends : i < length ts → length us ≤ i → parting_from i (drop i ts) (drop i us) ≡ Some i
  unfolding parting_from
  parting_second_ends below beyond = rw (drop_more ts i d below, drop_all i us beyond)

  pub parting_both_end : length ts ≤ i → length us ≤ i → parting_from i (drop i ts) (drop i us) ≡ None
  unfolding parting_from
  parting_both_end beyond over = rw (drop_all i ts beyond, drop_all i us over)

-- lists that both have an entry
module _ (ts us : List Token) (i : ℕ) (d t : Token) (e : slice_get ts i ≡ Some t) (below : i < length us) where
  next_entries : parting_from i (drop i ts) (drop i us) ≡ cond (same t (get_or us i d)) (parting_from (i + 1) (drop (i + 1) ts) (drop (i + 1) us)) (Some i)
  unfolding parting_from
  next_entries =
      ap (λ l. parting_from i l (drop i us)) (drop_more ts i d (slice_get_within ts i t e) ∙ ap (λ x. x ∷ drop (i + 1) ts) (get_or_from_slice_get ts i t d e))
      ∙ ap (parting_from i (t ∷ drop (i + 1) ts)) (drop_more us i d below)

  pub parting_here : same t (get_or us i d) ≡ false → parting_from i (drop i ts) (drop i us) ≡ Some i
  parting_here apart = next_entries ∙ ap (λ b. cond b (parting_from (i + 1) (drop (i + 1) ts) (drop (i + 1) us)) (Some i)) apart

  pub parting_later : same t (get_or us i d) ≡ true → parting_from i (drop i ts) (drop i us) ≡ parting_from (i + 1) (drop (i + 1) ts) (drop (i + 1) us)
  parting_later alike = next_entries ∙ ap (λ b. cond b (parting_from (i + 1) (drop (i + 1) ts) (drop (i + 1) us)) (Some i)) alike

-- what the first index tells, counted from the entries that are left
abbrev TellsFrom : ℕ → List Token → List Token → Option ℕ → Type 0
TellsFrom i ts us None = ts ≡ us
TellsFrom i ts us (Some j) = (k : ℕ) × (j ≡ i + k) × (take k ts ≡ take k us) × (slice_get ts k ≡ slice_get us k → ⊥)

parts_at_once : (i : ℕ) (ts us : List Token) → (slice_get ts 0 ≡ slice_get us 0 → ⊥) → TellsFrom i ts us (Some i)
parts_at_once i ts us apart = (0, (let e : i ≡ i + 0 = omega arith in e), refl, apart)

one_more : (i : ℕ) (t : Token) (ts us : List Token) (o : Option ℕ) → TellsFrom (i + 1) ts us o → TellsFrom i (t ∷ ts) (t ∷ us) o
one_more i t ts us None e = ap (λ l. t ∷ l) e
one_more i t ts us (Some j) (k, at, front, apart) = (suc k, (let e : j ≡ i + suc k = omega arith in e), ap (λ l. t ∷ l) front, apart)

tells_from : (i : ℕ) (ts us : List Token) → TellsFrom i ts us (parting_from i ts us)
unfolding parting_from
tells_from i [] [] = refl
tells_from i [] (u ∷ us) = parts_at_once i [] (u ∷ us) (λ e. some_none (Some u) u refl (sym e))
tells_from i (t ∷ ts) [] = parts_at_once i (t ∷ ts) [] (λ e. some_none (Some t) t refl e)
tells_from i (t ∷ ts) (u ∷ us) =
    let decides = same_decides t u in
    let P : Bool → Type 0 = λ b. TellsFrom i (t ∷ ts) (u ∷ us) (cond b (parting_from (i + 1) ts us) (Some i)) in
    elim (cases_Bool (same t u)) [
      | inl e ↦
          let later = one_more i t ts us (parting_from (i + 1) ts us) (tells_from (i + 1) ts us) in
          subst P (sym e) (subst (λ (v : Token). TellsFrom i (t ∷ ts) (v ∷ us) (parting_from (i + 1) ts us)) (decides.0 e) later)
      | inr e ↦ subst P (sym e) (parts_at_once i (t ∷ ts) (u ∷ us) (λ h. both_ways (same t u) e (decides.1 (some_value (Some t) t u refl h))))
    ]

from_start : (ts us : List Token) (o : Option ℕ) → TellsFrom 0 ts us o → Tells ts us o
from_start ts us None e = e
from_start ts us (Some j) (k, at, front, apart) =
    let e : k ≡ j = omega arith in
    (subst (λ n. take n ts ≡ take n us) e front, (λ h. apart (subst (λ n. slice_get ts n ≡ slice_get us n) (sym e) h)))

pub parting_tells : (ts us : List Token) → Tells ts us (parting ts us)
parting_tells ts us = from_start ts us (parting ts us) (tells_from 0 ts us)
