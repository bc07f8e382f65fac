-- The place of a fault as a checker finds it is the place that the table says.
use Rattle.std.proofs.Common.{◌≡◌, ℕ, suc, ◌+◌, ◌-◌, ◌≤◌, Bool, true, false, cond, ◌&&◌, ◌⊎◌, List, [], ◌∷◌, length, drop, Some, None, sym, refl, ap, ◌∙◌, inl, inr, add-one, arith}
use Rattle.std.specs.List.{slice_get}
use Rattle.std.proofs.lemmas.List.{drop_all}
use Rattle.std.proofs.lemmas.Option.{gets}
use Rattle.text.proofs.Places.{nth_drop}
use Rattle.std.proofs.lemmas.Bool.Decides.{nat_tests}
use Rattle.text.specs.Utf8.{Row, table, holds, matches, matched, sequence, sound, sound_after}
use Rattle.text.specs.Checker.{Progress, between, left_after, came_to, step, none_left}

-- each byte begins at most one row
one_or_none : {X : Type 0} (xs : List X) → length xs ≤ 1 → (xs ≡ []) ⊎ ((x : X) × (xs ≡ x ∷ []))
one_or_none [] h = inl refl
one_or_none (x ∷ []) h = inr (x, refl)
one_or_none (x ∷ y ∷ xs) h = absurd (omega arith)

few_left : (b : ℕ) → length (left_after b table) ≤ 1
few_left b = grind (arith, nat_tests)

pub lead_row : (b : ℕ) → (left_after b table ≡ []) ⊎ ((row : Row) × (left_after b table ≡ row ∷ []))
lead_row b = one_or_none (left_after b table) (few_left b)

-- how many bytes are well formed, as a checker finds it
unfoldable pub found : Progress → ℕ → List ℕ → ℕ
found p i [] = i - p.taken
found p i (b ∷ bs) = cond (none_left (step p b).rows) (i - (step p b).taken) (found (step p b) (suc i) bs)

-- the same by the table, with bytes still to be passed
abbrev told : ℕ → ℕ → List ℕ → ℕ
told i n bs = i + sound_after n bs

-- a row is met byte by byte
abbrev Full : List Row → Type 0
Full [] = Unit {0}
Full ([] ∷ rows) = ⊥
Full ((range ∷ row) ∷ rows) = Full rows

abbrev pub grown : List Row → List ℕ → ℕ
grown [] bs = 0
grown (row ∷ rows) bs = cond (matches row bs) (suc (length row)) (grown rows bs)

matched-grown : (rows : List Row) (b : ℕ) (bs : List ℕ) → Full rows → matched rows (b ∷ bs) ≡ grown (left_after b rows) bs
matched-grown [] b bs f = refl
matched-grown ([] ∷ rows) b bs f = absurd f
matched-grown ((range ∷ row) ∷ rows) b bs f =
    let e = matched-grown rows b bs f in
    elim (holds range b) as (λ t. cond (t && matches row bs) (suc (length row)) (matched rows (b ∷ bs)) ≡ grown (cond t (row ∷ left_after b rows) (left_after b rows)) bs) [
      | true ↦ ap (cond (matches row bs) (suc (length row))) e
      | false ↦ e
    ]

pub sequence-grown : (b : ℕ) (bs : List ℕ) → sequence (b ∷ bs) ≡ grown (left_after b table) bs
unfolding sequence
sequence-grown b bs = matched-grown table b bs tt

pub told_more : (i n b : ℕ) (bs : List ℕ) → told i (suc n) (b ∷ bs) ≡ told (suc i) n bs
unfolding sound_after
told_more i n b bs = omega arith

pub sound_none : (b : ℕ) (bs : List ℕ) → sequence (b ∷ bs) ≡ 0 → sound (b ∷ bs) ≡ 0
unfolding sound_after
sound_none b bs e = rw e

pub sound_one : (b n : ℕ) (bs : List ℕ) → sequence (b ∷ bs) ≡ suc n → sound (b ∷ bs) ≡ suc (sound_after n bs)
unfolding sound_after
sound_one b n bs e = rw e (grind (arith, nat_tests))

told_none : (i b : ℕ) (bs : List ℕ) → sequence (b ∷ bs) ≡ 0 → told i 0 (b ∷ bs) ≡ i
told_none i b bs e = let z = sound_none b bs e in omega arith

told_one : (i n b : ℕ) (bs : List ℕ) → sequence (b ∷ bs) ≡ suc n → told i 0 (b ∷ bs) ≡ told (suc i) n bs
told_one i n b bs e = let z = sound_one b n bs e in omega arith

told_lead : (t : Bool) (i n b : ℕ) (bs : List ℕ) → sequence (b ∷ bs) ≡ cond t (suc n) 0 → cond t (told (suc i) n bs) i ≡ told i 0 (b ∷ bs)
told_lead true i n b bs e = sym (told_one i n b bs e)
told_lead false i n b bs e = sym (told_none i b bs e)

-- what is found once a byte has left these rows
abbrev left_found : ℕ → ℕ → List ℕ → List Row → ℕ
left_found n i bs rows = cond (none_left (came_to rows n).rows) (i - (came_to rows n).taken) (found (came_to rows n) (suc i) bs)

left_one : (row : Row) (n i : ℕ) (bs : List ℕ) → left_found n i bs (row ∷ []) ≡ found (came_to (row ∷ []) n) (suc i) bs
unfolding found
left_one [] n i bs = refl
left_one (range ∷ row) n i bs = refl

-- where a sequence began of which `n` bytes stand before the last one, if it goes on at `i`
abbrev Began : Row → ℕ → ℕ → ℕ → Type 0
Began [] n i m = Unit {0}
Began (range ∷ row) n i m = m + suc n ≡ i

began : (row : Row) (n i m : ℕ) → m + suc n ≡ i → Began row n i m
began [] n i m e = tt
began (range ∷ row) n i m e = e

-- a sequence that is begun is finished, or is the fault
found-row : (row : Row) (n i m : ℕ) (bs : List ℕ) → Began row n i m → found (came_to (row ∷ []) n) i bs ≡ cond (matches row bs) (told i (length row) bs) m
unfolding sound_after found
found-row [] n i m [] e = omega arith
found-row (range ∷ row) n i m [] e = omega arith
found-row [] n i m (b ∷ bs) e =
    elim (lead_row b) [
      | inl l ↦
          ap (left_found 0 i bs) l
          ∙ omega arith
          ∙ sym (told_none i b bs (sequence-grown b bs ∙ ap (λ rows. grown rows bs) l))
      | inr l ↦
          ap (left_found 0 i bs) l.1
          ∙ left_one l.0 0 i bs
          ∙ found-row l.0 0 (suc i) i bs (began l.0 0 (suc i) i (omega arith))
          ∙ told_lead (matches l.0 bs) i (length l.0) b bs (sequence-grown b bs ∙ ap (λ rows. grown rows bs) l.1)
    ]
found-row (range ∷ row) n i m (b ∷ bs) e =
    elim (holds range b) as (λ t. left_found (suc n) i bs (cond t (row ∷ []) []) ≡ cond (t && matches row bs) (told i (suc (length row)) (b ∷ bs)) m) [
      | true ↦
          left_one row (suc n) i bs
          ∙ found-row row (suc n) (suc i) m bs (began row (suc n) (suc i) m (omega arith))
          ∙ ap (λ o. cond (matches row bs) o m) (sym (told_more i (length row) b bs))
      | false ↦ omega arith
    ]

found-told : (i : ℕ) (bs : List ℕ) → found between i bs ≡ told i 0 bs
found-told i bs = found-row [] 0 i i bs tt

pub found_sound : (bs : List ℕ) → found between 0 bs ≡ sound bs
found_sound bs = found-told 0 bs ∙ omega arith

-- one byte, and the end
step_taken : (rows : List Row) (n : ℕ) → (came_to rows n).taken ≤ n + 1
step_taken [] n = omega arith
step_taken ([] ∷ rows) n = omega arith
step_taken ((range ∷ row) ∷ rows) n = omega arith

ill_taken : (rows : List Row) (n : ℕ) → none_left (came_to rows n).rows ≡ true → (came_to rows n).taken ≡ n
ill_taken [] n h = refl
ill_taken ([] ∷ rows) n h = let z : ◌≡◌ {A = ℕ} 0 1 = cc in absurd (omega arith)
ill_taken ((range ∷ row) ∷ rows) n h = let z : ◌≡◌ {A = ℕ} 0 1 = cc in absurd (omega arith)

module _ (p q : Progress) (b : ℕ) (e : q ≡ step p b) where
  pub taken_more : q.taken ≤ p.taken + 1
  taken_more = rw e (step_taken (left_after b p.rows) p.taken)

  pub taken_ill : none_left q.rows ≡ true → q.taken ≡ p.taken
  taken_ill h =
      ap (λ s. s.taken) e
      ∙ ill_taken (left_after b p.rows) p.taken (sym (ap (λ s. none_left s.rows) e) ∙ h)

module _ (p q : Progress) (xs : List ℕ) (i b : ℕ) (at : slice_get xs i ≡ Some b) (e : q ≡ step p b) where
  pub found_ill : none_left q.rows ≡ true → found p i (drop i xs) ≡ i - q.taken
  unfolding found
  found_ill h = rw (nth_drop xs i b at, ← e, h)

  pub found_more : none_left q.rows ≡ false → found p i (drop i xs) ≡ found q (i + 1) (drop (i + 1) xs)
  unfolding found
  found_more h = rw (nth_drop xs i b at, ← e, h, add-one)

module _ (p : Progress) (xs : List ℕ) (i : ℕ) (end : slice_get xs i ≡ None) where
  at_end : drop i xs ≡ []
  at_end = let past : length xs ≤ i = grind (arith, gets) in drop_all i xs past

  pub found_end : found p i (drop i xs) ≡ i - p.taken
  unfolding found
  found_end = rw at_end
