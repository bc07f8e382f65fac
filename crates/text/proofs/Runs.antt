-- A run of the checker comes to where the table says.
use Rattle.std.proofs.Common.{◌≡◌, ℕ, zero, suc, ◌+◌, ◌≤◌, Bool, true, false, cond, ◌&&◌, ltb, List, [], ◌∷◌, length, drop, sym, refl, ap, ◌∙◌, subst, inl, inr, arith, length-drop}
use Rattle.std.proofs.lemmas.List.{drop-drop}
use Rattle.std.proofs.lemmas.Bool.Decides.{nat_tests}
use Rattle.std.proofs.str.Laws.{both}
use Rattle.text.specs.Utf8.{Row, table, holds, matches, sequence, sound, sound_after}
use Rattle.text.specs.Checker.{Progress, between, left_after, came_to, none_left, run, begun, unsound, Stands, RunsByTable}
use Rattle.text.proofs.Encoded.{never}
use Rattle.text.proofs.Found.{lead_row, grown, sequence-grown, sound_none}
use Rattle.text.proofs.Sound.{sound-sequence, front}

-- a row that is matched leads between two sequences again
row-run : (row : Row) (n : ℕ) (bs : List ℕ) → matches row bs ≡ true → run (came_to (row ∷ []) n) bs ≡ run between (drop (length row) bs)
row-run [] n bs e = refl
row-run (r ∷ row) n [] e = never e
row-run (r ∷ row) n (b ∷ bs) e =
    let p = both (holds r b) (matches row bs) e in
    ap (λ t. run (came_to (cond t (row ∷ []) []) (suc n)) bs) p.0 ∙ row-run row (suc n) bs p.1

-- with no row left nothing moves
ill_run : (n : ℕ) (bs : List ℕ) → run (came_to [] n) bs ≡ came_to [] n
ill_run n [] = refl
ill_run n (b ∷ bs) = ill_run n bs

-- the end of a run within a sequence of which `k` bytes came before: `g` more of the `l` bytes begin a row
record Stopped (k g l : ℕ) (p : Progress) : Type 0 where
  taken : p.taken ≡ k + g
  ill : none_left p.rows ≡ ltb g l

-- how many bytes begin a row, the first of them gone
abbrev begun_after : List ℕ → List Row → ℕ
begun_after bs rows = cond (none_left rows) 0 (suc (begun rows bs))

ill_stop : (n l : ℕ) (bs : List ℕ) → Stopped n 0 (suc l) (run (came_to [] n) bs)
ill_stop n l bs = subst (Stopped n 0 (suc l)) (sym (ill_run n bs)) (record { taken = omega arith; ill = grind (arith, nat_tests) })

-- a row that is not matched stops the run within its sequence
row_stop : (row : Row) (n : ℕ) (bs : List ℕ) → matches row bs ≡ false → Stopped (suc n) (begun (row ∷ []) bs) (length bs) (run (came_to (row ∷ []) n) bs)
row_stop [] n bs e = never (sym e)
row_stop (r ∷ row) n [] e = record { taken = omega arith; ill = refl }
row_stop (r ∷ row) n (b ∷ bs) e = by (holds r b) e (row_stop row (suc n) bs)
  where
    by : (t : Bool) → (t && matches row bs) ≡ false → (matches row bs ≡ false → Stopped (suc (suc n)) (begun (row ∷ []) bs) (length bs) (run (came_to (row ∷ []) (suc n)) bs)) → Stopped (suc n) (begun_after bs (cond t (row ∷ []) [])) (suc (length bs)) (run (came_to (cond t (row ∷ []) []) (suc n)) bs)
    by true m later = let s = later m in record { taken = omega (arith, s.taken); ill = s.ill ∙ grind (arith, nat_tests) }
    by false m later = ill_stop (suc n) (length bs) bs

-- from the start of a sequence that is not well formed, and of one that is
lead_stop : (b : ℕ) (bs : List ℕ) → sequence (b ∷ bs) ≡ 0 → Stopped 0 (begun table (b ∷ bs)) (suc (length bs)) (run between (b ∷ bs))
lead_stop b bs z =
    elim (lead_row b) [
      | inl e ↦ subst (λ rows. Stopped 0 (begun_after bs rows) (suc (length bs)) (run (came_to rows 0) bs)) (sym e) (ill_stop 0 (length bs) bs)
      | inr l ↦ subst (λ rows. Stopped 0 (begun_after bs rows) (suc (length bs)) (run (came_to rows 0) bs)) (sym l.1) (by l.0 (matches l.0 bs) refl (sym (sequence-grown b bs ∙ ap (λ rows. grown rows bs) l.1) ∙ z))
    ]
  where
    by : (row : Row) (t : Bool) → matches row bs ≡ t → cond t (suc (length row)) 0 ≡ 0 → Stopped 0 (suc (begun (row ∷ []) bs)) (suc (length bs)) (run (came_to (row ∷ []) 0) bs)
    by row true m h = absurd (omega arith)
    by row false m h = let s = row_stop row 0 bs m in record { taken = omega (arith, s.taken); ill = s.ill ∙ grind (arith, nat_tests) }

lead_run : (b n : ℕ) (bs : List ℕ) → sequence (b ∷ bs) ≡ suc n → run between (b ∷ bs) ≡ run between (drop n bs)
lead_run b n bs z =
    elim (lead_row b) [
      | inl e ↦ absurd (omega (arith, sequence-grown b bs ∙ ap (λ rows. grown rows bs) e))
      | inr l ↦ ap (λ rows. run (came_to rows 0) bs) l.1 ∙ by l.0 (matches l.0 bs) refl (sym (sequence-grown b bs ∙ ap (λ rows. grown rows bs) l.1) ∙ z)
    ]
  where
    by : (row : Row) (t : Bool) → matches row bs ≡ t → cond t (suc (length row)) 0 ≡ suc n → run (came_to (row ∷ []) 0) bs ≡ run between (drop n bs)
    by row true m h = let e : length row ≡ n = omega arith in row-run row 0 bs m ∙ ap (λ k. run between (drop k bs)) e
    by row false m h = absurd (omega arith)

begun_within : (rows : List Row) (bs : List ℕ) → begun rows bs ≤ length bs
begun_within rows [] = omega arith
begun_within rows (b ∷ bs) =
    let h = begun_within (left_after b rows) bs in
    elim (none_left (left_after b rows)) as (λ t. cond t 0 (suc (begun (left_after b rows) bs)) ≤ suc (length bs)) [ true ↦ omega arith | false ↦ omega arith ]

-- one sequence after another
abbrev Ends : List ℕ → Type 0
Ends bs = Stopped 0 (begun table (unsound bs)) (length (unsound bs)) (run between bs)

ends_below : (m : ℕ) (bs : List ℕ) → length bs ≤ m → Ends bs
unfolding sound_after
ends_below m [] h = record { taken = refl; ill = refl }
ends_below zero (b ∷ bs) h = absurd (omega arith)
ends_below (suc m) (b ∷ bs) h = by (sequence (b ∷ bs)) refl (λ n. ends_below m (drop n bs))
  where
    by : (k : ℕ) → sequence (b ∷ bs) ≡ k → ((n : ℕ) → length (drop n bs) ≤ m → Ends (drop n bs)) → Ends (b ∷ bs)
    by zero e rest =
        let u : unsound (b ∷ bs) ≡ b ∷ bs = ap (λ k. drop k (b ∷ bs)) (sound_none b bs e) in
        subst (λ xs. Stopped 0 (begun table xs) (length xs) (run between (b ∷ bs))) (sym u) (lead_stop b bs e)
    by (suc n) e rest =
        let u : unsound (b ∷ bs) ≡ unsound (drop n bs) = ap (λ k. drop k (b ∷ bs)) (sound-sequence (b ∷ bs) n e) ∙ sym (drop-drop (sound (drop n bs)) (suc n) (b ∷ bs)) in
        subst (λ xs. Stopped 0 (begun table xs) (length xs) (run between (b ∷ bs))) (sym u)
        (subst (Stopped 0 (begun table (unsound (drop n bs))) (length (unsound (drop n bs)))) (sym (lead_run b n bs e)) (rest n (omega (arith, length-drop n bs))))

pub stands : (bs : List ℕ) (p : Progress) → p ≡ run between bs → Stands bs p
stands bs p q =
    let s = subst (Stopped 0 (begun table (unsound bs)) (length (unsound bs))) (sym q) (ends_below (length bs) bs (omega arith)) in
    let l = length-drop (sound bs) bs in
    let w = (front bs).within in
    let k = begun_within table (unsound bs) in
    let i = s.ill in
    record {
      taken = s.taken ∙ omega arith;
      ill = s.ill;
      whole = λ h. grind (arith, nat_tests);
      well = λ e. (omega (arith, s.taken), grind (arith, nat_tests));
    }

pub runs_by_table : RunsByTable
runs_by_table bs = stands bs (run between bs) refl
