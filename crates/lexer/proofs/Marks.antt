-- The marks of a block comment, counted, tell how many comments are open.
use Rattle.std.proofs.Common.{◌≡◌, ℕ, zero, suc, ◌+◌, ◌<◌, true, false, List, [], ◌∷◌, length, take, sym, refl, ap, ◌∙◌, inl, inr, arith}
use Rattle.lexer.proofs.Extents.{shut}
use Rattle.lexer.specs.Comment.{closes, comment, comment_closed, comment_extent, opens}
use Rattle.lexer.specs.Extent.{Extent, further}
use Rattle.lexer.specs.TokenLaws.{closers, openers}
use Rattle.std.proofs.lemmas.Bool.{cases_Bool}
use borrow.Author.Tests.{clash}

-- what the first two bytes add to the counts
module _ (a b : ℕ) (xs : List ℕ) where
  pub opener_adds : opens a b ≡ true → (openers (a ∷ b ∷ xs) ≡ 1 + openers xs) × (closers (a ∷ b ∷ xs) ≡ closers xs)
  unfolding openers closers
  opener_adds o = (simp o, simp o)

  closer_adds : opens a b ≡ false → closes a b ≡ true → (openers (a ∷ b ∷ xs) ≡ openers xs) × (closers (a ∷ b ∷ xs) ≡ 1 + closers xs)
  unfolding openers closers
  closer_adds o c = (simp (o, c), simp (o, c))

  neither_adds : opens a b ≡ false → closes a b ≡ false → (openers (a ∷ b ∷ xs) ≡ openers (b ∷ xs)) × (closers (a ∷ b ∷ xs) ≡ closers (b ∷ xs))
  unfolding openers closers
  neither_adds o c = (simp (o, c), simp (o, c))

  -- and what they make of the comments that are open
  module _ (d : ℕ) where
    opener_deepens : opens a b ≡ true → comment_extent (suc d) (a ∷ b ∷ xs) ≡ further 2 (comment_extent (suc (suc d)) xs)
    unfolding comment_extent
    opener_deepens o = simp o

    closer_shuts : opens a b ≡ false → closes a b ≡ true → comment_extent (suc d) (a ∷ b ∷ xs) ≡ further 2 (comment_extent d xs)
    unfolding comment_extent
    closer_shuts o c = simp (o, c)

    neither_moves : opens a b ≡ false → closes a b ≡ false → comment_extent (suc d) (a ∷ b ∷ xs) ≡ further 1 (comment_extent (suc d) (b ∷ xs))
    unfolding comment_extent
    neither_moves o c = simp (o, c)

-- what an equation of extents says of their lengths
long : {d : Extent} (e : Extent) → d ≡ further 2 e → d.len ≡ suc (suc e.len)
long e s = ap (λ (x : Extent). x.len) s ∙ omega arith

longer : {d : Extent} (e : Extent) → d ≡ further 1 e → d.len ≡ suc e.len
longer e s = ap (λ (x : Extent). x.len) s ∙ omega arith

-- of less than two bytes, no mark
few_marks : (n d : ℕ) (xs : List ℕ) → length (take n xs) < 2 → closers (take n xs) < suc d + openers (take n xs)
unfolding openers closers
few_marks zero d xs h = omega arith
few_marks (suc n) d [] h = omega arith
few_marks (suc zero) d (a ∷ xs) h = omega arith
few_marks (suc (suc n)) d (a ∷ []) h = omega arith
few_marks (suc (suc n)) d (a ∷ b ∷ xs) h = absurd (omega arith)

none_open : (xs : List ℕ) (n : ℕ) → (comment_closed 0 xs ≡ true → n < comment 0 xs) → ⊥
unfolding comment_extent
none_open xs n h = let z = h refl in omega arith

-- before the outermost of so many open comments is closed, each front closes fewer than were open and it opens
pub fewer_closers : (d : ℕ) (xs : List ℕ) (n : ℕ) → (comment_closed d xs ≡ true → n < comment d xs) → closers (take n xs) < d + openers (take n xs)
fewer_closers zero xs n h = absurd (none_open xs n h)
fewer_closers (suc d) xs zero h = few_marks 0 d xs (omega arith)
fewer_closers (suc d) [] (suc n) h = few_marks (suc n) d [] (omega arith)
fewer_closers (suc d) (a ∷ []) (suc zero) h = few_marks 1 d (a ∷ []) (omega arith)
fewer_closers (suc d) (a ∷ []) (suc (suc n)) h = few_marks (suc (suc n)) d (a ∷ []) (omega arith)
fewer_closers (suc d) (a ∷ b ∷ xs) (suc zero) h = few_marks 1 d (a ∷ b ∷ xs) (omega arith)
fewer_closers (suc d) (a ∷ b ∷ xs) (suc (suc n)) h =
    let front = take n xs in
    elim (cases_Bool (opens a b)) [
      | inl o ↦
          let adds = opener_adds a b front o in
          let moves = opener_deepens a b xs d o in
          let more = fewer_closers (suc (suc d)) xs n (λ k. let m = h (shut moves ∙ k) in omega (arith, long _ moves)) in
          omega arith
      | inr o ↦
          elim (cases_Bool (closes a b)) [
            | inl c ↦
                let adds = closer_adds a b front o c in
                let moves = closer_shuts a b xs d o c in
                let more = fewer_closers d xs n (λ k. let m = h (shut moves ∙ k) in omega (arith, long _ moves)) in
                omega arith
            | inr c ↦
                let adds = neither_adds a b front o c in
                let moves = neither_moves a b xs d o c in
                let more = fewer_closers (suc d) (b ∷ xs) (suc n) (λ k. let m = h (shut moves ∙ k) in omega (arith, longer _ moves)) in
                omega arith
          ]
    ]

-- an open comment that is closed has a byte or more
some_left : (d b : ℕ) (xs : List ℕ) → 0 < comment (suc d) (b ∷ xs)
unfolding comment_extent
some_left d b [] = omega arith
some_left d b (c ∷ xs) = grind arith

nothing : (xs : List ℕ) → closers (take (comment 0 xs) xs) ≡ 0 + openers (take (comment 0 xs) xs)
unfolding comment_extent openers closers
nothing xs = refl

short_open : (d : ℕ) → comment_closed (suc d) [] ≡ false
unfolding comment_extent
short_open d = refl

byte_open : (d a : ℕ) → comment_closed (suc d) (a ∷ []) ≡ false
unfolding comment_extent
byte_open d a = refl

-- a byte that begins no mark counts for nothing
unmarked_closed : (d a b : ℕ) (xs : List ℕ) → opens a b ≡ false → closes a b ≡ false
    → closers (take (comment (suc d) (b ∷ xs)) (b ∷ xs)) ≡ suc d + openers (take (comment (suc d) (b ∷ xs)) (b ∷ xs))
    → (n : ℕ) → comment (suc d) (b ∷ xs) ≡ n
    → closers (take (comment (suc d) (a ∷ b ∷ xs)) (a ∷ b ∷ xs)) ≡ suc d + openers (take (comment (suc d) (a ∷ b ∷ xs)) (a ∷ b ∷ xs))
unmarked_closed d a b xs o c more zero e = let some = some_left d b xs in absurd (omega arith)
unmarked_closed d a b xs o c more (suc n) e =
    let bytes = a ∷ b ∷ xs in
    let moves = neither_moves a b xs d o c in
    let adds = neither_adds a b (take n xs) o c in
    let front : take (comment (suc d) bytes) bytes ≡ a ∷ b ∷ take n xs = ap (λ m. take m bytes) (longer _ moves ∙ ap suc e) in
    let back : take (comment (suc d) (b ∷ xs)) (b ∷ xs) ≡ b ∷ take n xs = ap (λ m. take m (b ∷ xs)) e in
    omega (arith, ap closers front, ap openers front, ap closers back, ap openers back)

-- where it is closed, as many are closed as were open and are opened
pub all_closed : (d : ℕ) (xs : List ℕ) → comment_closed d xs ≡ true → closers (take (comment d xs) xs) ≡ d + openers (take (comment d xs) xs)
all_closed zero xs k = nothing xs
all_closed (suc d) [] k = absurd (clash (sym (short_open d) ∙ k))
all_closed (suc d) (a ∷ []) k = absurd (clash (sym (byte_open d a) ∙ k))
all_closed (suc d) (a ∷ b ∷ xs) k =
    let bytes = a ∷ b ∷ xs in
    elim (cases_Bool (opens a b)) [
      | inl o ↦
          let moves = opener_deepens a b xs d o in
          let n = comment (suc (suc d)) xs in
          let adds = opener_adds a b (take n xs) o in
          let front : take (comment (suc d) bytes) bytes ≡ a ∷ b ∷ take n xs = ap (λ m. take m bytes) (long _ moves) in
          let more = all_closed (suc (suc d)) xs (sym (shut moves) ∙ k) in
          omega (arith, ap closers front, ap openers front)
      | inr o ↦
          elim (cases_Bool (closes a b)) [
            | inl c ↦
                let moves = closer_shuts a b xs d o c in
                let n = comment d xs in
                let adds = closer_adds a b (take n xs) o c in
                let front : take (comment (suc d) bytes) bytes ≡ a ∷ b ∷ take n xs = ap (λ m. take m bytes) (long _ moves) in
                let more = all_closed d xs (sym (shut moves) ∙ k) in
                omega (arith, ap closers front, ap openers front)
            | inr c ↦ unmarked_closed d a b xs o c (all_closed (suc d) (b ∷ xs) (sym (shut (neither_moves a b xs d o c)) ∙ k)) (comment (suc d) (b ∷ xs)) refl
          ]
    ]

none_unclosed : (xs : List ℕ) → comment_closed 0 xs ≡ true
unfolding comment_extent
none_unclosed xs = refl

-- where it is not closed, it is all there is
pub unclosed_whole : (d : ℕ) (xs : List ℕ) → comment_closed d xs ≡ false → comment d xs ≡ length xs
unfolding comment_extent
unclosed_whole zero xs k = absurd (clash (sym k ∙ none_unclosed xs))
unclosed_whole (suc d) [] k = refl
unclosed_whole (suc d) (a ∷ []) k = refl
unclosed_whole (suc d) (a ∷ b ∷ xs) k =
    elim (cases_Bool (opens a b)) [
      | inl o ↦ let more = unclosed_whole (suc (suc d)) xs (sym (shut (opener_deepens a b xs d o)) ∙ k) in long _ (opener_deepens a b xs d o) ∙ omega arith
      | inr o ↦
          elim (cases_Bool (closes a b)) [
            | inl c ↦ let more = unclosed_whole d xs (sym (shut (closer_shuts a b xs d o c)) ∙ k) in long _ (closer_shuts a b xs d o c) ∙ omega arith
            | inr c ↦ let more = unclosed_whole (suc d) (b ∷ xs) (sym (shut (neither_moves a b xs d o c)) ∙ k) in longer _ (neither_moves a b xs d o c) ∙ omega arith
          ]
    ]
