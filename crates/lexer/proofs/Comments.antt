-- One turn of the comment loop, and how far a comment reaches.
use Rattle.std.proofs.Common.{◌≡◌, ℕ, zero, suc, ◌+◌, ◌-◌, ◌<◌, ◌≤◌, true, false, List, [], ◌∷◌, length, drop, Option, Some, None, refl, ap, ◌∙◌, arith}
use Rattle.std.specs.Prelude.{if◌then◌else◌}
use Rattle.lexer.proofs.Turns.{by_byte, turn_two}
use Rattle.lexer.specs.Comment.{closes, comment, comment_extent, opens}
use Rattle.lexer.specs.Extent.{Extent, further}
use Rattle.std.proofs.lemmas.List.{drop-drop}
use Rattle.std.proofs.lemmas.Bool.{cond_both}
use Rattle.std.proofs.lemmas.Option.{gets}
use Rattle.std.specs.List.{slice_get}

-- a comment by its first byte, the one after it, and what follows the first byte, a mark that opens and one that closes
abbrev by_two : ℕ → Option ℕ → Extent → Extent → Extent → Extent
by_two a next one deeper shut =
    by_byte next (further 1 one) (λ b. if opens a b then further 2 deeper else if closes a b then further 2 shut else further 1 one)

step : (d a : ℕ) (xs : List ℕ)
    → comment_extent (suc d) (a ∷ xs) ≡ by_two a (slice_get xs 0) (comment_extent (suc d) xs) (comment_extent (suc (suc d)) (drop 1 xs)) (comment_extent d (drop 1 xs))
unfolding comment_extent
step d a [] = refl
step d a (b ∷ xs) = refl

-- one turn in a comment that is open, by the byte at a place and the one after it
turn : (d : ℕ) (xs : List ℕ) (i : ℕ) → 0 < d → comment_extent d (drop i xs)
    ≡ by_byte (slice_get xs i) (record { len = 0; closed = false })
    (λ a. by_two a (slice_get xs (i + 1)) (comment_extent d (drop (i + 1) xs)) (comment_extent (d + 1) (drop (i + 2) xs)) (comment_extent (d - 1) (drop (i + 2) xs)))
unfolding comment_extent
turn zero xs i h = absurd (omega arith)
turn (suc d) xs i h =
    let beyond : drop 1 (drop (i + 1) xs) ≡ drop (i + 2) xs = drop-drop 1 (i + 1) xs ∙ ap (λ k. drop k xs) (omega arith) in
    let up : suc d + 1 ≡ suc (suc d) = omega arith in
    let down : suc d - 1 ≡ d = omega arith in
    turn_two (comment_extent (suc d)) (record { len = 0; closed = false })
    (λ a next ys. by_two a next (comment_extent (suc d) ys) (comment_extent (suc (suc d)) (drop 1 ys)) (comment_extent d (drop 1 ys)))
    refl (step d) xs i
    ∙ simp (beyond, up, down)

module _ (d : ℕ) (xs : List ℕ) (i : ℕ) (h : 0 < d) where
  pub comment_extent_here : (a : ℕ) → slice_get xs i ≡ Some a → comment_extent d (drop i xs)
      ≡ by_two a (slice_get xs (i + 1)) (comment_extent d (drop (i + 1) xs)) (comment_extent (d + 1) (drop (i + 2) xs)) (comment_extent (d - 1) (drop (i + 2) xs))
  comment_extent_here a at = turn d xs i h ∙ simp at

  pub comment_extent_past : slice_get xs i ≡ None → comment_extent d (drop i xs) ≡ record { len = 0; closed = false }
  comment_extent_past at = turn d xs i h ∙ simp at

  pub comment_extent_opens : slice_get xs i ≡ Some 47 → slice_get xs (i + 1) ≡ Some 42 → comment_extent d (drop i xs) ≡ further 2 (comment_extent (d + 1) (drop (i + 2) xs))
  comment_extent_opens at next = comment_extent_here 47 at ∙ simp next

  pub comment_extent_closes : slice_get xs i ≡ Some 42 → slice_get xs (i + 1) ≡ Some 47 → comment_extent d (drop i xs) ≡ further 2 (comment_extent (d - 1) (drop (i + 2) xs))
  comment_extent_closes at next = comment_extent_here 42 at ∙ simp next

pub comment_extent_none : (xs : List ℕ) → comment_extent 0 xs ≡ record { len = 0; closed = true }
unfolding comment_extent
comment_extent_none xs = refl

pub ruleset comment_turns = (comment_extent_opens, comment_extent_closes, comment_extent_past, comment_extent_none, gets)

-- a comment ends within the list
pub comment_within : (d : ℕ) (xs : List ℕ) → comment d xs ≤ length xs
unfolding comment_extent
comment_within zero xs = omega arith
comment_within (suc d) [] = omega arith
comment_within (suc d) (a ∷ []) = omega arith
comment_within (suc d) (a ∷ b ∷ xs) =
    let deeper = comment_within (suc (suc d)) xs in
    let shut = comment_within d xs in
    let more = comment_within (suc d) (b ∷ xs) in
    cond_both {A = Extent} (opens a b) _ _ (λ n. n.len ≤ length (a ∷ b ∷ xs)) (λ _. omega arith) (λ _. cond_both {A = Extent} (closes a b) _ _ (λ n. n.len ≤ length (a ∷ b ∷ xs)) (λ _. omega arith) (λ _. omega arith))
