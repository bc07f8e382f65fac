-- One turn of the loop over a quoted body, and how far a body reaches.
use Rattle.std.proofs.Common.{◌≡◌, ℕ, ◌+◌, ◌<◌, ◌≤◌, nat_eq, Bool, true, false, ◌&&◌, ◌==◌, List, [], ◌∷◌, length, drop, Option, Some, None, refl, ◌∙◌, arith}
use Rattle.std.specs.Prelude.{if◌then◌else◌}
use Rattle.lexer.proofs.Turns.{by_byte, turn_two}
use Rattle.lexer.specs.Class.{backslash}
use Rattle.lexer.specs.Extent.{Extent, further}
use Rattle.lexer.specs.Quoted.{quoted_extent, quoted}
use Rattle.std.proofs.lemmas.List.{drop-drop}
use Rattle.std.proofs.lemmas.Option.{gets}
use Rattle.std.specs.List.{slice_get}
use Rattle.std.specs.Option.{option_eq}

-- the last byte closes the body if it is the quote
last : (b : Bool) → ◌≡◌ {A = Extent} (record { len = 1; closed = b }) (if b then record { len = 1; closed = true } else record { len = 1; closed = false })
last true = refl
last false = refl

module _ (q : ℕ) (e : Bool) where
  pub quoted_within : (xs : List ℕ) → quoted q e xs ≤ length xs
  unfolding quoted_extent
  quoted_within [] = omega arith
  quoted_within (x ∷ []) = omega arith
  quoted_within (x ∷ y ∷ xs) =
      let two = quoted_within xs in
      let one = quoted_within (y ∷ xs) in
      grind arith

  -- a body by its first byte, the one after it, and what follows the first and the second
  abbrev by_two : ℕ → Option ℕ → Extent → Extent → Extent
  by_two x next one two =
      by_byte next (if x == q then record { len = 1; closed = true } else further 1 one)
      (λ y. if x == q && y == q then further 2 two
      else if x == q then record { len = 1; closed = true }
      else if e && backslash x then further 2 two
      else further 1 one)

  step : (x : ℕ) (xs : List ℕ) → quoted_extent q e (x ∷ xs) ≡ by_two x (slice_get xs 0) (quoted_extent q e xs) (quoted_extent q e (drop 1 xs))
  unfolding quoted_extent
  step x [] = last (x == q)
  step x (y ∷ xs) = refl

  module _ (xs : List ℕ) (i : ℕ) where
    turn : quoted_extent q e (drop i xs)
        ≡ by_byte (slice_get xs i) (record { len = 0; closed = false })
        (λ x. by_two x (slice_get xs (i + 1)) (quoted_extent q e (drop (i + 1) xs)) (quoted_extent q e (drop (i + 1 + 1) xs)))
    unfolding quoted_extent
    turn =
        turn_two (quoted_extent q e) (record { len = 0; closed = false }) (λ x next ys. by_two x next (quoted_extent q e ys) (quoted_extent q e (drop 1 ys))) refl step xs i
        ∙ simp (drop-drop 1 (i + 1) xs)

    pub quoted_extent_here : (x : ℕ) → slice_get xs i ≡ Some x → quoted_extent q e (drop i xs) ≡ by_two x (slice_get xs (i + 1)) (quoted_extent q e (drop (i + 1) xs)) (quoted_extent q e (drop (i + 1 + 1) xs))
    quoted_extent_here x at = turn ∙ simp at

    pub quoted_extent_past : slice_get xs i ≡ None → quoted_extent q e (drop i xs) ≡ record { len = 0; closed = false }
    quoted_extent_past at = turn ∙ simp at

    pub quote_closes : slice_get xs i ≡ Some q → option_eq nat_eq (slice_get xs (i + 1)) (Some q) ≡ false → quoted_extent q e (drop i xs) ≡ record { len = 1; closed = true }
    quote_closes at next = quoted_extent_here q at ∙ grind arith

    pub quote_doubled : slice_get xs i ≡ Some q → option_eq nat_eq (slice_get xs (i + 1)) (Some q) ≡ true → quoted_extent q e (drop i xs) ≡ further 2 (quoted_extent q e (drop (i + 1 + 1) xs))
    quote_doubled at next = quoted_extent_here q at ∙ grind arith

    pub backslash_takes : e ≡ true → slice_get xs i ≡ Some 92 → (92 ≡ q → ⊥) → i + 1 < length xs → quoted_extent q e (drop i xs) ≡ further 2 (quoted_extent q e (drop (i + 1 + 1) xs))
    backslash_takes escapes at other more = quoted_extent_here 92 at ∙ grind (arith, gets)

pub ruleset quote_turns = (quoted_extent_past, quote_closes, quote_doubled, backslash_takes, gets)
