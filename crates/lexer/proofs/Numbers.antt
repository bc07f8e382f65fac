-- How the parts of a number make its kind and its length.
use Rattle.std.proofs.Common.{◌≡◌, ◌⊎◌, ℕ, ◌+◌, ◌≤◌, Bool, true, false, not, ◌&&◌, eqb, List, [], ◌∷◌, length, drop, Some, None, sym, refl, ap, ◌∙◌, subst, inl, inr, arith}
use Rattle.lexer.specs.Class.{decimal, hexadecimal}
use Rattle.lexer.specs.Cursor.{Moved, Spot, digit_met, digits, identifier, next_len, peek, rest}
use Rattle.lexer.specs.Number.{after_digits, after_digits_len, base_of, based, based_len, decimal_len, empty_exponent, exponent, exponent_digits, exponent_mark, exponent_tail, fraction, fractional, fractional_len, has_point, in_base, in_base_len, number, number_len, numeric, numeric_len, sign}
use Rattle.lexer.specs.declared.token.Base.{Base}
use Rattle.lexer.specs.declared.token.Base.TheVariants.{Binary, Octal, Decimal, Hexadecimal}
use Rattle.lexer.specs.declared.token.LiteralKind.TheVariants.{Int}
use Rattle.lexer.specs.declared.token.LiteralKind.{LiteralKind}
use Rattle.lexer.proofs.Moves.{moved_by, moved_then, said_then}
use Rattle.lexer.proofs.Runs.{digits_within, identifier_within, then_within}
use Rattle.std.proofs.lemmas.Bool.Decides.{nat_tests}
use Rattle.std.proofs.lemmas.Grind.{common_steps}

-- a number in a base, from what was read: whether a digit was met, and where junk begins and ends
pub based_is : (base : Base) (digit : ℕ → Bool) (at : ℕ) (xs : List ℕ) (met : Bool) (p q : ℕ) → met ≡ digit_met digit xs
    → p ≡ at + digits digit xs → q ≡ p + identifier (drop (digits digit xs) xs)
    → Int base (not met && eqb q p) p ≡ based base digit at xs
unfolding based
based_is base digit at xs met p q m e f = grind (arith, nat_tests)

module _ (xs : List ℕ) (has : exponent_digits xs ≡ true) where
  pub tail_signed : sign (peek 0 xs) ≡ true → 1 + digits decimal (drop 1 xs) ≡ exponent_tail xs
  tail_signed s = grind arith

  pub tail_plain : sign (peek 0 xs) ≡ false → digits decimal xs ≡ exponent_tail xs
  tail_plain s = grind arith

module _ (xs : List ℕ) where
  pub no_exponent : exponent_mark (peek 0 xs) ≡ false → exponent xs ≡ 0
  unfolding exponent
  no_exponent e = simp e

  pub some_exponent : exponent_mark (peek 0 xs) ≡ true → exponent xs ≡ 1 + exponent_tail (drop 1 xs)
  unfolding exponent
  some_exponent e = simp e

  pub not_empty : (at : ℕ) → exponent_mark (peek 0 xs) ≡ false → empty_exponent at xs ≡ None
  unfolding empty_exponent
  not_empty at e = simp e

  pub not_empty_digits : (at : ℕ) → exponent_mark (peek 0 xs) ≡ true → exponent_digits (drop 1 xs) ≡ true
      → empty_exponent at xs ≡ None
  unfolding empty_exponent
  not_empty_digits at e d = simp (e, d)

  pub empty_digits : (at : ℕ) → exponent_mark (peek 0 xs) ≡ true → exponent_digits (drop 1 xs) ≡ false
      → empty_exponent at xs ≡ Some at
  unfolding empty_exponent
  empty_digits at e d = simp (e, d)

-- after the digits before the point, by what follows them
module _ (at : ℕ) (ys : List ℕ) where
  pub with_point : has_point ys ≡ true
      → (fractional (at + 1) (drop 1 ys) ≡ after_digits at ys) × (1 + fractional_len (drop 1 ys) ≡ after_digits_len ys)
  with_point p = (simp p, simp p)

  pub with_exponent : has_point ys ≡ false → exponent_mark (peek 0 ys) ≡ true
      → (numeric at ys ≡ after_digits at ys) × (numeric_len ys ≡ after_digits_len ys)
  with_exponent p e = (simp (p, e), simp (p, e))

  pub with_neither : has_point ys ≡ false → exponent_mark (peek 0 ys) ≡ false
      → (Int Decimal false at ≡ after_digits at ys) × (identifier ys ≡ after_digits_len ys)
  with_neither p e = (simp (p, e), simp (p, e))

abbrev prefixed : Base → Bool
prefixed Decimal = false
prefixed other = true

-- a prefix has a letter
pub prefix_letter : (first : ℕ) (xs : List ℕ) (base : Base) → base ≡ base_of first (peek 0 xs) → prefixed base ≡ true
    → next_len xs ≡ 1
prefix_letter first [] base e h = grind arith
prefix_letter first (x ∷ xs) base e h = refl

pub number_in : (first at : ℕ) (xs : List ℕ) (base : Base) → base ≡ base_of first (peek 0 xs)
    → (in_base base at xs ≡ number first at xs) × (in_base_len base xs ≡ number_len first xs)
unfolding number number_len
number_in first at xs base e = (ap (λ b. in_base b at xs) e, ap (λ b. in_base_len b xs) e)

-- a base has a letter, and its numbers have these digits after it
abbrev pub Lettered : (ℕ → Bool) → Base → Type 0
Lettered digit base =
    (prefixed base ≡ true)
    × ((at : ℕ) (xs : List ℕ) → based base digit (at + 1) (drop 1 xs) ≡ in_base base at xs)
    × ((xs : List ℕ) → 1 + based_len digit (drop 1 xs) ≡ in_base_len base xs)

pub decimal_lettered : {base : Base} → (base ≡ Binary) ⊎ (base ≡ Octal) → Lettered decimal base
decimal_lettered (inl is) = subst (Lettered decimal) (sym is) (refl, (λ _ _. refl), λ _. refl)
decimal_lettered (inr is) = subst (Lettered decimal) (sym is) (refl, (λ _ _. refl), λ _. refl)

pub hexadecimal_lettered : {base : Base} → base ≡ Hexadecimal → Lettered hexadecimal base
hexadecimal_lettered is = subst (Lettered hexadecimal) (sym is) (refl, (λ _ _. refl), λ _. refl)

-- a number of such a base, read after the letter
pub number_after_letter : (base : Base) (digit : ℕ → Bool) (first : ℕ) {b : ℕ} {c d e : Spot} {k : LiteralKind}
    → Lettered digit base → base ≡ base_of first b
    → b ≡ peek 0 (rest c) → Moved c d (next_len (rest c)) → k ≡ based base digit d.eaten (rest d)
    → Moved d e (based_len digit (rest d))
    → (k ≡ number first c.eaten (rest c)) × Moved c e (number_len first (rest c))
number_after_letter base digit first {c = c} lettered is byte letter kind moved =
    let xs = rest c in
    let that : base ≡ base_of first (peek 0 xs) = is ∙ ap (base_of first) byte in
    let whole = number_in first c.eaten xs base that in
    let one = moved_by (prefix_letter first xs base that lettered.0) letter in
    let said = said_then (based base digit) one kind ∙ lettered.1 c.eaten xs ∙ whole.0 in
    (said, moved_by (lettered.2 xs ∙ whole.1) (moved_then (based_len digit) one moved))

-- a number ends within the list
tail_within : (xs : List ℕ) → exponent_tail xs ≤ length xs
tail_within xs = grind (arith, common_steps, digits_within decimal xs, digits_within decimal (drop 1 xs))

exponent_within : (xs : List ℕ) → exponent xs ≤ length xs
unfolding exponent
exponent_within xs = grind (arith, common_steps, nat_tests, tail_within (drop 1 xs))

numeric_within : (xs : List ℕ) → numeric_len xs ≤ length xs
unfolding numeric_len
numeric_within xs = then_within identifier identifier_within (exponent xs) xs (exponent_within xs)

pub fractional_within : (xs : List ℕ) → fractional_len xs ≤ length xs
unfolding fractional_len
fractional_within xs =
    let digit = digits_within decimal xs in then_within numeric_len numeric_within (fraction xs) xs (grind arith)

after_digits_within : (xs : List ℕ) → after_digits_len xs ≤ length xs
after_digits_within xs =
    grind (arith, common_steps, nat_tests, fractional_within (drop 1 xs), numeric_within xs, identifier_within xs)

decimal_within : (xs : List ℕ) → decimal_len xs ≤ length xs
unfolding decimal_len
decimal_within xs = then_within after_digits_len after_digits_within (digits decimal xs) xs (digits_within decimal xs)

based_within : (digit : ℕ → Bool) (xs : List ℕ) → based_len digit xs ≤ length xs
unfolding based_len
based_within digit xs = then_within identifier identifier_within (digits digit xs) xs (digits_within digit xs)

pub number_within : (first : ℕ) (xs : List ℕ) → number_len first xs ≤ length xs
unfolding number_len
number_within first xs =
    grind (
      arith,
      common_steps,
      nat_tests,
      based_within decimal (drop 1 xs),
      based_within hexadecimal (drop 1 xs),
      decimal_within xs,
    )
