-- Digits, the letters of numbers and the bytes that start no name: what the tests on numbers say of them.
use Rattle.std.proofs.Common.{◌≡◌, ℕ, ◌+◌, ◌-◌, ◌≤◌, true, false, eqb, sym, ap, ◌∙◌, inl, inr, arith, eqb-true}
use Rattle.lexer.specs.Class.{decimal, hexadecimal, ident_start}
use Rattle.lexer.specs.Number.{base_of, either_case, exponent_mark, sign}
use Rattle.lexer.specs.Start.{plain_start, start_of}
use Rattle.lexer.specs.declared.start.Start.TheVariants.{Digit, Point}
use Rattle.lexer.specs.declared.token.Base.TheVariants.{Binary, Octal, Decimal, Hexadecimal}
use Rattle.std.proofs.lemmas.Bool.{cases_Bool}
use Rattle.std.proofs.lemmas.Bool.Decides.{nat_tests}
use borrow.Author.Tests.{clash}

-- bytes that are no letter of a prefix
abbrev pub Unlettered : ℕ → Type 0
Unlettered b = (either_case 98 b ≡ false) × (either_case 111 b ≡ false) × (either_case 120 b ≡ false)

-- what the first byte after digits is not
pub record Past (b : ℕ) : Type 0 where
  pub no_digit : decimal b ≡ false
  pub no_underscore : eqb b 95 ≡ false
  pub unlettered : Unlettered b

module _ (b : ℕ) (d : decimal b ≡ true) where
  pub digit_unsigned : sign b ≡ false
  digit_unsigned = grind (arith, nat_tests)

  pub digit_no_point : eqb b 46 ≡ false
  digit_no_point = grind (arith, nat_tests)

  pub digit_no_mark : eqb b 239 ≡ false
  digit_no_mark = grind (arith, nat_tests)

  pub digit_unlettered : Unlettered b
  digit_unlettered = grind (arith, nat_tests)

  pub digit_start : (next after : ℕ) → start_of b next after ≡ Digit
  unfolding plain_start
  digit_start next after = grind (arith, nat_tests)

  pub point_start : (after : ℕ) → start_of 46 b after ≡ Point
  point_start after = grind (arith, nat_tests)

pub underscore_unlettered : (b : ℕ) → eqb b 95 ≡ true → Unlettered b
underscore_unlettered b u = grind (arith, nat_tests)

-- a byte that starts no name
module _ (b : ℕ) (i : ident_start b ≡ false) where
  pub other : (l : ℕ) → ident_start l ≡ true → eqb b l ≡ false
  other l s =
      elim (cases_Bool (eqb b l)) [
        | inl e ↦ absurd (clash (sym i ∙ ap ident_start (eqb-true b l e) ∙ s))
        | inr e ↦ e
      ]

  pub no_letter : (l : ℕ) → 32 ≤ l → ident_start l ≡ true → ident_start (l - 32) ≡ true → either_case l b ≡ false
  no_letter l h s u =
      elim (cases_Bool (eqb (b + 32) l)) [
        | inl e ↦
            let up = eqb-true (b + 32) l e in
            let is : b ≡ l - 32 = omega arith in
            absurd (clash (sym i ∙ ap ident_start is ∙ u))
        | inr e ↦ simp (other l s, e)
      ]

  pub no_exponent_mark : exponent_mark b ≡ false
  no_exponent_mark = grind (arith, nat_tests)

  module _ (d : decimal b ≡ false) where
    pub no_hexadecimal : hexadecimal b ≡ false
    no_hexadecimal = grind (arith, nat_tests)

    pub stop_past : Past b
    stop_past = grind (arith, nat_tests)

-- the letter of an exponent
module _ (b : ℕ) (m : exponent_mark b ≡ true) where
  pub mark_no_point : eqb b 46 ≡ false
  mark_no_point = grind (arith, nat_tests)

  pub mark_past : Past b
  mark_past = grind (arith, nat_tests)

-- the base of a number, by the byte after its first digit
pub binary_base : (b : ℕ) → either_case 98 b ≡ true → Binary ≡ base_of 48 b
binary_base b l = grind (arith, nat_tests)

pub octal_base : (b : ℕ) → either_case 111 b ≡ true → Octal ≡ base_of 48 b
octal_base b l = grind (arith, nat_tests)

pub hexadecimal_base : (b : ℕ) → either_case 120 b ≡ true → Hexadecimal ≡ base_of 48 b
hexadecimal_base b l = grind (arith, nat_tests)

pub decimal_base : (x b : ℕ) → Unlettered b → base_of x b ≡ Decimal
decimal_base x b u = grind (arith, nat_tests)
