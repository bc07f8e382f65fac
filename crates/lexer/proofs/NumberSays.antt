-- What a constant's kind says of its bytes: a number is of one of the forms, and ends with its junk.
use Rattle.std.proofs.Common.{◌≡◌, ℕ, ◌+◌, ◌≤◌, Bool, true, false, not, ◌&&◌, eqb, List, [], ◌∷◌, ◌++◌, length, take, drop, None, sym, refl, ap, ◌∙◌, subst, inl, inr, arith, eqb-true}
use Rattle.lexer.proofs.Forms.{based_read, exponent_or_none, exponent_read, group_front, group_read}
use Rattle.lexer.proofs.Runs.{digits_within}
use Rattle.lexer.specs.Class.{decimal, hexadecimal}
use Rattle.lexer.specs.Cursor.{digit_met, digits, identifier, peek}
use Rattle.lexer.specs.Number.{after_digits, after_digits_len, base_of, based, based_len, decimal_len, decimal_number, either_case, empty_exponent, exponent, exponent_mark, fractional, fractional_len, has_point, in_base, in_base_len, number, number_len, numeric, numeric_len}
use Rattle.lexer.specs.TokenLaws.Fractional.{no_point, point_first, point_last, point_within}
use Rattle.lexer.specs.TokenLaws.{Based, ExponentOrNone, Fractional, Whole, grouped}
use Rattle.lexer.specs.declared.token.Base.TheVariants.{Binary, Octal, Decimal, Hexadecimal}
use Rattle.lexer.specs.declared.token.Base.{Base}
use Rattle.lexer.specs.declared.token.LiteralKind.TheVariants.{Int, Numeric}
use Rattle.lexer.specs.declared.token.LiteralKind.{LiteralKind}
use Rattle.std.proofs.Math.Seq.{drop-append-add, take-append-add}
use Rattle.std.proofs.lemmas.List.{append_assoc, append-nil, length-append, length-take-le, take-append-drop}
use Rattle.std.proofs.lemmas.Bool.Decides.{nat_tests}
use Rattle.std.proofs.lemmas.Bool.{and_parts, cases_Bool}
use borrow.Author.Tests.{clash}

-- of a constant of `n` bytes at the front of `xs`, where `j` is the offset of its junk
abbrev pub LiteralSays : LiteralKind → List ℕ → ℕ → Type 0
LiteralSays (Int base empty j) xs n =
    (n ≡ j + identifier (drop j xs)) × (empty ≡ false → identifier (drop j xs) ≡ 0 → Whole base (take j xs))
LiteralSays (Numeric empty j) xs n = (n ≡ j + identifier (drop j xs)) × (empty ≡ None → Fractional (take j xs))
LiteralSays other xs n = Unit {0}

-- a place past the first of two lists
take_past : (pre xs : List ℕ) (m n : ℕ) → n ≡ length pre + m → take n (pre ++ xs) ≡ pre ++ take m xs
take_past pre xs m n e = ap (λ k. take k (pre ++ xs)) e ∙ take-append-add pre xs m

drop_past : (pre xs : List ℕ) (m n : ℕ) → n ≡ length pre + m → drop n (pre ++ xs) ≡ drop m xs
drop_past pre xs m n e = ap (λ k. drop k (pre ++ xs)) e ∙ drop-append-add pre xs m

-- what was read of a number, and what follows it; `at` is the length of the first
module _ (pre xs : List ℕ) (at : ℕ) (e : at ≡ length pre) where
  -- an exponent or none, and junk
  numeric_says : (empty_exponent at xs ≡ None → Fractional (pre ++ take (exponent xs) xs))
      → LiteralSays (numeric at xs) (pre ++ xs) (at + numeric_len xs)
  unfolding numeric numeric_len
  numeric_says form =
      let n = at + exponent xs in
      let junk = ap identifier (drop_past pre xs (exponent xs) n (omega arith)) in
      (omega arith, λ none. subst Fractional (sym (take_past pre xs (exponent xs) n (omega arith))) (form none))

  -- digits and no more
  int_says : Whole Decimal pre → LiteralSays (Int Decimal false at) (pre ++ xs) (at + identifier xs)
  int_says form =
      let junk = ap identifier (drop_past pre xs 0 at (omega arith)) in
      let front : take at (pre ++ xs) ≡ pre = take_past pre xs 0 at (omega arith) ∙ append-nil pre in
      (omega arith, λ _ _. subst (Whole Decimal) (sym front) form)

-- a list, cut in two at a place
rejoin : (pre xs : List ℕ) (n : ℕ) → (pre ++ take n xs) ++ drop n xs ≡ pre ++ xs
rejoin pre xs n = append_assoc pre (take n xs) (drop n xs) ∙ ap (λ l. pre ++ l) (take-append-drop n xs)

-- after the point, which is the last byte that was read
module _ (pre xs : List ℕ) (at : ℕ) (e : at ≡ length pre) where
  fraction_says : (n : ℕ) → n ≤ length xs → ((es : List ℕ) → ExponentOrNone es → Fractional (pre ++ (take n xs ++ es)))
      → LiteralSays (numeric (at + n) (drop n xs)) (pre ++ xs) (at + (n + numeric_len (drop n xs)))
  fraction_says n h form =
      let fs = take n xs in
      let ys = drop n xs in
      let es = take (exponent ys) ys in
      let size = length-take-le n xs h in
      let whole = length-append pre fs in
      let len : at + n + numeric_len ys ≡ at + (n + numeric_len ys) = omega arith in
      let says =
      numeric_says (pre ++ fs) ys (at + n) (omega arith)
      (λ k. subst Fractional (sym (append_assoc pre fs es)) (form es (exponent_or_none (at + n) ys k))) in
      subst (LiteralSays (numeric (at + n) ys) (pre ++ xs)) len
      (subst (λ l. LiteralSays (numeric (at + n) ys) l (at + n + numeric_len ys)) (rejoin pre xs n) says)

  fractional_says : (decimal (peek 0 xs) ≡ false → (es : List ℕ) → ExponentOrNone es → Fractional (pre ++ es))
      → ((fs es : List ℕ) → grouped decimal fs ≡ true → ExponentOrNone es → Fractional (pre ++ (fs ++ es)))
      → LiteralSays (fractional at xs) (pre ++ xs) (at + fractional_len xs)
  unfolding fractional fractional_len
  fractional_says bare full =
      elim (cases_Bool (decimal (peek 0 xs))) [
        | inl d ↦
            let n = digits decimal xs in
            simp d (fraction_says n (digits_within decimal xs) (λ es. full (take n xs) es (group_front xs d)))
        | inr d ↦ simp d (fraction_says 0 (omega arith) (bare d))
      ]

-- after the digits before the point
module _ (pre : List ℕ) (at : ℕ) (e : at ≡ length pre) (form : grouped decimal pre ≡ true) where
  point_says : (xs : List ℕ) → LiteralSays (fractional (at + 1) xs) (pre ++ 46 ∷ xs) (at + (1 + fractional_len xs))
  point_says xs =
      let point : List ℕ = 46 ∷ [] in
      let whole = length-append pre point in
      let len : at + 1 + fractional_len xs ≡ at + (1 + fractional_len xs) = omega arith in
      let says =
      fractional_says (pre ++ point) xs (at + 1) (omega arith)
      (λ _ es x. subst Fractional (sym (append_assoc pre point es)) (point_last pre es form x))
      (λ fs es g x. subst Fractional (sym (append_assoc pre point (fs ++ es))) (point_within pre fs es form g x)) in
      subst (LiteralSays (fractional (at + 1) xs) (pre ++ 46 ∷ xs)) len
      (subst (λ l. LiteralSays (fractional (at + 1) xs) l (at + 1 + fractional_len xs))
      (append_assoc pre point xs) says)

  has_point_says : (xs : List ℕ) → has_point xs ≡ true
      → LiteralSays (fractional (at + 1) (drop 1 xs)) (pre ++ xs) (at + (1 + fractional_len (drop 1 xs)))
  has_point_says [] p = absurd (clash p)
  has_point_says (x ∷ xs) p =
      let point = eqb-true x 46 (and_parts (eqb x 46) (not (eqb (peek 0 xs) 46)) p).0 in
      let len = at + (1 + fractional_len xs) in
      subst (λ b. LiteralSays (fractional (at + 1) xs) (pre ++ b ∷ xs) len) (sym point) (point_says xs)

  after_digits_says : (xs : List ℕ) → LiteralSays (after_digits at xs) (pre ++ xs) (at + after_digits_len xs)
  after_digits_says xs =
      elim (cases_Bool (has_point xs)) [
        | inl p ↦ simp p (has_point_says xs p)
        | inr p ↦
            elim (cases_Bool (exponent_mark (peek 0 xs))) [
              | inl m ↦
                  simp (p, m) (numeric_says pre xs at e
                  (λ k. no_point pre (take (exponent xs) xs) form (exponent_read at xs m k)))
              | inr m ↦ simp (p, m) (int_says pre xs at e form)
            ]
      ]

decimal_says : (first : ℕ) (xs : List ℕ) → decimal first ≡ true
    → LiteralSays (decimal_number 1 xs) (first ∷ xs) (1 + decimal_len xs)
unfolding decimal_number decimal_len
decimal_says first xs d =
    let n = digits decimal xs in
    let ys = drop n xs in
    let size = length-take-le n xs (digits_within decimal xs) in
    let len : 1 + n + after_digits_len ys ≡ 1 + (n + after_digits_len ys) = omega arith in
    let says = after_digits_says (first ∷ take n xs) (1 + n) (omega arith) (group_read decimal first xs d) ys in
    subst (LiteralSays (after_digits (1 + n) ys) (first ∷ xs)) len
    (subst (λ l. LiteralSays (after_digits (1 + n) ys) (first ∷ l) (1 + n + after_digits_len ys))
    (take-append-drop n xs) says)

-- not empty, and without junk: a digit was met
was_met : (met : Bool) (n : ℕ) → (not met && eqb n 0) ≡ false → n ≡ 0 → met ≡ true
was_met met n e z = grind (arith, nat_tests)

based_says : (base : Base) (letter : ℕ) (digit : ℕ → Bool) (first : ℕ) (xs : List ℕ) → either_case letter 0 ≡ false
    → ((l : List ℕ) → Based letter digit l → Whole base l) → (first ≡ 48) × (either_case letter (peek 0 xs) ≡ true)
    → LiteralSays (based base digit 2 (drop 1 xs)) (first ∷ xs) (1 + (1 + based_len digit (drop 1 xs)))
unfolding based based_len
based_says base letter digit first [] none whole named = absurd (clash (sym none ∙ named.1))
based_says base letter digit first (mark ∷ xs) none whole named =
    let n = digits digit xs in
    let pre = first ∷ mark ∷ [] in
    let junk = ap identifier (drop_past pre xs n (2 + n) (omega arith)) in
    let front = take_past pre xs n (2 + n) (omega arith) ∙ ap (λ b. b ∷ mark ∷ take n xs) named.0 in (
      omega arith,
      λ some bare.
          let met = was_met (digit_met digit xs) (identifier (drop n xs)) some (sym junk ∙ bare) in
          subst (Whole base) (sym front) (whole (48 ∷ mark ∷ take n xs) (based_read digit letter mark xs named.1 met)),
    )

-- what names a base: a `0`, and its letter
abbrev IsNamed : Base → ℕ → ℕ → Type 0
IsNamed Binary first next = (first ≡ 48) × (either_case 98 next ≡ true)
IsNamed Octal first next = (first ≡ 48) × (either_case 111 next ≡ true)
IsNamed Decimal first next = Unit {0}
IsNamed Hexadecimal first next = (first ≡ 48) × (either_case 120 next ≡ true)

base_named : (first next : ℕ) → IsNamed (base_of first next) first next
base_named first next = grind (arith, nat_tests)

in_base_says : (base : Base) (first : ℕ) (xs : List ℕ) → decimal first ≡ true → IsNamed base first (peek 0 xs)
    → LiteralSays (in_base base 1 xs) (first ∷ xs) (1 + in_base_len base xs)
in_base_says Binary first xs d named = based_says Binary 98 decimal first xs refl (λ _ f. f) named
in_base_says Octal first xs d named = based_says Octal 111 decimal first xs refl (λ _ f. f) named
in_base_says Decimal first xs d named = decimal_says first xs d
in_base_says Hexadecimal first xs d named = based_says Hexadecimal 120 hexadecimal first xs refl (λ _ f. f) named

pub number_says : (first : ℕ) → decimal first ≡ true → (xs : List ℕ)
    → LiteralSays (number first 1 xs) (first ∷ xs) (1 + number_len first xs)
unfolding number number_len
number_says first d xs = in_base_says (base_of first (peek 0 xs)) first xs d (base_named first (peek 0 xs))

pub point_first_says : (xs : List ℕ) → decimal (peek 0 xs) ≡ true
    → LiteralSays (fractional 1 xs) (46 ∷ xs) (1 + fractional_len xs)
point_first_says xs d =
    fractional_says (46 ∷ []) xs 1 refl (λ n. absurd (clash (sym n ∙ d))) (λ fs es g x. point_first fs es g x)
