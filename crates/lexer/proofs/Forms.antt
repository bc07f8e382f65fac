-- The digits and exponents that are read are of the forms of numbers.
use Rattle.std.proofs.Common.{◌≡◌, ℕ, suc, ◌+◌, Bool, true, false, ◌&&◌, ◌||◌, eqb, List, [], ◌∷◌, take, drop, None, sym, ap, ◌∙◌, subst, inl, inr, arith}
use Rattle.lexer.proofs.Numbers.{no_exponent, some_exponent, tail_plain, tail_signed}
use Rattle.lexer.specs.Class.{decimal}
use Rattle.lexer.specs.Cursor.{digit_met, digits, leads, peek}
use Rattle.lexer.specs.Number.{empty_exponent, exponent, exponent_digits, exponent_mark, exponent_tail, sign, either_case}
use Rattle.lexer.specs.TokenLaws.Based.{direct, underscored}
use Rattle.lexer.specs.TokenLaws.Exponent.{signed, unsigned}
use Rattle.lexer.specs.TokenLaws.{Based, Exponent, ExponentOrNone, grouped}
use Rattle.std.proofs.lemmas.Bool.Decides.{nat_tests}
use Rattle.std.proofs.lemmas.Bool.{and_parts, cases_Bool, or_left}
use Rattle.std.proofs.lemmas.Grind.{common_steps}
use borrow.Author.Tests.{clash}

-- digits as they are read: one more, or none
module _ (digit : ℕ → Bool) where
  pub digits_more : (x : ℕ) (xs : List ℕ) → (digit x || (eqb x 95 && leads digit xs)) ≡ true
      → digits digit (x ∷ xs) ≡ suc (digits digit xs)
  unfolding digits
  digits_more x xs e = grind arith

  pub digits_end : (x : ℕ) (xs : List ℕ) → (digit x || (eqb x 95 && leads digit xs)) ≡ false → digits digit (x ∷ xs) ≡ 0
  unfolding digits
  digits_end x xs e = grind arith

  pub digit_more : (x : ℕ) (xs : List ℕ) → digit x ≡ true → digits digit (x ∷ xs) ≡ suc (digits digit xs)
  digit_more x xs d = digits_more x xs (or_left (digit x) (eqb x 95 && leads digit xs) d)

  -- digits in groups: one, one before others, and one before an underscore and others
  one_digit : (x : ℕ) → digit x ≡ true → grouped digit (x ∷ []) ≡ true
  unfolding grouped
  one_digit x d = d

  next_digit : (x y : ℕ) (xs : List ℕ) → digit x ≡ true → grouped digit (y ∷ xs) ≡ true
      → grouped digit (x ∷ y ∷ xs) ≡ true
  unfolding grouped
  next_digit x y xs d g = grind arith

  next_group : (x y : ℕ) (xs : List ℕ) → digit x ≡ true → eqb y 95 ≡ true → grouped digit xs ≡ true
      → grouped digit (x ∷ y ∷ xs) ≡ true
  unfolding grouped
  next_group x y xs d u g = grind arith

  group_step : (x y z : ℕ) (zs : List ℕ) → digit x ≡ true
      → (digit y ≡ true → grouped digit (y ∷ take (digits digit (z ∷ zs)) (z ∷ zs)) ≡ true)
      → (digit z ≡ true → grouped digit (z ∷ take (digits digit zs) zs) ≡ true)
      → grouped digit (x ∷ take (digits digit (y ∷ z ∷ zs)) (y ∷ z ∷ zs)) ≡ true
  group_step x y z zs d one two =
      let front = take (digits digit (z ∷ zs)) (z ∷ zs) in
      let behind = z ∷ take (digits digit zs) zs in
      grind (
        arith,
        digits_more y (z ∷ zs),
        digits_end y (z ∷ zs),
        digits_more z zs,
        one_digit x d,
        next_digit x y front d,
        next_group x y behind d,
      )

  -- a digit and the digits after it
  pub group_read : (x : ℕ) (xs : List ℕ) → digit x ≡ true → grouped digit (x ∷ take (digits digit xs) xs) ≡ true
  unfolding digits grouped
  group_read x [] d = d
  group_read x (y ∷ []) d = let more = group_read y [] in grind arith
  group_read x (y ∷ z ∷ zs) d = group_step x y z zs d (group_read y (z ∷ zs)) (group_read z zs)

  -- a digit or an underscore before one is met
  met_first : (x : ℕ) (xs : List ℕ) → digit x ≡ false → digit_met digit (x ∷ xs) ≡ true
      → (eqb x 95 && leads digit xs) ≡ true
  unfolding digit_met
  met_first x xs d m = grind arith

  none_met : digit_met digit [] ≡ true → ⊥
  unfolding digit_met
  none_met m = clash m

  underscored_front : (x z : ℕ) (zs : List ℕ) → (eqb x 95 && digit z) ≡ true
      → take (digits digit (x ∷ z ∷ zs)) (x ∷ z ∷ zs) ≡ 95 ∷ z ∷ take (digits digit zs) zs
  underscored_front x z zs u = grind (arith, nat_tests, digits_more x (z ∷ zs), digits_more z zs)

  underscored_read : (letter mark x : ℕ) (xs : List ℕ) → either_case letter mark ≡ true
      → (eqb x 95 && leads digit xs) ≡ true → Based letter digit (48 ∷ mark ∷ take (digits digit (x ∷ xs)) (x ∷ xs))
  underscored_read letter mark x [] l u = absurd (clash (and_parts (eqb x 95) false u).1)
  underscored_read letter mark x (z ∷ zs) l u =
      let group = group_read z zs (and_parts (eqb x 95) (digit z) u).1 in
      subst (λ ds. Based letter digit (48 ∷ mark ∷ ds)) (sym (underscored_front x z zs u))
      (underscored mark (z ∷ take (digits digit zs) zs) l group)

  pub based_read : (letter mark : ℕ) (xs : List ℕ) → either_case letter mark ≡ true → digit_met digit xs ≡ true
      → Based letter digit (48 ∷ mark ∷ take (digits digit xs) xs)
  based_read letter mark [] l m = absurd (none_met m)
  based_read letter mark (x ∷ xs) l m =
      elim (cases_Bool (digit x)) [
        | inl d ↦
            subst (λ n. Based letter digit (48 ∷ mark ∷ take n (x ∷ xs))) (sym (digit_more x xs d))
            (direct mark (x ∷ take (digits digit xs) xs) l (group_read x xs d))
        | inr d ↦ underscored_read letter mark x xs l (met_first x xs d m)
      ]

-- the digits at the front, where there is one
pub group_front : (xs : List ℕ) → decimal (peek 0 xs) ≡ true → grouped decimal (take (digits decimal xs) xs) ≡ true
group_front [] d = absurd (clash d)
group_front (x ∷ xs) d =
    subst (λ n. grouped decimal (take n (x ∷ xs)) ≡ true) (sym (digit_more decimal x xs d)) (group_read decimal x xs d)

-- an exponent that is not empty has digits
some_digits : (at : ℕ) (xs : List ℕ) → exponent_mark (peek 0 xs) ≡ true → empty_exponent at xs ≡ None
    → exponent_digits (drop 1 xs) ≡ true
unfolding empty_exponent
some_digits at xs m e = grind arith

-- a sign, and what follows it
signed_front : (xs : List ℕ) (n : ℕ) → sign (peek 0 xs) ≡ true → take (1 + n) xs ≡ peek 0 xs ∷ take n (drop 1 xs)
signed_front [] n s = absurd (clash s)
signed_front (x ∷ xs) n s = let one : 1 + n ≡ suc n = omega arith in ap (λ m. take m (x ∷ xs)) one

signed_digit : (xs : List ℕ) → sign (peek 0 xs) ≡ true → exponent_digits xs ≡ true → decimal (peek 0 (drop 1 xs)) ≡ true
signed_digit xs s d = grind (arith, common_steps)

plain_digit : (xs : List ℕ) → sign (peek 0 xs) ≡ false → exponent_digits xs ≡ true → decimal (peek 0 xs) ≡ true
plain_digit xs s d = grind arith

-- after the mark
tail_read : (e : ℕ) (xs : List ℕ) → exponent_mark e ≡ true → exponent_digits xs ≡ true
    → Exponent (e ∷ take (exponent_tail xs) xs)
tail_read e xs m d =
    elim (cases_Bool (sign (peek 0 xs))) [
      | inl s ↦
          let ys = drop 1 xs in
          let front = ap (λ n. take n xs) (sym (tail_signed xs d s)) ∙ signed_front xs (digits decimal ys) s in
          subst (λ l. Exponent (e ∷ l)) (sym front)
          (signed e (peek 0 xs) (take (digits decimal ys) ys) m s (group_front ys (signed_digit xs s d)))
      | inr s ↦
          subst (λ n. Exponent (e ∷ take n xs)) (tail_plain xs d s)
          (unsigned e (take (digits decimal xs) xs) m (group_front xs (plain_digit xs s d)))
    ]

-- the exponent that is read, where it is not empty
pub exponent_read : (at : ℕ) (xs : List ℕ) → exponent_mark (peek 0 xs) ≡ true → empty_exponent at xs ≡ None
    → Exponent (take (exponent xs) xs)
exponent_read at [] m e = absurd (clash m)
exponent_read at (x ∷ xs) m e =
    let n : suc (exponent_tail xs) ≡ exponent (x ∷ xs) = omega (arith, some_exponent (x ∷ xs) m) in
    subst (λ n. Exponent (take n (x ∷ xs))) n (tail_read x xs m (some_digits at (x ∷ xs) m e))

pub exponent_or_none : (at : ℕ) (xs : List ℕ) → empty_exponent at xs ≡ None → ExponentOrNone (take (exponent xs) xs)
exponent_or_none at xs e =
    elim (cases_Bool (exponent_mark (peek 0 xs))) [
      | inl m ↦ inl (exponent_read at xs m e)
      | inr m ↦ inr (ap (λ n. take n xs) (no_exponent xs m))
    ]
