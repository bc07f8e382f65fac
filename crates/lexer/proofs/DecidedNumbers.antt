-- A number goes by its own bytes and the two after it.
use Rattle.std.proofs.Common.{ℕ, ◌+◌, Bool, false, cond, not, ◌&&◌, eqb, List, drop, Some, None, Option, refl, ap}
use Rattle.lexer.proofs.Decided.{Decided, both_counted, by_front, chosen, chosen_counted, first_of, in_turn, past, past_counted, seen}
use Rattle.lexer.proofs.DecidedParts.{digits_decided, identifier_decided, met_decided}
use Rattle.lexer.specs.Class.{decimal, hexadecimal}
use Rattle.lexer.specs.Cursor.{digit_met, digits, identifier, peek}
use Rattle.lexer.specs.Number.{after_digits, after_digits_len, base_of, based, based_len, decimal_len, decimal_number, empty_exponent, exponent, exponent_digits, exponent_mark, exponent_tail, fraction, fractional, fractional_len, has_point, in_base, in_base_len, number, number_len, numeric, numeric_len, sign}
use Rattle.lexer.specs.declared.token.Base.{Base}
use Rattle.lexer.specs.declared.token.Base.TheVariants.{Binary, Octal, Decimal, Hexadecimal}
use Rattle.lexer.specs.declared.token.LiteralKind.TheVariants.{Int}

signed : Decided (λ xs. 1 + digits decimal (drop 1 xs)) (λ xs. 1 + digits decimal (drop 1 xs))
signed = past_counted 1 (digits decimal) (digits_decided decimal)

exponent_digits_decided : (f : List ℕ → ℕ) → Decided f exponent_digits
exponent_digits_decided f = seen f (λ a b. cond (sign a) (decimal b) (decimal a))

tail_decided : Decided exponent_tail exponent_tail
tail_decided =
    let after_mark : List ℕ → ℕ = λ xs. cond (sign (peek 0 xs)) (1 + digits decimal (drop 1 xs)) (digits decimal xs) in
    chosen_counted exponent_digits after_mark (λ _. 0) (exponent_digits_decided exponent_tail)
    (chosen_counted (λ xs. sign (peek 0 xs)) (λ xs. 1 + digits decimal (drop 1 xs)) (digits decimal)
    (seen after_mark (λ a _. sign a)) signed (digits_decided decimal))
    (λ _ _ _ _. refl)

exponent_decided : Decided exponent exponent
unfolding exponent
exponent_decided =
    chosen_counted (λ xs. exponent_mark (peek 0 xs)) (λ xs. 1 + exponent_tail (drop 1 xs)) (λ _. 0)
    (seen exponent (λ a _. exponent_mark a)) (past_counted 1 exponent_tail tail_decided) (λ _ _ _ _. refl)

empty_decided : (at : ℕ) → Decided exponent (empty_exponent at)
unfolding exponent empty_exponent
empty_decided at =
    let none : List ℕ → Option ℕ = λ _. None in
    let told : List ℕ → Option ℕ = λ xs. cond (exponent_digits xs) None (Some at) in
    chosen (λ xs. exponent_mark (peek 0 xs)) (λ xs. 1 + exponent_tail (drop 1 xs)) (λ _. 0)
    (λ xs. told (drop 1 xs)) none
    (seen exponent (λ a _. exponent_mark a))
    (past 1 exponent_tail told
    (λ p s t h. ap (λ b. cond b None (Some at)) (exponent_digits_decided exponent_tail p s t h)))
    (λ _ _ _ _. refl)

numeric_len_decided : Decided numeric_len numeric_len
unfolding numeric_len
numeric_len_decided = both_counted exponent identifier exponent_decided identifier_decided

numeric_decided : (at : ℕ) → Decided numeric_len (numeric at)
unfolding numeric_len numeric
numeric_decided at p s t h =
    let empty = first_of exponent identifier (empty_exponent at) (empty_decided at) p s t h in
    let end = first_of exponent identifier exponent exponent_decided p s t h in
    cc (empty, end)

fraction_decided : Decided fraction fraction
fraction_decided =
    chosen_counted (λ xs. decimal (peek 0 xs)) (digits decimal) (λ _. 0)
    (seen fraction (λ a _. decimal a)) (digits_decided decimal) (λ _ _ _ _. refl)

pub fractional_len_decided : Decided fractional_len fractional_len
unfolding fractional_len
fractional_len_decided = both_counted fraction numeric_len fraction_decided numeric_len_decided

pub fractional_decided : (at : ℕ) → Decided fractional_len (fractional at)
unfolding fractional_len fractional
fractional_decided at =
    in_turn fraction (λ _ _ xs. numeric_len xs) (λ n _ xs. numeric (at + n) xs) fraction_decided
    (λ n _. numeric_decided (at + n))

has_point_decided : (f : List ℕ → ℕ) → Decided f has_point
has_point_decided f = seen f (λ a b. eqb a 46 && not (eqb b 46))

-- after the digits where no point follows
no_point_len : List ℕ → ℕ
no_point_len xs = cond (exponent_mark (peek 0 xs)) (numeric_len xs) (identifier xs)

mark_decided : Decided no_point_len (λ xs. exponent_mark (peek 0 xs))
mark_decided = seen no_point_len (λ a _. exponent_mark a)

after_digits_len_decided : Decided after_digits_len after_digits_len
unfolding no_point_len
after_digits_len_decided =
    chosen_counted has_point (λ xs. 1 + fractional_len (drop 1 xs)) no_point_len (has_point_decided after_digits_len)
    (past_counted 1 fractional_len fractional_len_decided)
    (chosen_counted (λ xs. exponent_mark (peek 0 xs)) numeric_len identifier
    mark_decided numeric_len_decided identifier_decided)

after_digits_decided : (at : ℕ) → Decided after_digits_len (after_digits at)
unfolding no_point_len
after_digits_decided at =
    chosen has_point (λ xs. 1 + fractional_len (drop 1 xs)) no_point_len
    (λ xs. fractional (at + 1) (drop 1 xs))
    (λ xs. cond (exponent_mark (peek 0 xs)) (numeric at xs) (Int Decimal false at))
    (has_point_decided after_digits_len) (past 1 fractional_len (fractional (at + 1)) (fractional_decided (at + 1)))
    (chosen (λ xs. exponent_mark (peek 0 xs)) numeric_len identifier (numeric at) (λ _. Int Decimal false at)
    mark_decided (numeric_decided at) (λ _ _ _ _. refl))

module _ (digit : ℕ → Bool) where
  based_len_decided : Decided (based_len digit) (based_len digit)
  unfolding based_len
  based_len_decided = both_counted (digits digit) identifier (digits_decided digit) identifier_decided

  based_decided : (base : Base) (at : ℕ) → Decided (based_len digit) (based base digit at)
  unfolding based_len based
  based_decided base at p s t h =
      let met = first_of (digits digit) identifier (digit_met digit) (met_decided digit) p s t h in
      let end = first_of (digits digit) identifier (digits digit) (digits_decided digit) p s t h in
      let junk =
      in_turn (digits digit) (λ _ _ xs. identifier xs) (λ _ _ xs. identifier xs) (digits_decided digit)
      (λ _ _. identifier_decided) p s t h in
      cc (met, end, junk)

  -- after the letter of a base
  letter_decided : (base : Base) (at : ℕ)
      → Decided (λ xs. 1 + based_len digit (drop 1 xs)) (λ xs. based base digit at (drop 1 xs))
  letter_decided base at = past 1 (based_len digit) (based base digit at) (based_decided base at)

  letter_len_decided : Decided (λ xs. 1 + based_len digit (drop 1 xs)) (λ xs. 1 + based_len digit (drop 1 xs))
  letter_len_decided = past_counted 1 (based_len digit) based_len_decided

in_base_len_decided : (base : Base) → Decided (in_base_len base) (in_base_len base)
unfolding decimal_len
in_base_len_decided Binary = letter_len_decided decimal
in_base_len_decided Octal = letter_len_decided decimal
in_base_len_decided Decimal =
    both_counted (digits decimal) after_digits_len (digits_decided decimal) after_digits_len_decided
in_base_len_decided Hexadecimal = letter_len_decided hexadecimal

in_base_decided : (base : Base) (at : ℕ) → Decided (in_base_len base) (in_base base at)
unfolding decimal_len decimal_number
in_base_decided Binary at = letter_decided decimal Binary (at + 1)
in_base_decided Octal at = letter_decided decimal Octal (at + 1)
in_base_decided Decimal at =
    in_turn (digits decimal) (λ _ _ xs. after_digits_len xs) (λ n _ xs. after_digits (at + n) xs)
    (digits_decided decimal) (λ n _. after_digits_decided (at + n))
in_base_decided Hexadecimal at = letter_decided hexadecimal Hexadecimal (at + 1)

module _ (first : ℕ) where
  pub number_len_decided : Decided (number_len first) (number_len first)
  unfolding number_len
  number_len_decided = by_front (λ a _. base_of first a) in_base_len in_base_len in_base_len_decided

  pub number_decided : (at : ℕ) → Decided (number_len first) (number first at)
  unfolding number_len number
  number_decided at =
      by_front (λ a _. base_of first a) in_base_len (λ base. in_base base at) (λ base. in_base_decided base at)
