-- Numbers: what follows the first character of one, which is a digit or, before a digit, a point.
-- `at` is how many bytes of the token stand before the list.
use Rattle.std.specs.Prelude.{ℕ, ◌+◌, Bool, false, if◌then◌else◌, not, ◌&&◌, ◌||◌, List, drop, Some, None, Option, ◌==◌}
use Rattle.lexer.specs.Byte.{byte}
use Rattle.lexer.specs.Class.{decimal, hexadecimal}
use Rattle.lexer.specs.Cursor.{digit_met, digits, identifier, peek}
use Rattle.lexer.specs.declared.token.Base.{Base}
use Rattle.lexer.specs.declared.token.Base.TheVariants.{Binary, Octal, Decimal, Hexadecimal}
use Rattle.lexer.specs.declared.token.LiteralKind.{LiteralKind}
use Rattle.lexer.specs.declared.token.LiteralKind.TheVariants.{Int, Numeric}

-- a letter in either case, by its lower-case code
abbrev pub either_case : ℕ → ℕ → Bool
either_case lower b = b == lower || b + 32 == lower

-- `e` or `E` starts an exponent
abbrev pub exponent_mark : ℕ → Bool
exponent_mark b = either_case (byte "e") b

abbrev pub sign : ℕ → Bool
sign b = b == byte "+" || b == byte "-"

-- after the mark: whether a digit follows directly, or after one sign
abbrev pub exponent_digits : List ℕ → Bool
exponent_digits xs = if sign (peek 0 xs) then decimal (peek 1 xs) else decimal (peek 0 xs)

-- after the mark: the sign and the digits; a sign is taken only before a digit
abbrev pub exponent_tail : List ℕ → ℕ
exponent_tail xs =
    if exponent_digits xs
    then (if sign (peek 0 xs) then 1 + digits decimal (drop 1 xs) else digits decimal xs)
    else 0

-- the exponent, with its mark, if there is one
unfoldable pub exponent : List ℕ → ℕ
exponent xs = if exponent_mark (peek 0 xs) then 1 + exponent_tail (drop 1 xs) else 0

-- where an exponent without digits begins
unfoldable pub empty_exponent : ℕ → List ℕ → Option ℕ
empty_exponent at xs =
    if exponent_mark (peek 0 xs) then (if exponent_digits (drop 1 xs) then None else Some at)
    else None

-- after the point, or before an exponent: what is left of a number that has either
unfoldable pub numeric : ℕ → List ℕ → LiteralKind
numeric at xs = Numeric (empty_exponent at xs) (at + exponent xs)

unfoldable pub numeric_len : List ℕ → ℕ
numeric_len xs = exponent xs + identifier (drop (exponent xs) xs)

-- after the point: digits, if one follows directly
abbrev pub fraction : List ℕ → ℕ
fraction xs = if decimal (peek 0 xs) then digits decimal xs else 0

unfoldable pub fractional : ℕ → List ℕ → LiteralKind
fractional at xs = numeric (at + fraction xs) (drop (fraction xs) xs)

unfoldable pub fractional_len : List ℕ → ℕ
fractional_len xs = fraction xs + numeric_len (drop (fraction xs) xs)

-- a point that no second point follows belongs to the number
abbrev pub has_point : List ℕ → Bool
has_point xs = peek 0 xs == byte "." && not (peek 1 xs == byte ".")

-- after the digits before the point
abbrev pub after_digits : ℕ → List ℕ → LiteralKind
after_digits at xs =
    if has_point xs then fractional (at + 1) (drop 1 xs)
    else if exponent_mark (peek 0 xs) then numeric at xs
    else Int Decimal false at

abbrev pub after_digits_len : List ℕ → ℕ
after_digits_len xs =
    if has_point xs then 1 + fractional_len (drop 1 xs)
    else if exponent_mark (peek 0 xs) then numeric_len xs
    else identifier xs

-- after the first digit of a decimal number
unfoldable pub decimal_number : ℕ → List ℕ → LiteralKind
decimal_number at xs = after_digits (at + digits decimal xs) (drop (digits decimal xs) xs)

unfoldable pub decimal_len : List ℕ → ℕ
decimal_len xs = digits decimal xs + after_digits_len (drop (digits decimal xs) xs)

-- after `0b`, `0o` or `0x`: a run of digits, then junk; it is empty if neither was read
unfoldable pub based : Base → (ℕ → Bool) → ℕ → List ℕ → LiteralKind
based base digit at xs =
    let len = digits digit xs in
    Int base (not (digit_met digit xs) && identifier (drop len xs) == 0) (at + len)

unfoldable pub based_len : (ℕ → Bool) → List ℕ → ℕ
based_len digit xs = digits digit xs + identifier (drop (digits digit xs) xs)

-- the base that a prefix names: after a `0`, by the letter that follows
abbrev pub base_of : ℕ → ℕ → Base
base_of first next =
    if first == byte "0"
    then (if either_case (byte "b") next then Binary
    else if either_case (byte "o") next then Octal
    else if either_case (byte "x") next then Hexadecimal
    else Decimal)
    else Decimal

-- after the first digit of a number in a base; binary and octal numbers take decimal digits
abbrev pub in_base : Base → ℕ → List ℕ → LiteralKind
in_base Binary at xs = based Binary decimal (at + 1) (drop 1 xs)
in_base Octal at xs = based Octal decimal (at + 1) (drop 1 xs)
in_base Decimal at xs = decimal_number at xs
in_base Hexadecimal at xs = based Hexadecimal hexadecimal (at + 1) (drop 1 xs)

abbrev pub in_base_len : Base → List ℕ → ℕ
in_base_len Binary xs = 1 + based_len decimal (drop 1 xs)
in_base_len Octal xs = 1 + based_len decimal (drop 1 xs)
in_base_len Decimal xs = decimal_len xs
in_base_len Hexadecimal xs = 1 + based_len hexadecimal (drop 1 xs)

-- after the first digit, which is given
unfoldable pub number : ℕ → ℕ → List ℕ → LiteralKind
number first at xs = in_base (base_of first (peek 0 xs)) at xs

unfoldable pub number_len : ℕ → List ℕ → ℕ
number_len first xs = in_base_len (base_of first (peek 0 xs)) xs
