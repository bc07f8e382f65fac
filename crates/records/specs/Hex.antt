-- Bytes in lower-case hexadecimal digits, two to a byte.
use Rattle.std.specs.Prelude.{ℕ, ◌+◌, ◌-◌, ◌*◌, if◌then◌else◌, ◌&&◌, List, [], ◌∷◌, Some, None, Option, nat_le}

-- what a digit stands for: 0 to 9 are the bytes 48 to 57, a to f the bytes 97 to 102
abbrev pub digit_value : ℕ → Option ℕ
digit_value b =
    if nat_le 48 b && nat_le b 57 then Some (b - 48)
    else if nat_le 97 b && nat_le b 102 then Some (b - 87)
    else None

-- what two digits stand for, the higher one first
abbrev pub pair_value : Option ℕ → Option ℕ → Option ℕ
pair_value None low = None
pair_value (Some high) None = None
pair_value (Some high) (Some low) = Some (16 * high + low)

-- a byte before others, if there are both
abbrev pub before : Option ℕ → Option (List ℕ) → Option (List ℕ)
before None bytes = None
before (Some b) None = None
before (Some b) (Some bytes) = Some (b ∷ bytes)

-- the bytes of a list of digits; none if some byte is no digit or a digit is left over
unfoldable pub decoded : List ℕ → Option (List ℕ)
decoded [] = Some []
decoded (high ∷ []) = None
decoded (high ∷ low ∷ digits) =
    before (pair_value (digit_value high) (digit_value low)) (decoded digits)
