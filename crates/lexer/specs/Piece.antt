-- Pieces of a text.
use Rattle.std.specs.Prelude.{ℕ, ◌^◌, ◌<◌, List, length, take, drop}
use Rattle.std.proofs.Common.{arith, length-take, length-drop}

-- so many bytes of a list from a place on
abbrev pub part : ℕ → ℕ → List ℕ → List ℕ
part place len bytes = take len (drop place bytes)

-- it is no longer than the list
pub part_short : (place len : ℕ) (bytes : List ℕ)
    → length bytes < 2 ^ 32 → length (part place len bytes) < 2 ^ 32
part_short place len bytes h =
    omega (arith, length-take len (drop place bytes), length-drop place bytes)
