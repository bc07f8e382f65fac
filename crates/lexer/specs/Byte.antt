-- Bytes by their characters.
use Prim.Native.String.{String}
use Rattle.std.specs.Prelude.{ℕ, codes, slice_index}

-- the byte of an ASCII character
abbrev pub byte : String → ℕ
byte s = slice_index (codes s) 0
