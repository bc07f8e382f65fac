-- How much of a lent run of bytes counts.
use Rattle.std.specs.Prelude.{ℕ, suc, ◌^◌, ◌<◌, List, ◌++◌, length, take}
use Rattle.std.proofs.Common.{arith, length-take, length-append}

-- The longest text that is read has 16,777,216 bytes.
abbrev pub longest : ℕ
longest = 16777216

-- A run counts as its first 16,777,217 bytes: one more than the longest text has, so that a longer run is
-- still met as too long.
unfoldable pub clip : List ℕ → List ℕ
clip xs = take (suc longest) xs

-- What a text owes of its length: one clipped run, and two together, have fewer than 2 ^ 32 bytes.
pub clip_short : (xs : List ℕ) → length (clip xs) < 2 ^ 32
unfolding clip
clip_short xs = omega (arith, length-take 16777217 xs)

pub clips_short : (xs ys : List ℕ) → length (clip xs ++ clip ys) < 2 ^ 32
unfolding clip
clips_short xs ys =
    omega (
      arith,
      length-append (clip xs) (clip ys),
      length-take 16777217 xs,
      length-take 16777217 ys,
    )
