-- The length and the bytes of a clipped run.
use Rattle.std.proofs.Common.{◌≡◌, ℕ, ◌<◌, min, List, length, get_or, length-take, get_or-take}
use Rattle.std.proofs.lemmas.Option.{slice_get-get_or, slice_get_past}
use Rattle.text.specs.Clip.{clip}

pub length-clip : (xs : List ℕ) → length (clip xs) ≡ min 16777217 (length xs)
unfolding clip
length-clip xs = length-take 16777217 xs

pub get_or-clip : (xs : List ℕ) (i : ℕ) → i < 16777217 → get_or (clip xs) i 0 ≡ get_or xs i 0
unfolding clip
get_or-clip xs i h = get_or-take 16777217 xs i 0 h

pub ruleset clipped = (length-clip, get_or-clip, slice_get-get_or, slice_get_past)
