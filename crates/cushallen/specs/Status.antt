-- The status that the program ends with.
use Rattle.std.specs.Prelude.{ℕ}
use Rattle.listing.specs.declared.Listing.{Listing}
use Rattle.listing.specs.declared.Listing.TheVariants.{Listed, Refused}

-- 1 where the input is refused, and else 0
abbrev pub status : Listing → ℕ
status (Listed lines) = 0
status (Refused line) = 1
