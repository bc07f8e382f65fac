-- A listing that is written to a room of the caller's.
use Rattle.std.specs.Prelude.{◌≡◌, ℕ, List, length}
use Rattle.bridge.specs.Fill.{filled}
use Rattle.listing.specs.Listed.{Answers, admitted, text_of}
use Rattle.listing.specs.declared.Listing.{Listing}

-- the answer when there is no memory: no listing is as long
abbrev pub no_memory : ℕ
no_memory = 18446744073709551615

-- the input's listing fills the room from its front, and its length is the answer
pub record Fills (input room after : List ℕ) (answer : ℕ) : Type 0 where
  pub listing : Listing
  pub listed : Answers input (admitted input) listing
  pub answered : answer ≡ length (text_of listing)
  pub handed : after ≡ filled (text_of listing) room
