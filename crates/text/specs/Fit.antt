-- What the check of a text answers.
use Rattle.std.specs.Prelude.{◌≡◌, ℕ, ◌≤◌, if◌then◌else◌, List, length, Ok, Err, IsUtf8, Result, ◌==◌, nat_lt}
use Rattle.std.specs.Str.{IsValidUpTo}
use Rattle.text.specs.Clip.{longest}
use Rattle.text.specs.Utf8.{sound, WellFormed}
use Rattle.text.specs.declared.fault.TextFault.{TextFault}
use Rattle.text.specs.declared.fault.TextFault.TheVariants.{TooLong, IllFormed}

-- A text that is too long is not looked into. Else the fault is at the first sequence that is not well formed.
abbrev pub checked : List ℕ → Result (Unit {0}) TextFault
checked bs =
    if nat_lt longest (length bs) then Err TooLong
    else if sound bs == length bs then Ok tt
    else Err (IllFormed (sound bs))

-- The table agrees with the encoding of characters: a list is well formed exactly if it is `IsUtf8`, the encodings
-- of scalar values one after another.
abbrev pub TableIsUtf8 : Type 0
TableIsUtf8 = (bs : List ℕ) → (WellFormed bs → IsUtf8 bs) × (IsUtf8 bs → WellFormed bs)

-- So an answer tells of the characters: every text that is not too long and is UTF-8 passes, no other bytes do,
-- and a fault's place ends the longest front that is UTF-8.
pub record Tells (bs : List ℕ) (r : Result (Unit {0}) TextFault) : Type 0 where
  pub passes : length bs ≤ longest → IsUtf8 bs → r ≡ Ok tt
  pub passed : r ≡ Ok tt → (length bs ≤ longest) × IsUtf8 bs
  pub faulty : (p : ℕ) → r ≡ Err (IllFormed p) → (length bs ≤ longest) × IsValidUpTo bs p
