-- A list of records. A record is a line with the text's digits, the lines of its listing, and an empty line.
use Rattle.std.specs.Prelude.{ℕ, ◌+◌, Bool, true, if◌then◌else◌, ◌&&◌, List, [], ◌∷◌, length, take, drop, Some, None, Option, ◌==◌, nat_lt}
use Rattle.std.specs.List.{position_or_len}
use Rattle.records.specs.declared.record.Record.{Record}

-- how many bytes stand before the first line end
abbrev pub line_length : List ℕ → ℕ
line_length bs = position_or_len (λ b. b == 10) bs

-- how many bytes stand before the first empty line; `starts` says whether a line starts here
unfoldable pub lines_length : Bool → List ℕ → ℕ
lines_length starts [] = 0
lines_length starts (b ∷ bs) = if starts && b == 10 then 0 else 1 + lines_length (b == 10) bs

-- a place, if a byte stands there
abbrev pub place_in : List ℕ → ℕ → Option ℕ
place_in bs n = if nat_lt n (length bs) then Some n else None

-- what stands before a place and what after it; none if the place is past the end
abbrev pub split_at : ℕ → List ℕ → Option (List ℕ × List ℕ)
split_at n bs = if nat_lt n (length bs) then Some (take n bs, drop (n + 1) bs) else None

-- what a record holds: the text's digits, its listing, and the list after them
abbrev pub parts : Record → List ℕ × List ℕ × List ℕ
parts r = (r.digits.now, r.listing.now, r.rest.now)

-- digits before what their listing's end splits
abbrev pub with_digits : List ℕ → Option (List ℕ × List ℕ) → Option (List ℕ × List ℕ × List ℕ)
with_digits digits None = None
with_digits digits (Some p) = Some (digits, p.0, p.1)

-- the listing ends before the first empty line after the digits' line
abbrev pub with_listing : Option (List ℕ × List ℕ) → Option (List ℕ × List ℕ × List ℕ)
with_listing None = None
with_listing (Some p) = with_digits p.0 (split_at (lines_length true p.1) p.1)

-- the first record of a list; none if the list has no whole record
abbrev pub first_record : List ℕ → Option (List ℕ × List ℕ × List ℕ)
first_record bs = with_listing (split_at (line_length bs) bs)
