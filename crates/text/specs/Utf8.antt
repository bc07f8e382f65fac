-- Well-formed UTF-8, from the table of well-formed byte sequences in the Unicode Standard (Table 3-7).
use Rattle.std.specs.Prelude.{◌≡◌, ℕ, zero, suc, pred, Bool, true, false, if◌then◌else◌, ◌&&◌, List, [], ◌∷◌, length, ◌==◌, nat_le}

-- A range of bytes: the lowest and the highest.
abbrev pub Range : Type 0
Range = ℕ × ℕ

abbrev pub holds : Range → ℕ → Bool
holds range b = nat_le range.0 b && nat_le b range.1

-- A row of the table has a range for each byte of a sequence.
abbrev pub Row : Type 0
Row = List Range

-- The range of every byte after the first, but for four second bytes that the table narrows.
abbrev pub tail : Range
tail = (0x80, 0xBF)

-- The nine rows.
abbrev pub table : List Row
table =
    ((0x00, 0x7F) ∷ [])
    ∷ ((0xC2, 0xDF) ∷ tail ∷ [])
    ∷ ((0xE0, 0xE0) ∷ (0xA0, 0xBF) ∷ tail ∷ [])
    ∷ ((0xE1, 0xEC) ∷ tail ∷ tail ∷ [])
    ∷ ((0xED, 0xED) ∷ (0x80, 0x9F) ∷ tail ∷ [])
    ∷ ((0xEE, 0xEF) ∷ tail ∷ tail ∷ [])
    ∷ ((0xF0, 0xF0) ∷ (0x90, 0xBF) ∷ tail ∷ tail ∷ [])
    ∷ ((0xF1, 0xF3) ∷ tail ∷ tail ∷ tail ∷ [])
    ∷ ((0xF4, 0xF4) ∷ (0x80, 0x8F) ∷ tail ∷ tail ∷ [])
    ∷ []

-- Whether the first bytes of a list match a row, each byte its range.
abbrev pub matches : Row → List ℕ → Bool
matches [] bs = true
matches (range ∷ row) [] = false
matches (range ∷ row) (b ∷ bs) = holds range b && matches row bs

-- The length of the first row that the first bytes of a list match, or 0 if they match none.
abbrev pub matched : List Row → List ℕ → ℕ
matched [] bs = 0
matched (row ∷ rows) bs = if matches row bs then length row else matched rows bs

-- The length of the well-formed sequence at the front of a list, or 0 if none stands there.
unfoldable pub sequence : List ℕ → ℕ
sequence bs = matched table bs

-- How many bytes of a list stand before the first sequence that is not well formed, or before the end.
-- The number counts the bytes still to be passed of the sequence before.
unfoldable pub sound_after : ℕ → List ℕ → ℕ
sound_after n [] = 0
sound_after (suc n) (b ∷ bs) = suc (sound_after n bs)
sound_after zero (b ∷ bs) =
    if sequence (b ∷ bs) == 0 then 0
    else suc (sound_after (pred (sequence (b ∷ bs))) bs)

-- The length of the well-formed front of a list: the place of the fault, if it is not the end.
abbrev pub sound : List ℕ → ℕ
sound bs = sound_after 0 bs

-- A list is well formed if it is one well-formed sequence after another to its end.
abbrev pub WellFormed : List ℕ → Type 0
WellFormed bs = sound bs ≡ length bs
