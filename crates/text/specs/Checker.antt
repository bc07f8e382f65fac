-- How far a checker of UTF-8 has come, told by the table.
use Rattle.std.specs.Prelude.{◌≡◌, ℕ, suc, Bool, true, false, if◌then◌else◌, List, [], ◌∷◌, length, drop, nat_lt}
use Rattle.text.specs.Utf8.{Row, tail, table, holds, sound, WellFormed}
use Rattle.text.specs.declared.utf8.State.{State}
use Rattle.text.specs.declared.utf8.Utf8Checker.{Utf8Checker}
use Rattle.text.specs.declared.utf8.State.TheVariants.{Between, OneOfTwo, AfterE0, OneOfThree, AfterED, AfterF0, OneOfFour, AfterF4, TwoOfThree, TwoOfFour, ThreeOfFour, Ill}

-- What may come next: what is left of the rows that the bytes of the unfinished sequence match. No row is left
-- where a byte was met that none allows. And how many bytes of the sequence were taken before.
pub record Progress : Type 0 where
  pub rows : List Row
  pub taken : ℕ

-- Between two sequences every row may come.
abbrev pub between : Progress
between = record { rows = table; taken = 0 }

-- What is left of the rows that a byte may begin.
abbrev pub left_after : ℕ → List Row → List Row
left_after b [] = []
left_after b ([] ∷ rows) = left_after b rows
left_after b ((range ∷ row) ∷ rows) =
    if holds range b then row ∷ left_after b rows
    else left_after b rows

-- With no row left the sequence is ill-formed; a row with nothing left is a sequence at its end.
abbrev pub came_to : List Row → ℕ → Progress
came_to [] n = record { rows = []; taken = n }
came_to ([] ∷ rows) n = between
came_to ((range ∷ row) ∷ rows) n = record { rows = (range ∷ row) ∷ rows; taken = suc n }

-- The next byte.
abbrev pub step : Progress → ℕ → Progress
step p b = came_to (left_after b p.rows) p.taken

-- Whether no row is left.
abbrev pub none_left : List Row → Bool
none_left [] = true
none_left (row ∷ rows) = false

-- A list of bytes, one by one.
abbrev pub run : Progress → List ℕ → Progress
run p [] = p
run p (b ∷ bs) = run (step p b) bs

-- How many first bytes of a list together begin one of these rows.
abbrev pub begun : List Row → List ℕ → ℕ
begun rows [] = 0
begun rows (b ∷ bs) =
    if none_left (left_after b rows) then 0
    else suc (begun (left_after b rows) bs)

-- What follows the well-formed front of a list.
abbrev pub unsound : List ℕ → List ℕ
unsound bs = drop (sound bs) bs

-- Where a run from between two sequences comes to, told by the table: as many bytes are taken as begin a row after
-- the well-formed front, and no row is left if there are more bytes than those. So nothing is taken and a row is
-- left exactly if all the bytes are well formed.
pub record Stands (bs : List ℕ) (p : Progress) : Type 0 where
  pub taken : p.taken ≡ begun table (unsound bs)
  pub ill : none_left p.rows ≡ nat_lt (begun table (unsound bs)) (length (unsound bs))
  pub whole : (p.taken ≡ 0) × (none_left p.rows ≡ false) → WellFormed bs
  pub well : WellFormed bs → (p.taken ≡ 0) × (none_left p.rows ≡ false)

abbrev pub RunsByTable : Type 0
RunsByTable = (bs : List ℕ) → Stands bs (run between bs)

-- What each state of the checker says.
abbrev pub state_progress : State → Progress
state_progress Between = between
state_progress OneOfTwo = record { rows = (tail ∷ []) ∷ []; taken = 1 }
state_progress AfterE0 = record { rows = ((0xA0, 0xBF) ∷ tail ∷ []) ∷ []; taken = 1 }
state_progress OneOfThree = record { rows = (tail ∷ tail ∷ []) ∷ []; taken = 1 }
state_progress AfterED = record { rows = ((0x80, 0x9F) ∷ tail ∷ []) ∷ []; taken = 1 }
state_progress AfterF0 = record { rows = ((0x90, 0xBF) ∷ tail ∷ tail ∷ []) ∷ []; taken = 1 }
state_progress OneOfFour = record { rows = (tail ∷ tail ∷ tail ∷ []) ∷ []; taken = 1 }
state_progress AfterF4 = record { rows = ((0x80, 0x8F) ∷ tail ∷ tail ∷ []) ∷ []; taken = 1 }
state_progress TwoOfThree = record { rows = (tail ∷ []) ∷ []; taken = 2 }
state_progress TwoOfFour = record { rows = (tail ∷ tail ∷ []) ∷ []; taken = 2 }
state_progress ThreeOfFour = record { rows = (tail ∷ []) ∷ []; taken = 3 }
state_progress (Ill n) = record { rows = []; taken = n }

-- How far a checker has come.
abbrev pub progress : Utf8Checker → Progress
progress c = state_progress c.state
