-- A room that is filled from its front.
use Rattle.std.specs.Prelude.{ℕ, List, ◌++◌, length, take, drop}

-- as many of the bytes as there is room for, and then what stood there before
abbrev pub filled : List ℕ → List ℕ → List ℕ
filled bytes room = take (length room) bytes ++ drop (length bytes) room
