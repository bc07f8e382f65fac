-- What of a text a token goes by, and where it ends in well-formed UTF-8.
use Rattle.std.specs.Prelude.{◌≡◌, ℕ, ◌+◌, ◌≤◌, List, length, take, IsUtf8}
use Rattle.lexer.specs.Cut.{cut}
use Rattle.lexer.specs.Laws.{border}
use Rattle.lexer.specs.Lex.{lex}
use Rattle.std.specs.Str.{IsCharBoundary}

-- a token goes by its own bytes and the two after it: where these are the same, so is the token
abbrev pub Local : Type 0
Local =
    (first : ℕ) (xs ys : List ℕ) → (lex first xs).len + 1 ≤ length xs
    → take ((lex first xs).len + 1) xs ≡ take ((lex first xs).len + 1) ys
    → lex first ys ≡ lex first xs

-- two texts that are the same up to two bytes after a border have the same tokens up to that border
abbrev pub SameFront : Type 0
SameFront =
    (xs ys : List ℕ) (m : ℕ) → border xs m + 2 ≤ length xs
    → take (border xs m + 2) xs ≡ take (border xs m + 2) ys → take m (cut ys) ≡ take m (cut xs)

-- in well-formed UTF-8 every border falls between two characters, or at an end of the text
abbrev pub BetweenCharacters : Type 0
BetweenCharacters = (xs : List ℕ) → IsUtf8 xs → (m : ℕ) → IsCharBoundary xs (border xs m)
