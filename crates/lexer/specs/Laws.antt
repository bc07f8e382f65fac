-- What holds of the cut of every text.
use Rattle.std.specs.Prelude.{◌≡◌, ℕ, ◌<◌, ◌≤◌, List, [], ◌∷◌, length, take, drop}
use Rattle.lexer.specs.Cut.{cut, lengths}
use Rattle.lexer.specs.Lex.{token_at}
use Rattle.lexer.specs.declared.token.Token.{Token}
use Rattle.std.specs.List.{slice_get}

-- every token has one byte or more
abbrev pub NoneEmpty : List Token → Type 0
NoneEmpty [] = Unit {0}
NoneEmpty (t ∷ ts) = (0 < t.len) × NoneEmpty ts

-- where a text's first tokens end: place 0, and the end of each token, are its borders
abbrev pub border : List ℕ → ℕ → ℕ
border xs count = lengths (take count (cut xs))

-- at a border stands the next token of the cut, or none where there is no more
abbrev pub ReadsCut : Type 0
ReadsCut = (xs : List ℕ) (count : ℕ) → token_at xs (border xs count) ≡ slice_get (cut xs) count

-- the lengths of the tokens add up to the text's, and none is 0
abbrev pub AddsUp : Type 0
AddsUp = (xs : List ℕ) → (lengths (cut xs) ≡ length xs) × NoneEmpty (cut xs)

-- two texts that end alike after a border of each, with at least one token before it, have equal
-- tokens after it
abbrev pub SameTail : Type 0
SameTail =
    (xs ys : List ℕ) (m n : ℕ) → 0 < m → m ≤ length (cut xs) → 0 < n → n ≤ length (cut ys)
    → drop (border xs m) xs ≡ drop (border ys n) ys → drop m (cut xs) ≡ drop n (cut ys)
