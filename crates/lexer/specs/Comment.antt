-- Comments: how far one reaches after its opening mark, and whether it is closed.
use Rattle.std.specs.Prelude.{ℕ, zero, suc, Bool, true, false, if◌then◌else◌, ◌&&◌, List, [], ◌∷◌, ◌==◌}
use Rattle.lexer.specs.Byte.{byte}
use Rattle.lexer.specs.Extent.{Extent, further}

-- `/*` and `*/`
abbrev pub opens : ℕ → ℕ → Bool
opens a b = a == byte "/" && b == byte "*"

abbrev pub closes : ℕ → ℕ → Bool
closes a b = a == byte "*" && b == byte "/"

-- up to and with the mark that closes the outermost of so many open comments; the marks are read
-- from left to right, and no two share a byte
unfoldable pub comment_extent : ℕ → List ℕ → Extent
comment_extent zero xs = record { len = 0; closed = true }
comment_extent (suc depth) [] = record { len = 0; closed = false }
comment_extent (suc depth) (a ∷ []) = record { len = 1; closed = false }
comment_extent (suc depth) (a ∷ b ∷ xs) =
    if opens a b then further 2 (comment_extent (suc (suc depth)) xs)
    else if closes a b then further 2 (comment_extent depth xs)
    else further 1 (comment_extent (suc depth) (b ∷ xs))

abbrev pub comment : ℕ → List ℕ → ℕ
comment depth xs = (comment_extent depth xs).len

abbrev pub comment_closed : ℕ → List ℕ → Bool
comment_closed depth xs = (comment_extent depth xs).closed
