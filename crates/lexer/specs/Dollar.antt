-- What starts with a dollar sign: dollar-quoted strings and parameters. From `opens_dollar` on, the
-- bytes are those that follow the first `$`.
use Rattle.std.specs.Prelude.{ℕ, ◌+◌, ◌==◌, Bool, true, false, if◌then◌else◌, ◌&&◌, ◌||◌}
use Rattle.std.specs.Prelude.{List, [], ◌∷◌, length, take, drop}
use Rattle.lexer.specs.Byte.{byte}
use Rattle.lexer.specs.Class.{decimal, ident_start, tag_cont}
use Rattle.lexer.specs.Cursor.{identifier, leads, peek, run}
use Rattle.lexer.specs.Extent.{Extent, further}
use Rattle.lexer.specs.declared.token.LiteralKind.TheVariants.{DollarQuotedString}
use Rattle.lexer.specs.declared.token.TokenKind.TheVariants.{Literal, PositionalParam}
use Rattle.lexer.specs.declared.token.TokenKind.{TokenKind}

-- whether the second list begins with the first
unfoldable pub begins : List ℕ → List ℕ → Bool
begins [] xs = true
begins (d ∷ ds) [] = false
begins (d ∷ ds) (x ∷ xs) = d == x && begins ds xs

-- up to and with the first whole delimiter, or all there is
unfoldable pub delimited_extent : List ℕ → List ℕ → Extent
delimited_extent delimiter [] = record { len = 0; closed = false }
delimited_extent delimiter (x ∷ xs) =
    if begins delimiter (x ∷ xs) then record { len = length delimiter; closed = true }
    else further 1 (delimited_extent delimiter xs)

-- how many bytes that is
abbrev pub delimited : List ℕ → List ℕ → ℕ
delimited delimiter xs = (delimited_extent delimiter xs).len

-- whether there is a whole delimiter
abbrev pub delimited_closed : List ℕ → List ℕ → Bool
delimited_closed delimiter xs = (delimited_extent delimiter xs).closed

-- whether a tag and a `$` follow: the tag is empty or an identifier without `$`
abbrev pub opens_dollar : List ℕ → Bool
opens_dollar xs =
    peek 0 xs == byte "$" || (leads ident_start xs && peek (run tag_cont xs) xs == byte "$")

-- the bytes of the tag and of the `$` after it
abbrev pub dollar_opener : List ℕ → ℕ
dollar_opener xs = run tag_cont xs + 1

-- the delimiter: the tag between two `$`
abbrev pub dollar_delimiter : List ℕ → List ℕ
dollar_delimiter xs = byte "$" ∷ take (dollar_opener xs) xs

-- the string is what follows the opening delimiter up to and with the first delimiter
abbrev pub dollar_quoted : List ℕ → ℕ
dollar_quoted xs = dollar_opener xs + delimited (dollar_delimiter xs) (drop (dollar_opener xs) xs)

-- whether it is closed
abbrev pub dollar_closed : List ℕ → Bool
dollar_closed xs = delimited_closed (dollar_delimiter xs) (drop (dollar_opener xs) xs)

-- a parameter is digits, and what stands after them without a break is junk
abbrev pub parameter : List ℕ → ℕ
parameter xs = run decimal xs + identifier (drop (run decimal xs) xs)

-- the bytes after the `$` that belong to the token
abbrev pub dollar_len : List ℕ → ℕ
dollar_len xs = if opens_dollar xs then dollar_quoted xs else parameter xs

-- the kind of the token
abbrev pub dollar_kind : List ℕ → TokenKind
dollar_kind xs =
    if opens_dollar xs then Literal (DollarQuotedString (dollar_closed xs))
    else PositionalParam (1 + run decimal xs)
