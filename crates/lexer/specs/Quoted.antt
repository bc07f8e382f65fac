-- Quoted strings and names: how far one reaches after its opening quote, and whether it is closed.
use Rattle.std.specs.Prelude.{ℕ, Bool, true, false, if◌then◌else◌, ◌&&◌, List, [], ◌∷◌, ◌==◌}
use Rattle.lexer.specs.Class.{backslash}
use Rattle.lexer.specs.Extent.{Extent, further}
use Rattle.lexer.specs.declared.quoted.Prefix.TheVariants.{Esc, Bit, Byte, National, UnicodeEsc}
use Rattle.lexer.specs.declared.quoted.Prefix.{Prefix}
use Rattle.lexer.specs.declared.token.LiteralKind.TheVariants.{BitStr, ByteStr, EscStr, NationalStr, UnicodeEscStr}
use Rattle.lexer.specs.declared.token.LiteralKind.{LiteralKind}

-- up to and with the closing quote: two quotes stand for one in the body, and where there are
-- escapes a backslash takes the next character
unfoldable pub quoted_extent : ℕ → Bool → List ℕ → Extent
quoted_extent quote escapes [] = record { len = 0; closed = false }
quoted_extent quote escapes (x ∷ []) = record { len = 1; closed = x == quote }
quoted_extent quote escapes (x ∷ y ∷ xs) =
    if x == quote && y == quote then further 2 (quoted_extent quote escapes xs)
    else if x == quote then record { len = 1; closed = true }
    else if escapes && backslash x then further 2 (quoted_extent quote escapes xs)
    else further 1 (quoted_extent quote escapes (y ∷ xs))

-- the bytes up to and with the closing quote, or all there are
abbrev pub quoted : ℕ → Bool → List ℕ → ℕ
quoted quote escapes xs = (quoted_extent quote escapes xs).len

-- whether there is a closing quote
abbrev pub quoted_closed : ℕ → Bool → List ℕ → Bool
quoted_closed quote escapes xs = (quoted_extent quote escapes xs).closed

-- only an escape string has escapes
abbrev pub has_escapes : Prefix → Bool
has_escapes Esc = true
has_escapes prefix = false

-- the constant that a prefix makes of a string
abbrev pub prefix_literal : Prefix → Bool → LiteralKind
prefix_literal Esc terminated = EscStr terminated
prefix_literal Bit terminated = BitStr terminated
prefix_literal Byte terminated = ByteStr terminated
prefix_literal National terminated = NationalStr terminated
prefix_literal UnicodeEsc terminated = UnicodeEscStr terminated
