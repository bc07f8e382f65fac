-- Whole tokens: what starts with a byte, and the list of bytes that follow it.
use Rattle.std.specs.Prelude.{ℕ, ◌+◌, Bool, true, false, if◌then◌else◌, ◌&&◌, List, [], ◌∷◌, length, drop, Some, None, Option, ◌==◌, nat_lt}
use Rattle.lexer.specs.Byte.{byte}
use Rattle.lexer.specs.Class.{all_but, ident_cont, whitespace}
use Rattle.lexer.specs.Comment.{comment, comment_closed}
use Rattle.lexer.specs.Cursor.{peek, run}
use Rattle.lexer.specs.Dollar.{dollar_kind, dollar_len}
use Rattle.lexer.specs.Number.{fractional, fractional_len, number, number_len}
use Rattle.lexer.specs.Psql.{psql_kind, psql_len}
use Rattle.lexer.specs.Quoted.{has_escapes, prefix_literal, quoted, quoted_closed}
use Rattle.lexer.specs.Start.{start_of}
use Rattle.lexer.specs.declared.quoted.Prefix.TheVariants.{UnicodeEsc}
use Rattle.lexer.specs.declared.start.Start.TheVariants.{Blanks, Line, Block, Prefixed, UnicodeStr, UnicodeIdent, Word, Digit, Point, TwoDots, Dollar, Command, Quote, DoubleQuote, Symbol}
use Rattle.lexer.specs.declared.start.Start.{Start}
use Rattle.lexer.specs.declared.token.LiteralKind.TheVariants.{Str}
use Rattle.lexer.specs.declared.token.Token.{Token}
use Rattle.lexer.specs.declared.token.TokenKind.TheVariants.{BlockComment, DotDot, Eof, Ident, LineComment, Literal, QuotedIdent, Whitespace}
use Rattle.lexer.specs.declared.token.TokenKind.{TokenKind}

-- the kind of a token that starts so with the byte `first`, where `xs` follows it
abbrev pub kind_of : Start → ℕ → List ℕ → TokenKind
kind_of Blanks first xs = Whitespace
kind_of Line first xs = LineComment
kind_of Block first xs = BlockComment (comment_closed 1 (drop 1 xs))
kind_of (Prefixed prefix) first xs =
    Literal (prefix_literal prefix (quoted_closed (byte "'") (has_escapes prefix) (drop 1 xs)))
kind_of UnicodeStr first xs =
    Literal (prefix_literal UnicodeEsc (quoted_closed (byte "'") false (drop 2 xs)))
kind_of UnicodeIdent first xs = QuotedIdent (quoted_closed (byte "\"") false (drop 2 xs)) true
kind_of Word first xs = Ident
kind_of Digit first xs = Literal (number first 1 xs)
kind_of Point first xs = Literal (fractional 1 xs)
kind_of TwoDots first xs = DotDot
kind_of Dollar first xs = dollar_kind xs
kind_of Command first xs = psql_kind xs
kind_of Quote first xs = Literal (Str (quoted_closed (byte "'") false xs))
kind_of DoubleQuote first xs = QuotedIdent (quoted_closed (byte "\"") false xs) false
kind_of (Symbol kind) first xs = kind

-- how many bytes of it follow the first
abbrev pub rest_len : Start → ℕ → List ℕ → ℕ
rest_len Blanks first xs = run whitespace xs
rest_len Line first xs = 1 + run (all_but 10 13) (drop 1 xs)
rest_len Block first xs = 1 + comment 1 (drop 1 xs)
rest_len (Prefixed prefix) first xs = 1 + quoted (byte "'") (has_escapes prefix) (drop 1 xs)
rest_len UnicodeStr first xs = 2 + quoted (byte "'") false (drop 2 xs)
rest_len UnicodeIdent first xs = 2 + quoted (byte "\"") false (drop 2 xs)
rest_len Word first xs = run ident_cont xs
rest_len Digit first xs = number_len first xs
rest_len Point first xs = fractional_len xs
rest_len TwoDots first xs = 1
rest_len Dollar first xs = dollar_len xs
rest_len Command first xs = psql_len xs
rest_len Quote first xs = quoted (byte "'") false xs
rest_len DoubleQuote first xs = quoted (byte "\"") false xs
rest_len (Symbol kind) first xs = 0

-- how a token starts whose first byte is given, and those that follow it
abbrev pub start_with : ℕ → List ℕ → Start
start_with first xs = start_of first (peek 0 xs) (peek 1 xs)

-- the token that begins with a byte, where `xs` follows it
unfoldable pub lex : ℕ → List ℕ → Token
lex first xs =
    let start = start_with first xs in
    record { kind = kind_of start first xs; len = 1 + rest_len start first xs }

-- the token at the front of a list; of none, the end
abbrev pub token_from : List ℕ → Token
token_from [] = record { kind = Eof; len = 0 }
token_from (x ∷ xs) = lex x xs

-- whether a text starts with a byte-order mark
abbrev pub marked : List ℕ → Bool
marked xs = peek 0 xs == 239 && (peek 1 xs == 187 && peek 2 xs == 191)

-- the token at a place of a text: a byte-order mark at the very start is whitespace of its own
abbrev pub token_at : List ℕ → ℕ → Option Token
token_at xs place =
    if place == 0 && marked xs then Some record { kind = Whitespace; len = 3 }
    else if nat_lt place (length xs) then Some (token_from (drop place xs)) else None
