-- The worked cases.
use Rattle.std.specs.Prelude.{ℕ, true, false, List, [], ◌∷◌, Some, codes}
use Rattle.cases.specs.Case.{Case}
use Rattle.lexer.specs.declared.token.Base.TheVariants.{Binary, Decimal}
use Rattle.lexer.specs.declared.token.LiteralKind.TheVariants.{DollarQuotedString, EscStr, Int, Numeric, Str}
use Rattle.lexer.specs.declared.token.Token.{Token}
use Rattle.lexer.specs.declared.token.TokenKind.TheVariants.{BlockComment, CloseParen, DotDot, Ident, Literal, OpenParen, Plus, PositionalParam, PsqlCommand, Semi, Whitespace}
use Rattle.lexer.specs.declared.token.TokenKind.{TokenKind}
use Rattle.statement.specs.declared.Cause.TheVariants.{Semicolon, Command, Last, Unterminated}
use Rattle.statement.specs.declared.Cause.{Cause}

abbrev token : TokenKind → ℕ → Token
token kind len = record { kind = kind; len = len }

abbrev case : List ℕ → List Token → List (ℕ × Cause) → Case
case text tokens ends = record { text = text; tokens = tokens; ends = ends }

-- a text of one token, which has the last end
abbrev alone : List ℕ → TokenKind → ℕ → Cause → Case
alone text kind len cause = case text (token kind len ∷ []) ((len, cause) ∷ [])

abbrev pub worked : List Case
worked =
    case [] [] []
    ∷ case (239 ∷ 187 ∷ 191 ∷ 32 ∷ [])
    (token Whitespace 3 ∷ token Whitespace 1 ∷ []) ((4, Last) ∷ [])
    ∷ case (codes "1e+")
    (token (Literal (Numeric (Some 1) 2)) 2 ∷ token Plus 1 ∷ []) ((3, Last) ∷ [])
    ∷ alone (codes "0b29") (Literal (Int Binary false 4)) 4 Last
    ∷ case (codes "1..10")
    (token (Literal (Int Decimal false 1)) 1 ∷ token DotDot 2
    ∷ token (Literal (Int Decimal false 2)) 2 ∷ []) ((5, Last) ∷ [])
    ∷ alone (codes "/*/") (BlockComment false) 3 Unterminated
    ∷ alone (codes "/*/**/*/") (BlockComment true) 8 Last
    ∷ alone (codes "$a$x$ab$y$a$") (Literal (DollarQuotedString true)) 12 Last
    ∷ alone (codes "$a$a$") (Literal (DollarQuotedString false)) 5 Unterminated
    ∷ alone (codes "$1a$") (PositionalParam 2) 4 Last
    ∷ alone (codes "E'\\''") (Literal (EscStr true)) 5 Last
    ∷ alone (codes "'\\''") (Literal (Str false)) 4 Unterminated
    ∷ alone (codes "\\g (a) |x\\d") (PsqlCommand true) 11 Command
    ∷ case (codes "a(;)b;c")
    (token Ident 1 ∷ token OpenParen 1 ∷ token Semi 1 ∷ token CloseParen 1
    ∷ token Ident 1 ∷ token Semi 1 ∷ token Ident 1 ∷ []) ((6, Semicolon) ∷ (7, Last) ∷ [])
    ∷ case (codes "a\\;b;")
    (token Ident 1 ∷ token Semi 2 ∷ token Ident 1 ∷ token Semi 1 ∷ []) ((5, Semicolon) ∷ [])
    ∷ []
