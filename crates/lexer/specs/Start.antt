-- How a token starts: the first character decides, at times with the next ones.
use Rattle.std.specs.Prelude.{ℕ, if◌then◌else◌, ◌&&◌, List, [], ◌∷◌, ◌==◌}
use Rattle.lexer.specs.Byte.{byte}
use Rattle.lexer.specs.Class.{decimal, ident_start, whitespace}
use Rattle.lexer.specs.Number.{either_case}
use Rattle.lexer.specs.declared.quoted.Prefix.TheVariants.{Esc, Bit, Byte, National}
use Rattle.lexer.specs.declared.start.Start.TheVariants.{Blanks, Line, Block, Prefixed, UnicodeStr, UnicodeIdent, Word, Digit, Point, TwoDots, Dollar, Command, Quote, DoubleQuote, Symbol}
use Rattle.lexer.specs.declared.start.Start.{Start}
use Rattle.lexer.specs.declared.token.TokenKind.TheVariants.{And, At, Backtick, Bang, Caret, CloseBracket, CloseCurly, CloseParen, Colon, Comma, Dot, Eq, Gt, Lt, Minus, OpenBracket, OpenCurly, OpenParen, Or, Percent, Plus, Pound, Question, Semi, Slash, Star, Tilde, Unknown}
use Rattle.lexer.specs.declared.token.TokenKind.{TokenKind}

-- the kind of each byte that is a token on its own
abbrev pub symbols : List (ℕ × TokenKind)
symbols =
    (byte ";", Semi) ∷ (byte ",", Comma)
    ∷ (byte "(", OpenParen) ∷ (byte ")", CloseParen)
    ∷ (byte "[", OpenBracket) ∷ (byte "]", CloseBracket)
    ∷ (byte "{", OpenCurly) ∷ (byte "}", CloseCurly)
    ∷ (byte "@", At) ∷ (byte "#", Pound) ∷ (byte "~", Tilde) ∷ (byte "?", Question)
    ∷ (byte ":", Colon) ∷ (byte ".", Dot) ∷ (byte "/", Slash) ∷ (byte "-", Minus)
    ∷ (byte "`", Backtick) ∷ (byte "=", Eq) ∷ (byte "!", Bang)
    ∷ (byte "<", Lt) ∷ (byte ">", Gt) ∷ (byte "&", And) ∷ (byte "|", Or)
    ∷ (byte "+", Plus) ∷ (byte "*", Star) ∷ (byte "^", Caret) ∷ (byte "%", Percent)
    ∷ []

-- the kind that rows have for a byte, or `Unknown`
abbrev pub kind_under : ℕ → List (ℕ × TokenKind) → TokenKind
kind_under b [] = Unknown
kind_under b ((c, kind) ∷ rows) = if b == c then kind else kind_under b rows

-- the kinds of one character
abbrev pub symbol : ℕ → TokenKind
symbol b = kind_under b symbols

-- what starts with a byte, whatever follows it
unfoldable pub plain_start : ℕ → Start
plain_start b =
    if whitespace b then Blanks
    else if ident_start b then Word
    else if decimal b then Digit
    else if b == byte "$" then Dollar
    else if b == byte "\\" then Command
    else if b == byte "'" then Quote
    else if b == byte "\"" then DoubleQuote
    else Symbol (symbol b)

-- what starts with a byte directly before a `'`
abbrev pub quoted_start : ℕ → Start
quoted_start b =
    if either_case (byte "e") b then Prefixed Esc
    else if either_case (byte "b") b then Prefixed Bit
    else if either_case (byte "x") b then Prefixed Byte
    else if either_case (byte "n") b then Prefixed National
    else plain_start b

-- what starts with `U&`, by what follows
abbrev pub unicode_start : ℕ → Start
unicode_start b =
    if b == byte "'" then UnicodeStr
    else if b == byte "\"" then UnicodeIdent
    else Word

-- what starts with the byte `first`, where `next` and `after` follow it (0 stands past the end)
abbrev pub start_of : ℕ → ℕ → ℕ → Start
start_of first next after =
    if first == byte "/" && next == byte "*" then Block
    else if first == byte "-" && next == byte "-" then Line
    else if first == byte "." && next == byte "." then TwoDots
    else if first == byte "." && decimal next then Point
    else if either_case (byte "u") first && next == byte "&" then unicode_start after
    else if next == byte "'" then quoted_start first
    else plain_start first
