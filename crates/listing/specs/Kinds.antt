-- The kinds of tokens as words: their names and their fields.
use Rattle.std.specs.Prelude.{ℕ, if◌then◌else◌, Bool, List, ◌++◌, Some, None, codes, decimal}
use Rattle.lexer.specs.Token.{base_number}
use Rattle.lexer.specs.declared.token.LiteralKind.{LiteralKind}
use Rattle.lexer.specs.declared.token.LiteralKind.TheVariants.{Int, Numeric, Str, NationalStr, ByteStr, BitStr, DollarQuotedString, UnicodeEscStr, EscStr}
use Rattle.lexer.specs.declared.token.TokenKind.{TokenKind}
use Rattle.lexer.specs.declared.token.TokenKind.TheVariants.{Unknown, Literal, Whitespace, Ident, PsqlCommand, Semi, Eof, Slash, LineComment, BlockComment, Minus, Colon, Dot, DotDot, Eq, Gt, And, Lt, Bang, Plus, Tilde, Pound, Question, Or, Percent, Caret, Star, Backtick, At, CloseBracket, OpenBracket, CloseCurly, OpenCurly, CloseParen, OpenParen, Comma, PositionalParam, QuotedIdent}

-- a field stands after a blank: a number in decimal, yes as 1, no as 0, an absent number as `-`
abbrev pub number : ℕ → List ℕ
number n = codes " " ++ decimal n

abbrev pub flag : Bool → List ℕ
flag set = if set then codes " 1" else codes " 0"

-- the name of a literal's kind and its fields, in the order of their declaration
abbrev pub literal_bytes : LiteralKind → List ℕ
literal_bytes (Int base empty junk) =
    codes "Int" ++ number (base_number base) ++ flag empty ++ number junk
literal_bytes (Numeric (Some start) junk) = codes "Numeric" ++ number start ++ number junk
literal_bytes (Numeric None junk) = codes "Numeric" ++ codes " -" ++ number junk
literal_bytes (Str terminated) = codes "Str" ++ flag terminated
literal_bytes (NationalStr terminated) = codes "NationalStr" ++ flag terminated
literal_bytes (ByteStr terminated) = codes "ByteStr" ++ flag terminated
literal_bytes (BitStr terminated) = codes "BitStr" ++ flag terminated
literal_bytes (DollarQuotedString terminated) = codes "DollarQuotedString" ++ flag terminated
literal_bytes (UnicodeEscStr terminated) = codes "UnicodeEscStr" ++ flag terminated
literal_bytes (EscStr terminated) = codes "EscStr" ++ flag terminated

-- the same of a token's kind; a literal goes by its own kind
abbrev pub kind_bytes : TokenKind → List ℕ
kind_bytes Unknown = codes "Unknown"
kind_bytes (Literal kind) = literal_bytes kind
kind_bytes Whitespace = codes "Whitespace"
kind_bytes Ident = codes "Ident"
kind_bytes (PsqlCommand ends_query) = codes "PsqlCommand" ++ flag ends_query
kind_bytes Semi = codes "Semi"
kind_bytes Eof = codes "Eof"
kind_bytes Slash = codes "Slash"
kind_bytes LineComment = codes "LineComment"
kind_bytes (BlockComment terminated) = codes "BlockComment" ++ flag terminated
kind_bytes Minus = codes "Minus"
kind_bytes Colon = codes "Colon"
kind_bytes Dot = codes "Dot"
kind_bytes DotDot = codes "DotDot"
kind_bytes Eq = codes "Eq"
kind_bytes Gt = codes "Gt"
kind_bytes And = codes "And"
kind_bytes Lt = codes "Lt"
kind_bytes Bang = codes "Bang"
kind_bytes Plus = codes "Plus"
kind_bytes Tilde = codes "Tilde"
kind_bytes Pound = codes "Pound"
kind_bytes Question = codes "Question"
kind_bytes Or = codes "Or"
kind_bytes Percent = codes "Percent"
kind_bytes Caret = codes "Caret"
kind_bytes Star = codes "Star"
kind_bytes Backtick = codes "Backtick"
kind_bytes At = codes "At"
kind_bytes CloseBracket = codes "CloseBracket"
kind_bytes OpenBracket = codes "OpenBracket"
kind_bytes CloseCurly = codes "CloseCurly"
kind_bytes OpenCurly = codes "OpenCurly"
kind_bytes CloseParen = codes "CloseParen"
kind_bytes OpenParen = codes "OpenParen"
kind_bytes Comma = codes "Comma"
kind_bytes (PositionalParam junk) = codes "PositionalParam" ++ number junk
kind_bytes (QuotedIdent terminated uescape) = codes "QuotedIdent" ++ flag terminated ++ flag uescape
