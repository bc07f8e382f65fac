-- What the parts of a token stand for.
use Rattle.std.specs.Prelude.{ℕ, Bool, true, false}
use Rattle.lexer.specs.declared.token.Base.{Base}
use Rattle.lexer.specs.declared.token.TokenKind.{TokenKind}
use Rattle.lexer.specs.declared.token.TokenKind.TheVariants.{Eof}
use Rattle.lexer.specs.declared.token.Base.TheVariants.{Binary, Octal, Decimal, Hexadecimal}

-- the base of a whole number: how many digits there are to write it with
abbrev pub base_number : Base → ℕ
base_number Binary = 2
base_number Octal = 8
base_number Decimal = 10
base_number Hexadecimal = 16

-- the end of the text, which is never handed out
abbrev pub is_eof : TokenKind → Bool
is_eof Eof = true
is_eof kind = false
