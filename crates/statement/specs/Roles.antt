-- What a token is to the rule of ends, by its kind alone.
use Rattle.std.specs.Prelude.{Bool, true}
use Rattle.lexer.specs.declared.token.LiteralKind.{LiteralKind}
use Rattle.lexer.specs.declared.token.LiteralKind.TheVariants.{Int, Numeric, Str, NationalStr, ByteStr, BitStr, DollarQuotedString, UnicodeEscStr, EscStr}
use Rattle.lexer.specs.declared.token.TokenKind.{TokenKind}
use Rattle.lexer.specs.declared.token.TokenKind.TheVariants.{Literal, Whitespace, LineComment, BlockComment, PsqlCommand, Semi, OpenParen, CloseParen, QuotedIdent}

-- A token is blank (whitespace or a comment), a mark of the rule, or plain. Blank and plain tokens
-- say whether they are terminated; a psql command says whether it ends a query.
pub data Role : Type 0 where
  blank : Bool → Role
  plain : Bool → Role
  opening : Role
  closing : Role
  semicolon : Role
  command : Bool → Role

-- a number has no end mark that could be missing
abbrev pub literal_role : LiteralKind → Role
literal_role (Int base empty junk) = plain true
literal_role (Numeric exponent junk) = plain true
literal_role (Str terminated) = plain terminated
literal_role (NationalStr terminated) = plain terminated
literal_role (ByteStr terminated) = plain terminated
literal_role (BitStr terminated) = plain terminated
literal_role (DollarQuotedString terminated) = plain terminated
literal_role (UnicodeEscStr terminated) = plain terminated
literal_role (EscStr terminated) = plain terminated

abbrev pub role : TokenKind → Role
role (Literal kind) = literal_role kind
role Whitespace = blank true
role LineComment = blank true
role (BlockComment terminated) = blank terminated
role (PsqlCommand ends_query) = command ends_query
role Semi = semicolon
role OpenParen = opening
role CloseParen = closing
role (QuotedIdent terminated uescape) = plain terminated
role other = plain true
