-- The only kind with the role of a semicolon.
use Rattle.std.proofs.Common.{◌≡◌, refl}
use Rattle.lexer.specs.declared.token.LiteralKind.{LiteralKind}
use Rattle.lexer.specs.declared.token.LiteralKind.TheVariants.{Int}
use Rattle.lexer.specs.declared.token.TokenKind.{TokenKind}
use Rattle.lexer.specs.declared.token.TokenKind.TheVariants.{Literal, Semi}
use Rattle.statement.specs.Roles.{Role, literal_role, role, semicolon}

-- a fact that is asked of semicolons only
abbrev pub OfSemicolon : Type 0 → Role → Type 0
OfSemicolon A semicolon = A
OfSemicolon A other = Unit {0}

-- no literal is one
literal_none : (A : Type 0) (k : LiteralKind) → OfSemicolon A (literal_role k)
literal_none A (Int base empty junk) = tt
literal_none A other = tt

pub semicolon_kind : (k : TokenKind) → OfSemicolon (k ≡ Semi) (role k)
semicolon_kind Semi = refl
semicolon_kind (Literal k) = literal_none (Literal k ≡ Semi) k
semicolon_kind other = tt
