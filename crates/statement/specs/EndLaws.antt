-- Where the statements of a text end.
use Rattle.std.specs.Prelude.{◌≡◌, ℕ, ◌+◌, ◌-◌, ◌<◌, ◌≤◌, List, length, take, Some}
use Rattle.std.specs.List.{slice_get}
use Rattle.lexer.specs.Cut.{cut}
use Rattle.lexer.specs.Laws.{border}
use Rattle.lexer.specs.declared.token.Token.{Token}
use Rattle.lexer.specs.declared.token.TokenKind.TheVariants.{Semi}
use Rattle.statement.specs.declared.Cause.{Cause}
use Rattle.statement.specs.declared.Cause.TheVariants.{Semicolon}
use Rattle.statement.specs.declared.Statement.{Statement}
use Rattle.statement.specs.Ends.{first_state}
use Rattle.statement.specs.Laws.{tokens_in}
use Rattle.statement.specs.Statements.{statements}

abbrev pub statements_of_text : List ℕ → List Statement
statements_of_text bs = statements first_state (cut bs)

-- a `;` that is a token of its own; `\;` has two bytes
abbrev pub lone_semicolon : Token
lone_semicolon = record { kind = Semi; len = 1 }

-- A place is inside a text's token if the token begins before the place and ends after it. The token is counted from 0.
pub record Inside (bs : List ℕ) (token place : ℕ) : Type 0 where
  pub begins : border bs token < place
  pub ends : place < border bs (token + 1)

-- An end that stands after a text's first `passed` tokens. There is a token before it. If a `;` is its cause, that token
-- is one, and its byte stands directly before the end. The end is inside no token: no string, quoted identifier, dollar
-- quote, comment or psql command.
pub record EndStands (bs : List ℕ) (passed : ℕ) (cause : Cause) : Type 0 where
  pub some : 0 < passed
  pub there : passed ≤ length (cut bs)
  pub semicolon : cause ≡ Semicolon → slice_get (cut bs) (passed - 1) ≡ Some lone_semicolon
  pub byte : cause ≡ Semicolon → slice_get bs (border bs passed - 1) ≡ Some 59
  pub outside : (token : ℕ) → Inside bs token (border bs passed) → ⊥

-- each statement of a text ends so, after its own tokens and those of the statements before it
abbrev pub EndsStand : Type 0
EndsStand =
    (bs : List ℕ) (k : ℕ) (s : Statement) → slice_get (statements_of_text bs) k ≡ Some s
    → EndStands bs (tokens_in (take (k + 1) (statements_of_text bs))) s.cause
