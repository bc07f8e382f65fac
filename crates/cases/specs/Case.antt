-- A worked case: a text, its tokens with all their fields, and where its statements end.
use Rattle.std.specs.Prelude.{◌≡◌, ℕ, ◌+◌, List, [], ◌∷◌, take, drop}
use Rattle.lexer.specs.Cut.{cut, lengths}
use Rattle.lexer.specs.declared.token.Token.{Token}
use Rattle.statement.specs.Ends.{first_state}
use Rattle.statement.specs.Statements.{statements}
use Rattle.statement.specs.declared.Cause.{Cause}
use Rattle.statement.specs.declared.Statement.{Statement}

-- the places where statements of tokens end, from a place on, each with its cause
abbrev pub ends_on : ℕ → List Token → List Statement → List (ℕ × Cause)
ends_on place ts [] = []
ends_on place ts (s ∷ ss) =
    let end = place + lengths (take s.tokens ts) in
    (end, s.cause) ∷ ends_on end (drop s.tokens ts) ss

abbrev pub ends_of : List ℕ → List (ℕ × Cause)
ends_of bs = ends_on 0 (cut bs) (statements first_state (cut bs))

pub record Case : Type 0 where
  pub text : List ℕ
  pub tokens : List Token
  pub ends : List (ℕ × Cause)

-- a case stands if its text has the tokens and the ends that it says
pub record Stands (c : Case) : Type 0 where
  pub cut_is : cut c.text ≡ c.tokens
  pub ends_are : ends_of c.text ≡ c.ends

abbrev pub AllStand : List Case → Type 0
AllStand [] = Unit {0}
AllStand (c ∷ cs) = Stands c × AllStand cs
