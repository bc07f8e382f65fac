-- What holds of the statements of any list of tokens.
use Rattle.std.specs.Prelude.{◌≡◌, ℕ, ◌+◌, ◌≤◌, Bool, false, List, [], ◌∷◌, ◌++◌, length, Some}
use Rattle.lexer.specs.declared.token.Token.{Token}
use Rattle.statement.specs.declared.Statement.{Statement}
use Rattle.lexer.specs.declared.token.TokenKind.TheVariants.{Semi}
use Rattle.statement.specs.declared.Cause.TheVariants.{Semicolon}
use Rattle.statement.specs.Roles.{Role, opening, closing, command, role}
use Rattle.statement.specs.Ends.{first_state, own_end}
use Rattle.statement.specs.Statements.{state_after, solids, statements}

abbrev pub tokens_in : List Statement → ℕ
tokens_in [] = 0
tokens_in (s ∷ ss) = s.tokens + tokens_in ss

abbrev pub solids_in : List Statement → ℕ
solids_in [] = 0
solids_in (s ∷ ss) = s.solid + solids_in ss

-- Every token is in one statement, so the last end stands after the last token, and tokens have a statement.
pub record SharedOut (ts : List Token) (ss : List Statement) : Type 0 where
  pub all : tokens_in ss ≡ length ts
  pub solid : solids_in ss ≡ solids ts

abbrev pub Shared : Type 0
Shared = (state : ℕ) (ts : List Token) → SharedOut ts (statements state ts)

-- what a token adds to the opening and to the closing parentheses, and whether it ends a query
abbrev pub opens : Role → ℕ
opens opening = 1
opens other = 0

abbrev pub closes : Role → ℕ
closes closing = 1
closes other = 0

abbrev pub ends_query : Role → Bool
ends_query (command ends) = ends
ends_query other = false

abbrev pub openings : List Token → ℕ
openings [] = 0
openings (t ∷ ts) = opens (role t.kind) + openings ts

abbrev pub closings : List Token → ℕ
closings [] = 0
closings (t ∷ ts) = closes (role t.kind) + closings ts

-- none of the tokens ends a query
abbrev pub Unbroken : List Token → Type 0
Unbroken [] = Unit {0}
Unbroken (t ∷ ts) = (ends_query (role t.kind) ≡ false) × Unbroken ts

-- At most k parentheses are left open: every unbroken stretch at the end of the list has at most k more
-- opening than closing ones.
abbrev pub OpenAtMost : ℕ → List Token → Type 0
OpenAtMost k ts =
    (front back : List Token) → front ++ back ≡ ts → Unbroken back
    → openings back ≤ closings back + k

-- The depth is how many parentheses are left open, in any list of fewer than 2 ^ 32 tokens.
abbrev pub DepthCounts : Type 0
DepthCounts =
    (ts : List Token) (k : ℕ) → length ts ≤ 4294967295
    → (state_after first_state ts ≤ k → OpenAtMost k ts)
    × (OpenAtMost k ts → state_after first_state ts ≤ k)

-- A `;` ends a statement exactly where no parenthesis before it is left open.
abbrev pub SemicolonEnds : Type 0
SemicolonEnds =
    (ts : List Token) (t : Token) → length ts ≤ 4294967295 → t.kind ≡ Semi → t.len ≡ 1
    → (own_end (state_after first_state ts) t ≡ Some Semicolon → OpenAtMost 0 ts)
    × (OpenAtMost 0 ts → own_end (state_after first_state ts) t ≡ Some Semicolon)
