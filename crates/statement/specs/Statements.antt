-- The statements of a list of tokens.
use Rattle.std.specs.Prelude.{ℕ, ◌+◌, if◌then◌else◌, List, [], ◌∷◌, length, Some, None, Option, ◌==◌}
use Rattle.lexer.specs.declared.token.Token.{Token}
use Rattle.statement.specs.declared.Cause.{Cause}
use Rattle.statement.specs.declared.Statement.{Statement}
use Rattle.statement.specs.Ends.{solid, next_state, end_after}

-- the rule's state after a list of tokens
abbrev pub state_after : ℕ → List Token → ℕ
state_after state [] = state
state_after state (t ∷ ts) = state_after (next_state state t) ts

-- how many tokens of a list are solid
abbrev pub solids : List Token → ℕ
solids [] = 0
solids (t ∷ ts) = (if solid t then 1 else 0) + solids ts

-- one thing where a statement goes on, another where it ends
abbrev pub by_end : {A : Type 0} → Option Cause → A → (Cause → A) → A
by_end None goes_on ends = goes_on
by_end (Some cause) goes_on ends = ends cause

-- The statements of the tokens to come, from the rule's state and what was passed of the first of them: its
-- tokens and its solid tokens. A statement goes up to the next end; the list's last token is the text's.
abbrev pub statements_on : ℕ → ℕ → ℕ → List Token → List Statement
statements_on state passed met [] = []
statements_on state passed met (t ∷ ts) =
    let solids_met = met + (if solid t then 1 else 0) in
    by_end (end_after state t (length ts == 0))
    (statements_on (next_state state t) (passed + 1) solids_met ts)
    (λ cause. record { tokens = passed + 1; solid = solids_met; cause = cause }
    ∷ statements_on (next_state state t) 0 0 ts)

abbrev pub statements : ℕ → List Token → List Statement
statements state ts = statements_on state 0 0 ts

-- how many tokens a statement has, none if there is no statement
abbrev pub tokens_of : Option Statement → ℕ
tokens_of None = 0
tokens_of (Some s) = s.tokens
