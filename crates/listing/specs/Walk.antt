-- A walk over the tokens of a text, and the lines that it writes.
use Rattle.std.specs.Prelude.{ℕ, ◌+◌, ◌-◌, ◌≤◌, if◌then◌else◌, List, [], ◌∷◌, ◌++◌, Some, None, Option, ◌==◌}
use Rattle.lexer.specs.declared.token.Token.{Token}
use Rattle.statement.specs.declared.Cause.{Cause}
use Rattle.statement.specs.Ends.{first_state, next_state, end_after, solid}
use Rattle.listing.specs.declared.lines.EndLine.{EndLine}
use Rattle.listing.specs.declared.lines.TotalLine.{TotalLine}
use Rattle.listing.specs.Lines.{token_bytes, end_bytes}

-- Where a walk stands: its place, the tokens and ends passed, the state of the rule of ends, and of the
-- statement that is open its start, its tokens and its solid ones.
pub record Walked : Type 0 where
  pub place : ℕ
  pub tokens : ℕ
  pub ends : ℕ
  pub rule : ℕ
  pub start : ℕ
  pub passed : ℕ
  pub solid : ℕ

-- before the first token
abbrev pub at_front : Walked
at_front =
    record { place = 0; tokens = 0; ends = 0; rule = first_state; start = 0; passed = 0; solid = 0 }

-- the numbers of a walk keep within the bytes it has passed
pub record Within (w : Walked) : Type 0 where
  pub start : w.start ≤ w.place
  pub tokens : w.tokens ≤ w.place
  pub ends : w.ends ≤ w.tokens
  pub passed : w.passed ≤ w.tokens
  pub solid : w.solid ≤ w.passed

-- the solid tokens of the statement so far, with one token more
abbrev pub solid_with : Walked → Token → ℕ
solid_with w t = w.solid + (if solid t then 1 else 0)

-- the line of a statement that ends after a token
abbrev pub end_line : Walked → Token → Cause → EndLine
end_line w t cause =
    record {
      start = w.start;
      len = w.place + t.len - w.start;
      cause = cause;
      tokens = w.passed + 1;
      solid = solid_with w t;
    }

-- past a token, after which a statement ends or goes on
abbrev pub past : Walked → Token → Option Cause → Walked
past w t None =
    record {
      place = w.place + t.len;
      tokens = w.tokens + 1;
      ends = w.ends;
      rule = next_state w.rule t;
      start = w.start;
      passed = w.passed + 1;
      solid = solid_with w t;
    }
past w t (Some cause) =
    record {
      place = w.place + t.len;
      tokens = w.tokens + 1;
      ends = w.ends + 1;
      rule = next_state w.rule t;
      start = w.place + t.len;
      passed = 0;
      solid = 0;
    }

-- the whole text, once all its tokens are passed
abbrev pub total_line : Walked → TotalLine
total_line w = record { bytes = w.place; tokens = w.tokens; ends = w.ends }

-- A token is a text's last if it ends where the text does. `size` is the text's length in bytes.
abbrev pub end_there : ℕ → Walked → Token → Option Cause
end_there size w t = end_after w.rule t (w.place + t.len == size)

abbrev pub walked : ℕ → Walked → List Token → Walked
walked size w [] = w
walked size w (t ∷ ts) = walked size (past w t (end_there size w t)) ts

-- a token's line, and after it the end's, if a statement ends there
abbrev pub lines_of_end : Walked → Token → Option Cause → List ℕ
lines_of_end w t None = []
lines_of_end w t (Some cause) = end_bytes (end_line w t cause)

abbrev pub lines_of_token : ℕ → Walked → Token → List ℕ
lines_of_token size w t =
    token_bytes (record { place = w.place; token = t }) ++ lines_of_end w t (end_there size w t)
