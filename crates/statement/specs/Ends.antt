-- Where a statement ends: the rule, one token at a time. Its state is one number, the depth: how many
-- parentheses are open.
use Rattle.std.specs.Prelude.{ℕ, ◌+◌, ◌-◌, min, Bool, true, false, if◌then◌else◌, not, ◌&&◌, Some, None, Option, ◌==◌}
use Rattle.std.specs.Option.{unwrap_or}
use Rattle.lexer.specs.declared.token.Token.{Token}
use Rattle.statement.specs.declared.Cause.{Cause}
use Rattle.statement.specs.declared.Cause.TheVariants.{Semicolon, Command, Last, Unterminated}
use Rattle.statement.specs.Roles.{Role, blank, plain, opening, closing, semicolon, command, role}

-- all tokens but whitespace and comments are solid
abbrev pub solid_role : Role → Bool
solid_role (blank terminated) = false
solid_role other = true

abbrev pub solid : Token → Bool
solid t = solid_role (role t.kind)

-- a token is unterminated if its kind, or its literal's, tells so
abbrev pub unterminated_role : Role → Bool
unterminated_role (blank terminated) = not terminated
unterminated_role (plain terminated) = not terminated
unterminated_role other = false

abbrev pub unterminated : Token → Bool
unterminated t = unterminated_role (role t.kind)

-- the state before the first token
abbrev pub first_state : ℕ
first_state = 0

-- The state after a token. A depth has 32 bits and stays at the largest such number; that never
-- shows, since a text has at most 16,777,216 bytes, and so at most as many tokens.
abbrev pub role_state : ℕ → Role → ℕ
role_state depth opening = min (depth + 1) 4294967295
role_state depth closing = depth - 1
role_state depth (command ends_query) = if ends_query then 0 else depth
role_state depth other = depth

abbrev pub next_state : ℕ → Token → ℕ
next_state depth t = role_state depth (role t.kind)

-- The end that stands after a token whatever follows it: after `;` where no parenthesis is open, and after a
-- command that ends a query. `\;` is a semicolon of two bytes and ends nothing.
abbrev pub role_end : ℕ → ℕ → Role → Option Cause
role_end depth len semicolon = if len == 1 && depth == 0 then Some Semicolon else None
role_end depth len (command ends_query) = if ends_query then Some Command else None
role_end depth len other = None

abbrev pub own_end : ℕ → Token → Option Cause
own_end depth t = role_end depth t.len (role t.kind)

-- the cause of the end after the last token, where the token itself puts none there
abbrev pub last_cause : Token → Cause
last_cause t = if unterminated t then Unterminated else Last

-- the end that stands after a token, which is a text's last or not
abbrev pub end_after : ℕ → Token → Bool → Option Cause
end_after depth t false = own_end depth t
end_after depth t true = Some (unwrap_or (own_end depth t) (last_cause t))
