-- Why a statement ends where it does.
use Rattle.std.specs.Prelude.{ℕ}
use Rattle.statement.specs.declared.Cause.{Cause}
use Rattle.statement.specs.declared.Cause.TheVariants.{Semicolon, Command, Last, Unterminated}

-- the number by which a cause is known
abbrev pub cause_number : Cause → ℕ
cause_number Semicolon = 1
cause_number Command = 2
cause_number Last = 3
cause_number Unterminated = 4
