-- How deep in parentheses the rule of ends stands.
use Rattle.std.specs.Prelude.{ℕ}
use Rattle.statement.specs.declared.Ends.{Ends}

-- how many parentheses are open
abbrev pub depth : Ends → ℕ
depth ends = ends.depth
