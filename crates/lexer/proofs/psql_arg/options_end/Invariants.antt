use Rattle.std.proofs.Common.{None, ◌≡◌, ◌+◌, ◌-◌, ◌≤◌, length, drop}
use Rattle.lexer.proofs.psql_arg.options_end.Given as goal
use Rattle.lexer.specs.PsqlArg.{options}
use Rattle.lexer.specs.declared.psql_arg.ArgState.TheVariants.{Outside}

abbrev pub invariant-loop-byte : goal.invariant-loop-byte
invariant-loop-byte g l =
    let xs = g.T.Text.bytes l.text in
    (l.initial.end ≤ l.end)
    × (l.end + options l.state l.last (drop l.end xs) ≡ l.place + options Outside None (drop l.place xs))

abbrev pub decreases-loop-byte : goal.decreases-loop-byte
decreases-loop-byte g l = length (g.T.Text.bytes l.text) - l.end

abbrev pub invariant-options : goal.invariant-options
invariant-options g l =
    let xs = g.T.Text.bytes l.text in
    l.end + options Outside None (drop l.end xs) ≡ l.place + options Outside None (drop l.place xs)

abbrev pub decreases-options : goal.decreases-options
decreases-options g l = length (g.T.Text.bytes l.text) - l.end
