use Rattle.std.proofs.Common.{◌≡◌, ◌+◌, ◌-◌, length, drop}
use Rattle.lexer.proofs.psql_arg.arguments_end.Given as goal
use Rattle.lexer.specs.PsqlArg.{arguments}
use Rattle.lexer.specs.declared.psql_arg.ArgState.TheVariants.{Outside}

abbrev pub invariant-loop-byte : goal.invariant-loop-byte
invariant-loop-byte g l =
    let xs = g.T.Text.bytes l.text in
    l.end + arguments l.state (drop l.end xs) ≡ l.place + arguments Outside (drop l.place xs)

abbrev pub decreases-loop-byte : goal.decreases-loop-byte
decreases-loop-byte g l = length (g.T.Text.bytes l.text) - l.end
