use Rattle.std.proofs.Common.{◌≡◌, ◌+◌, ◌-◌, length, drop}
use Rattle.lexer.proofs.cursor.run_end.Given as goal
use Rattle.lexer.specs.Cursor.{run}

abbrev pub invariant-loop-end : goal.invariant-loop-end
invariant-loop-end g l =
    let xs = g.T.Text.bytes l.text in
    let class = g.C.Class.holds l.class in
    l.end + run class (drop l.end xs) ≡ l.place + run class (drop l.place xs)

abbrev pub decreases-loop-end : goal.decreases-loop-end
decreases-loop-end g l = length (g.T.Text.bytes l.text) - l.end
