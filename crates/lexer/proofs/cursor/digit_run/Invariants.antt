use Rattle.std.proofs.Common.{◌≡◌, ◌+◌, ◌-◌, ◌||◌, length, drop}
use Rattle.lexer.proofs.cursor.digit_run.Given as goal
use Rattle.lexer.specs.Cursor.{digit_met, digits}

abbrev pub invariant-loop-byte : goal.invariant-loop-byte
invariant-loop-byte g l =
    let xs = g.T.Text.bytes l.text in
    let digit = g.C.Class.holds l.class in
    (l.end + digits digit (drop l.end xs) ≡ l.place + digits digit (drop l.place xs))
    × ((l.met || digit_met digit (drop l.end xs)) ≡ digit_met digit (drop l.place xs))

abbrev pub decreases-loop-byte : goal.decreases-loop-byte
decreases-loop-byte g l = length (g.T.Text.bytes l.text) - l.end
