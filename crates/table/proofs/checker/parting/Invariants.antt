use Rattle.std.proofs.Common.{◌≡◌, ◌-◌, length, drop}
use Rattle.lexer.specs.Cut.{cut}
use Rattle.table.proofs.Readings.{Reading}
use Rattle.table.proofs.checker.parting.Given as goal
use Rattle.table.specs.Parting.{parting, parting_from}

abbrev pub invariant-loop-index : goal.invariant-loop-index
invariant-loop-index g l =
    let ts = cut (g.T.Text.bytes l.text) in
    Reading (g.T.Text.bytes l.text) l.place l.index
    × (parting_from l.index (drop l.index ts) (drop l.index l.tokens) ≡ parting ts l.tokens)

abbrev pub decreases-loop-index : goal.decreases-loop-index
decreases-loop-index g l = length l.tokens - l.index
