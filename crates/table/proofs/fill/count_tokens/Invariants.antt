use Rattle.std.proofs.Common.{◌-◌, length}
use Rattle.table.proofs.Readings.{Reading}
use Rattle.table.proofs.fill.count_tokens.Given as goal

abbrev pub invariant-loop-token : goal.invariant-loop-token
invariant-loop-token g l = Reading (g.T.Text.bytes l.text) l.place l.count

abbrev pub decreases-loop-token : goal.decreases-loop-token
decreases-loop-token g l = length (g.T.Text.bytes l.text) - l.place
