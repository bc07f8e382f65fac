-- What was passed and the rest of the lines make the lines.
use Rattle.std.proofs.Common.{◌≡◌, ◌+◌, true, drop}
use Rattle.records.proofs.record.lines_end.Given as goal
use Rattle.records.specs.Record.{lines_length}

abbrev pub invariant-loop-place : goal.invariant-loop-place
invariant-loop-place l = l.place + lines_length l.starts (drop l.place l.bytes) ≡ lines_length true l.bytes
