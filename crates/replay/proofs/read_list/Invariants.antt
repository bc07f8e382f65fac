-- The buffer keeps its length.
use Rattle.replay.proofs.read_list.Given as goal
use Rattle.std.proofs.Common.{◌≡◌, length}

abbrev pub invariant-loop : goal.invariant-loop
invariant-loop l = length l.buffer ≡ 4096
