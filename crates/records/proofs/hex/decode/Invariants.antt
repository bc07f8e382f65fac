-- The bytes so far, before those of the digits that are left, are the bytes of all digits.
use Rattle.std.proofs.Common.{◌≡◌, length, vec_items}
use Rattle.records.proofs.Digits.{bytes_before}
use Rattle.records.proofs.hex.decode.Given as goal
use Rattle.records.specs.Hex.{decoded}

abbrev pub invariant-loop-rest : goal.invariant-loop-rest
invariant-loop-rest l = bytes_before (vec_items l.bytes) (decoded l.rest) ≡ decoded l.digits

abbrev pub decreases-loop-rest : goal.decreases-loop-rest
decreases-loop-rest l = length l.rest
