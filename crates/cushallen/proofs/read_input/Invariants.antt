use Rattle.std.proofs.Common.{◌≡◌, ◌-◌, ◌≤◌, length, vec_len}
use Rattle.cushallen.proofs.Kept.{Kept}
use Rattle.cushallen.proofs.read_input.Given as goal

abbrev pub invariant-loop-chunk : goal.invariant-loop-chunk
invariant-loop-chunk g l =
    record {
      whole : length l.chunk ≡ 4096;
      bounded : vec_len l.input ≤ 65537;
      kept : Kept 65537 (g.R.Read.remaining l.fn.reader) (g.R.Read.remaining l.reader) l.input.items;
    }

abbrev pub decreases-loop-chunk : goal.decreases-loop-chunk
decreases-loop-chunk g l = 65537 - vec_len l.input
