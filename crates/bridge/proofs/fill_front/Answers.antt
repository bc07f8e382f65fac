-- What was copied, and the room after it.
use Rattle.bridge.proofs.Fills.{filled_by_shorter}
use Rattle.bridge.proofs.fill_front.Goals as goal
use Rattle.std.proofs.Common.{◌-◌, ◌++◌, take, drop, ap, ◌∙◌}
use native.Mathlib.Nat.{sub-zero}

pub returns : goal.returns
returns c =
    let shorter = filled_by_shorter c.args.bytes.now c.args.out.now c.min-count.result c.min-count.ensures in
    ap (λ front. front ++ drop (c.min-count.result - 0) c.args.out.now) c.copy_from_slice.ensures.after ∙ ap (λ n. take n c.args.bytes.now ++ drop n c.args.out.now) (sub-zero c.min-count.result) ∙ shorter
