-- What the loop keeps true from byte to byte.
use Rattle.std.proofs.Common.{◌≡◌, ◌-◌, ◌≤◌, length, drop}
use Rattle.text.specs.Checker.{between, progress}
use Rattle.text.proofs.Found.{found}
use Rattle.text.proofs.fit.sound_len.Given as goal

abbrev pub invariant-loop-byte : goal.invariant-loop-byte
invariant-loop-byte g l =
    let xs = g.T.Text.bytes l.text in
    let p = progress l.checker in
    (l.place ≤ length xs) × (p.taken ≤ l.place) × (found p l.place (drop l.place xs) ≡ found between 0 xs)

abbrev pub decreases-loop-byte : goal.decreases-loop-byte
decreases-loop-byte g l = length (g.T.Text.bytes l.text) - l.place
