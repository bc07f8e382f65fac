use Rattle.std.proofs.Common.{◌≡◌, ◌-◌, ◌≤◌, length, string_bytes}
use Rattle.listing.proofs.Walks.{Walking}
use Rattle.listing.proofs.list_tokens.Given as goal

abbrev pub invariant-loop-token : goal.invariant-loop-token
invariant-loop-token g l =
    (l.size ≡ length (g.T.Text.bytes l.text))
    × (l.walk.place ≤ l.size)
    × Walking (g.T.Text.bytes l.text) l.size l.walk (string_bytes l.lines)

abbrev pub decreases-loop-token : goal.decreases-loop-token
decreases-loop-token g l = l.size - l.walk.place
