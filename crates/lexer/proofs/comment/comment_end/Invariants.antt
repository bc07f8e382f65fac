use Rattle.std.proofs.Common.{◌≡◌, ◌+◌, ◌-◌, ◌<◌, ◌≤◌, length, drop}
use Rattle.lexer.proofs.comment.comment_end.Given as goal
use Rattle.lexer.specs.Comment.{comment, comment_closed}

abbrev pub invariant-loop-byte : goal.invariant-loop-byte
invariant-loop-byte g l =
    let xs = g.T.Text.bytes l.text in
    record {
      some_open : 0 < l.depth;
      shallow : l.depth ≤ l.end + 1;
      end : l.end + comment l.depth (drop l.end xs) ≡ l.place + comment 1 (drop l.place xs);
      closed : comment_closed l.depth (drop l.end xs) ≡ comment_closed 1 (drop l.place xs);
    }

abbrev pub decreases-loop-byte : goal.decreases-loop-byte
decreases-loop-byte g l = length (g.T.Text.bytes l.text) - l.end
