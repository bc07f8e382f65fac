use Rattle.std.proofs.Common.{◌≡◌, ◌+◌, ◌-◌, length, drop}
use Rattle.lexer.proofs.quoted.quoted_end.Given as goal
use Rattle.lexer.specs.Quoted.{quoted, quoted_closed}

abbrev pub invariant-loop-byte : goal.invariant-loop-byte
invariant-loop-byte g l =
    let xs = g.T.Text.bytes l.text in
    record {
      end : l.end + quoted l.quote l.escapes (drop l.end xs) ≡ l.place + quoted l.quote l.escapes (drop l.place xs);
      closed : quoted_closed l.quote l.escapes (drop l.end xs) ≡ quoted_closed l.quote l.escapes (drop l.place xs);
    }

abbrev pub decreases-loop-byte : goal.decreases-loop-byte
decreases-loop-byte g l = length (g.T.Text.bytes l.text) - l.end
