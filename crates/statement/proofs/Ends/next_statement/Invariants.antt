use Rattle.std.proofs.Common.{◌≡◌, ◌≤◌, drop, take}
use Rattle.std.specs.List.{slice_get}
use Rattle.statement.specs.Depth.{depth}
use Rattle.statement.specs.Statements.{state_after, statements, statements_on}
use Rattle.statement.proofs.Ends.next_statement.Given as goal

abbrev pub invariant-loop-index : goal.invariant-loop-index
invariant-loop-index l =
    (l.solid ≤ l.index)
    × (slice_get (statements_on (depth l.self) l.index l.solid (drop l.index l.tokens)) 0 ≡ slice_get (statements (depth l.initial.self) l.tokens) 0)
    × (depth l.self ≡ state_after (depth l.initial.self) (take l.index l.tokens))
