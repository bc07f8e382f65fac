use Rattle.std.proofs.Common.{◌≡◌, drop}
use Rattle.lexer.proofs.dollar.dollar_end.Given as goal
use Rattle.lexer.specs.Dollar.{delimited_extent}
use Rattle.lexer.specs.Extent.{further}

abbrev pub invariant-loop-end : goal.invariant-loop-end
invariant-loop-end g l =
    let xs = g.T.Text.bytes l.text in
    let delimiter = g.D.Text.bytes l.delimiter in
    further l.end (delimited_extent delimiter (drop l.end xs)) ≡ further l.place (delimited_extent delimiter (drop l.place xs))
