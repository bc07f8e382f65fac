use Rattle.std.proofs.Common.{◌≡◌, map, drop}
use Rattle.lexer.proofs.psql.by_table.Given as goal
use Rattle.lexer.specs.Psql.{found, row}

abbrev pub invariant-loop-letters : goal.invariant-loop-letters
invariant-loop-letters g l =
    let bytes = g.T.Text.bytes l.word in
    found (map row (drop l.letters-index l.words)) bytes ≡ found (map row l.words) bytes
