use Rattle.std.proofs.Common.{◌≡◌, take, drop}
use Rattle.lexer.specs.Cut.{cut}
use Rattle.table.proofs.Readings.{Reading}
use Rattle.table.proofs.fill.write_tokens.Given as goal

abbrev pub invariant-loop-entry : goal.invariant-loop-entry
invariant-loop-entry g l =
    Reading (g.T.Text.bytes l.text) l.place l.entry-index
    × (take l.entry-index l.table ≡ take l.entry-index (cut (g.T.Text.bytes l.text)))
    × (drop l.entry-index l.table ≡ drop l.entry-index l.initial.table)
