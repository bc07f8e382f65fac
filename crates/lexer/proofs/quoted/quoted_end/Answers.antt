use Rattle.std.proofs.Common.{◌≡◌, ◌+◌, true, drop, sym, ◌∙◌, arith}
use Rattle.lexer.proofs.Quotes.{quoted_extent_here, quote_closes, quote_doubled}
use Rattle.lexer.proofs.quoted.quoted_end.Goals as goal
use Rattle.lexer.specs.Quoted.{quoted_closed}
use Rattle.std.proofs.lemmas.Option.{slice_get_past}

pub returns-then-ne-clause-closed : goal.returns-then-ne-clause-closed
returns-then-ne-clause-closed g c =
    let xs = g.T.Text.bytes c.args.text.now in
    let closes : quoted_closed c.args.quote c.args.escapes (drop c.loop-byte.end xs) ≡ true = grind (arith, quote_closes) in
    sym closes ∙ c.loop-byte.invariant.closed

pub loop-byte-preserved-then-byte-quote : goal.loop-byte-preserved-then-byte-quote
loop-byte-preserved-then-byte-quote g c = grind (arith, quote_doubled)

pub loop-byte-preserved : goal.loop-byte-preserved
loop-byte-preserved g c =
    let xs = g.T.Text.bytes c.args.text.now in
    let turn = quoted_extent_here c.args.quote c.args.escapes xs c.loop-byte.end c.in-Some.byte (sym c.in-Some.ensures) in
    grind (arith, turn, slice_get_past xs (c.loop-byte.end + 1))
