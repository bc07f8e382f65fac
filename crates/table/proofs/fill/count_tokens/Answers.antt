use Rattle.table.proofs.Readings.{reading_all, reading_more}
use Rattle.table.proofs.fill.count_tokens.Goals as goal
use Rattle.std.proofs.Common.{sym}

pub loop-token-preserved : goal.loop-token-preserved
loop-token-preserved g c =
    let met = c.in-Some.ensures in
    reading_more met.laws (g.T.Text.bytes c.args.text.now) c.loop-token.place c.loop-token.count c.loop-token.invariant c.in-Some.token (sym met.value) met.inside.0 met.inside.1

pub returns : goal.returns
returns g c =
    let met = c.in_default.ensures in
    sym (reading_all met.laws (g.T.Text.bytes c.args.text.now) c.loop-token.place c.loop-token.count c.loop-token.invariant (sym met.value))
