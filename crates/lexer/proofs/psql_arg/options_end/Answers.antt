use Rattle.lexer.proofs.PsqlArgs.{options_past_blanks}
use Rattle.lexer.proofs.Rest.{inside}
use Rattle.lexer.proofs.Turns.{options_turn, run_turn}
use Rattle.lexer.proofs.psql_arg.options_end.Goals as goal
use Rattle.lexer.specs.Class.{line_blank}
use Rattle.lexer.specs.declared.psql_arg.ArgState.TheVariants.{Outside}
use Rattle.std.proofs.Common.{None, arith, rules}
use Rattle.std.proofs.lemmas.Grind.{common_steps}

pub options-smaller : goal.options-smaller
options-smaller g c =
    let xs = g.T.Text.bytes c.args.text.now in
    let front = run_turn line_blank xs c.loop-byte.end in
    grind (arith, common_steps, front)

pub options-preserved : goal.options-preserved
options-preserved g c =
    let xs = g.T.Text.bytes c.args.text.now in
    let this = options_turn c.loop-byte.state c.loop-byte.last xs c.loop-byte.end in
    let other = options_turn Outside None xs c.loop-byte.end in
    let past = options_past_blanks xs c.loop-byte.end in
    grind (arith, common_steps, this, other, past)

pub overflow_add-end : goal.overflow_add-end
overflow_add-end g c =
    let within = inside (g.T.Text.bytes c.args.text.now) c.loop-byte.end c.in-Some.byte c.in-Some.ensures in
    let short = g.met.T.Text.short c.args.text.now in
    search rules
