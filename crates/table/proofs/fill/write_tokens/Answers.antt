use Rattle.std.proofs.Common.{◌+◌, ◌≤◌, ◌++◌, length, drop, sym, ap, ◌∙◌, arith}
use Rattle.lexer.specs.Cut.{cut}
use Rattle.std.proofs.lemmas.List.{drop-drop, drop-set-lt, take_all, take-append-drop, set-get_or}
use Rattle.table.proofs.Readings.{reading_all, reading_more, reading_next, take_written}
use Rattle.table.proofs.fill.write_tokens.Goals as goal

pub loop-entry-preserved : goal.loop-entry-preserved
loop-entry-preserved g c =
    let bs = g.T.Text.bytes c.args.text.now in
    let table = c.loop-entry.table in
    let i = c.loop-entry.entry-index in
    let t = c.in-Some.token in
    let met = c.in-Some.ensures in
    let inv = c.loop-entry.invariant in
    let next = sym (reading_next met.laws bs c.loop-entry.place i inv.0) ∙ sym met.value in (
      reading_more met.laws bs c.loop-entry.place i inv.0 t (sym met.value) met.inside.0 met.inside.1,
      take_written table (cut bs) i t (omega arith) next inv.1,
      drop-set-lt (i + 1) table i t (omega arith) ∙ sym (drop-drop 1 i table) ∙ ap (drop 1) inv.2 ∙ drop-drop 1 i c.args.table.now,
    )

pub returns-in_default : goal.returns-in_default
returns-in_default g c =
    let bs = g.T.Text.bytes c.args.text.now in
    let table = c.loop-entry.table in
    let i = c.loop-entry.entry-index in
    let inv = c.loop-entry.invariant in
    let all = reading_all c.in_default.ensures.laws bs c.loop-entry.place i inv.0 (sym c.in_default.ensures.value) in
    let whole : length (cut bs) ≤ i = omega arith in
    set-get_or table i _
    ∙ sym (take-append-drop i table)
    ∙ ap (λ l. l ++ drop i table) (inv.1 ∙ take_all i (cut bs) whole)
    ∙ ap (λ l. cut bs ++ l) (inv.2 ∙ ap (λ n. drop n c.args.table.now) (sym all))
