use Rattle.std.proofs.Common.{sym, ◌∙◌, arith}
use Rattle.lexer.specs.Cut.{cut}
use Rattle.lexer.specs.declared.token.Token.{Token}
use Rattle.lexer.specs.declared.token.TokenKind.TheVariants.{Unknown}
use Rattle.table.proofs.Partings.{parting_both_end, parting_first_ends, parting_here, parting_later, parting_second_ends}
use Rattle.table.proofs.Readings.{reading_all, reading_more, reading_next}
use Rattle.table.proofs.checker.parting.Goals as goal
use Rattle.std.proofs.lemmas.Option.{slice_get_within}

nothing : Token
nothing = record { kind = Unknown; len = 0 }

pub returns-in_default : goal.returns-in_default
returns-in_default g c =
    let bs = g.T.Text.bytes c.args.text.now in
    let i = c.loop-index.index in
    let met = c.in_default.ensures in
    let inv = c.loop-index.invariant in
    let all = reading_all met.laws bs c.loop-index.place i inv.0 (sym met.value) in
    sym (parting_first_ends (cut bs) c.args.tokens.now i nothing (omega arith) (omega arith)) ∙ inv.1

pub returns-then-not-same_token : goal.returns-then-not-same_token
unfolding nothing
returns-then-not-same_token g c =
    let bs = g.T.Text.bytes c.args.text.now in
    let i = c.loop-index.index in
    let met = c.in-Some.ensures in
    let inv = c.loop-index.invariant in
    let next = sym (reading_next met.laws bs c.loop-index.place i inv.0) ∙ sym met.value in
    sym (parting_here (cut bs) c.args.tokens.now i nothing c.in-Some.token next (omega arith) (sym c.if-not-same_token.ensures.value)) ∙ inv.1

pub loop-index-preserved : goal.loop-index-preserved
unfolding nothing
loop-index-preserved g c =
    let bs = g.T.Text.bytes c.args.text.now in
    let i = c.loop-index.index in
    let met = c.in-Some.ensures in
    let inv = c.loop-index.invariant in
    let next = sym (reading_next met.laws bs c.loop-index.place i inv.0) ∙ sym met.value in (
      reading_more met.laws bs c.loop-index.place i inv.0 c.in-Some.token (sym met.value) met.inside.0 met.inside.1,
      sym (parting_later (cut bs) c.args.tokens.now i nothing c.in-Some.token next (omega arith) (sym c.if-not-same_token.ensures.value)) ∙ inv.1,
    )

pub returns : goal.returns
returns g c =
    let bs = g.T.Text.bytes c.args.text.now in
    let i = c.loop-index.index in
    let met = c.in_ok-token_at.ensures in
    let inv = c.loop-index.invariant in
    let next = sym (reading_next met.laws bs c.loop-index.place i inv.0) ∙ sym met.value in
    let below = slice_get_within (cut bs) i c.in_ok-token_at.field-0 next in
    sym (parting_second_ends (cut bs) c.args.tokens.now i nothing below (omega arith)) ∙ inv.1

pub returns-in_err-token_at : goal.returns-in_err-token_at
returns-in_err-token_at g c =
    let bs = g.T.Text.bytes c.args.text.now in
    let i = c.loop-index.index in
    let met = c.in_err-token_at.ensures in
    let inv = c.loop-index.invariant in
    let all = reading_all met.laws bs c.loop-index.place i inv.0 (sym met.value) in
    c.from_residual.ensures ∙ sym (parting_both_end (cut bs) c.args.tokens.now i nothing (omega arith) (omega arith)) ∙ inv.1
