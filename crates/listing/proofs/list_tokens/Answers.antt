use Rattle.std.proofs.Common.{◌++◌, length, string_bytes, sym, ap, ◌∙◌, subst, arith}
use Rattle.lexer.specs.Lex.{token_at}
use Rattle.lexer.proofs.Readings.{reads_all}
use Rattle.listing.specs.Lines.{total_bytes}
use Rattle.listing.specs.Listed.{listed}
use Rattle.listing.specs.Walk.{end_there}
use Rattle.listing.proofs.Walks.{Walking, place-past, walking_more, walking_cover, walking_all}
use Rattle.listing.proofs.Statements.{walk_lists}
use Rattle.listing.proofs.list_tokens.Goals as goal

pub loop-token-preserved : goal.loop-token-preserved
loop-token-preserved g c =
    let bs = g.T.Text.bytes c.args.text.now in
    let size = c.len-size.result in
    let w = c.loop-token.walk in
    let t = c.in-Some.token in
    let end = end_there size w t in
    let onward = c.in_ok-list_token.ensures.walk in
    let inv = c.loop-token.invariant in
    let there = c.in-Some.ensures.inside in (
      inv.0,
      omega (arith, c.place.ensures, there.1, ap (λ u. u.place) onward, place-past w t end, inv.0),
      walking_more bs size w (string_bytes c.loop-token.lines) inv.2 c.list_token.new.walk (string_bytes c.list_token.new.lines) t (ap (token_at bs) (sym c.place.ensures) ∙ sym c.in-Some.ensures.value) there.0 onward c.in_ok-list_token.ensures.lines,
    )

pub returns : goal.returns
returns g c =
    let bs = g.T.Text.bytes c.args.text.now in
    let size = length bs in
    let w = c.loop-token.walk in
    let inv = c.loop-token.invariant in
    let out = string_bytes c.loop-token.lines in
    let so : Walking bs size w out = subst (λ n. Walking bs n w out) inv.0 inv.2 in
    let cover = walking_cover bs size w out so (omega (arith, c.place.ensures, inv.0, inv.1, c.in_default.ensures.inside)) in
    walking_all bs size w out so (string_bytes c.write.new.self) (c.in_ok-write.ensures.bytes ∙ ap (λ l. out ++ total_bytes l) c.total_line-total.ensures) ∙ walk_lists size so.tokens cover so.none_empty ∙ ap listed (reads_all bs so.tokens so.reads cover)
