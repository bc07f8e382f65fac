use Rattle.std.proofs.Common.{◌≡◌, ◌+◌, cond, get_or, take, drop, None, sym, ap, ◌∙◌, rules}
use Rattle.std.specs.List.{slice_get}
use Rattle.std.proofs.lemmas.List.{drop_all, take_all}
use Rattle.lexer.specs.declared.token.Token.{Token}
use Rattle.lexer.specs.declared.token.TokenKind.TheVariants.{Unknown}
use Rattle.statement.specs.Depth.{depth}
use Rattle.statement.specs.Ends.{solid, next_state}
use Rattle.statement.specs.Statements.{state_after, statements, statements_on}
use Rattle.statement.proofs.Shares.{shared}
use Rattle.statement.proofs.Turns.{statements_more, state_more, no_tokens}
use Rattle.statement.proofs.Ends.next_statement.Goals as goal
use Rattle.statement.proofs.Ends.next_statement.Goals.{After-end_after}

abbrev none : Token
none = record { kind = Unknown; len = 0 }

-- the state after the token, from that before the list
state_now : (c : After-end_after) → depth c.end_after.new.self ≡ state_after (depth c.args.self.now) (take (c.loop-index.index + 1) c.args.tokens.now)
state_now c =
    c.end_after.ensures.state
    ∙ ap (λ s. next_state s (get_or c.args.tokens.now c.loop-index.index none)) c.loop-index.invariant.2
    ∙ sym (state_more c.args.tokens.now c.loop-index.index none c.loop-index-test.true (depth c.args.self.now))

pub returns-in-Some-clause-state : goal.returns-in-Some-clause-state
returns-in-Some-clause-state c = state_now (goal.at.returns-in-Some-clause-state c).After-end_after

pub loop-index-preserved : goal.loop-index-preserved
loop-index-preserved c =
    let ts = c.args.tokens.now in
    let i = c.loop-index.index in
    let more = statements_more ts i none c.loop-index-test.true (depth c.loop-index.self) i c.loop-index.solid (sym c.end_after.ensures.end ∙ c.in_default.is) in
    let counted : c.if-is_solid.solid ≡ c.loop-index.solid + cond (solid (get_or ts i none)) 1 0 = search rules in (
      search rules,
      ap (λ s. slice_get (statements_on s (i + 1) c.if-is_solid.solid (drop (i + 1) ts)) 0) c.end_after.ensures.state
          ∙ ap (λ m. slice_get (statements_on (next_state (depth c.loop-index.self) (get_or ts i none)) (i + 1) m (drop (i + 1) ts)) 0) counted
          ∙ ap (λ l. slice_get l 0) (sym more)
          ∙ c.loop-index.invariant.1,
      state_now (goal.at.loop-index-preserved c).After-end_after,
    )

pub returns-clause-state : goal.returns-clause-state
returns-clause-state c =
    let ts = c.args.tokens.now in
    let i = c.loop-index.index in
    let over = c.loop-index-test.false in
    let gone : slice_get (statements (depth c.args.self.now) ts) 0 ≡ None = sym c.loop-index.invariant.1 ∙ ap (λ l. slice_get (statements_on (depth c.loop-index.self) i c.loop-index.solid l) 0) (drop_all i ts over) in
    c.loop-index.invariant.2 ∙ ap (state_after (depth c.args.self.now)) (take_all i ts over ∙ no_tokens (depth c.args.self.now) 0 0 ts gone)

pub returns-in-Some-clause-shared : goal.returns-in-Some-clause-shared
returns-in-Some-clause-shared c = shared

pub returns-clause-shared : goal.returns-clause-shared
returns-clause-shared c = shared
