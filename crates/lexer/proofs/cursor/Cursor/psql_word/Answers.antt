use Rattle.std.proofs.Common.{◌≡◌, ◌-◌, length, ap, ◌∙◌, arith}
use Rattle.lexer.proofs.Moves.{moved_by, moved_then}
use Rattle.lexer.proofs.PsqlLens.{run_end_within}
use Rattle.lexer.proofs.cursor.Cursor.psql_word.Goals as goal
use Rattle.lexer.specs.Class.{command_letter}
use Rattle.lexer.specs.Cursor.{rest, run}
use Rattle.lexer.specs.Piece.{part}
use Rattle.lexer.specs.Psql.{before_pipe, command, ends_query, followed, meaning, what_follows}
use Rattle.lexer.specs.declared.token.TokenKind.TheVariants.{PsqlCommand}

pub invariant_of-word : goal.invariant_of-word
invariant_of-word g c =
    let same = ap length (c.text.ensures ∙ c.eat_while.ensures.text) in
    let short = run_end_within command_letter (c.args.self.now.text) c.args.self.now.place c.place.result (c.place.ensures ∙ c.eat_while.ensures.place) in
    record { inside = omega arith }

pub returns : goal.returns
returns g c =
    let self = c.args.self.now in
    let xs = rest self in
    let n = run command_letter xs in
    let len : c.place.result - c.place-place.result ≡ n = omega arith in
    let made = c.command_of-command.result in
    let known : made ≡ command xs =
    c.command_of-command.ensures
    ∙ ap (λ k. meaning (part c.place-place.result k (g.T.Text.bytes c.text.result.now))) len
    ∙ ap (λ p. meaning (part p n (g.T.Text.bytes c.text.result.now))) c.place-place.ensures
    ∙ ap (λ t. meaning (part self.place n t)) (c.text.ensures ∙ c.eat_while.ensures.text) in
    let moves = moved_then (followed (before_pipe made) (what_follows made)) c.eat_while.ensures (moved_then (what_follows made) c.eat_before_pipe.ensures c.eat_what_follows.ensures) in
    record { kind = ap PsqlCommand c.ends_query.ensures ∙ ap (λ k. PsqlCommand (ends_query k)) known; moved = moved_by (ap (λ k. followed (run command_letter) (followed (before_pipe k) (what_follows k)) xs) known) moves }
