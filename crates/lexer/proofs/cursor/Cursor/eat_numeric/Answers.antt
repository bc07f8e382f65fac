use Rattle.std.proofs.Common.{ap, ◌∙◌}
use Rattle.lexer.proofs.Moves.{moved_then}
use Rattle.lexer.proofs.cursor.Cursor.eat_numeric.Goals as goal
use Rattle.lexer.specs.Cursor.{identifier, rest}
use Rattle.lexer.specs.Number.{empty_exponent, numeric, numeric_len}
use Rattle.lexer.specs.declared.token.LiteralKind.TheVariants.{Numeric}

pub returns : goal.returns
unfolding numeric numeric_len
returns g c =
    let bytes = g.T.Text.bytes in
    let exponent = c.eat_exponent-empty_exponent_start.ensures in
    record {
      kind = ap (λ e. Numeric e c.pos_within_token-trailing_junk_start.result) exponent.value
          ∙ ap (Numeric (empty_exponent c.args.self.now.eaten (rest c.args.self.now))) (c.pos_within_token-trailing_junk_start.ensures ∙ exponent.moved.eaten);
      moved = moved_then identifier exponent.moved c.eat_identifier.ensures;
    }
