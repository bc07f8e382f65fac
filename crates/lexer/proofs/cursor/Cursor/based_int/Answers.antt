use Rattle.std.proofs.Common.{◌+◌, true, not, drop, refl, ap, ◌∙◌}
use Rattle.lexer.proofs.Moves.{moved_rest, moved_then, eaten_then}
use Rattle.lexer.proofs.Numbers.{based_is}
use Rattle.lexer.proofs.cursor.Cursor.based_int.Goals as goal
use Rattle.lexer.specs.Cursor.{digits, identifier, rest}
use Rattle.lexer.specs.Number.{based_len}
use Rattle.lexer.specs.declared.token.LiteralKind.TheVariants.{Int}

pub returns-then-not-has_digits : goal.returns-then-not-has_digits
unfolding based_len
returns-then-not-has_digits g c =
    let bytes = g.T.Text.bytes in
    let first = c.eat_digits-has_digits.ensures.moved in
    let junk = c.eat_identifier.ensures in
    record {
      kind = based_is c.args.base (g.C.Class.holds c.args.class.now) c.args.self.now.eaten (rest c.args.self.now) _ _ _ c.if-not-has_digits.ensures.met
          (c.pos_within_token-trailing_junk_start.ensures ∙ first.eaten)
          (eaten_then identifier junk (moved_rest first) c.pos_within_token-trailing_junk_start.ensures c.pos_within_token.ensures);
      moved = moved_then identifier first junk;
    }

-- where a digit was met, it does not matter where the junk ends
pub returns-else-not-has_digits : goal.returns-else-not-has_digits
unfolding based_len
returns-else-not-has_digits g c =
    let bytes = g.T.Text.bytes in
    let first = c.eat_digits-has_digits.ensures.moved in
    let junk = c.eat_identifier.ensures in
    let xs = rest c.args.self.now in
    record {
      kind = ap (λ b. Int c.args.base (not b) c.pos_within_token-trailing_junk_start.result) c.if-not-has_digits.false
          ∙ based_is c.args.base (g.C.Class.holds c.args.class.now) c.args.self.now.eaten xs true _
          (c.pos_within_token-trailing_junk_start.result + identifier (drop (digits (g.C.Class.holds c.args.class.now) xs) xs)) c.if-not-has_digits.ensures.met
          (c.pos_within_token-trailing_junk_start.ensures ∙ first.eaten) refl;
      moved = moved_then identifier first junk;
    }
