use Rattle.std.proofs.Common.{Some, sym, refl, ap, ◌∙◌}
use Rattle.lexer.proofs.Moves.{moved_by, moved_rest, moved_then, next_in_lem, stayed}
use Rattle.lexer.proofs.Numbers.{empty_digits, no_exponent, not_empty, not_empty_digits, some_exponent}
use Rattle.lexer.proofs.cursor.Cursor.eat_exponent.Goals as goal
use Rattle.lexer.specs.Cursor.{rest}
use Rattle.lexer.specs.Number.{exponent_digits, exponent_mark, exponent_tail}

pub returns-then-not-is_exponent_mark : goal.returns-then-not-is_exponent_mark
returns-then-not-is_exponent_mark g c =
    let xs = rest c.args.self.now in
    let unmarked = sym (ap exponent_mark c.first.ensures) ∙ sym c.is_exponent_mark.ensures ∙ c.if-not-is_exponent_mark.true in
    record { value = sym (not_empty xs _ unmarked); moved = moved_by (sym (no_exponent xs unmarked)) (stayed c.args.self.now) }

pub returns-then-eat_numeric_exponent : goal.returns-then-eat_numeric_exponent
returns-then-eat_numeric_exponent g c =
    let bytes = g.T.Text.bytes in
    let xs = rest c.args.self.now in
    let marked = sym (ap exponent_mark c.first.ensures) ∙ sym c.is_exponent_mark.ensures ∙ c.if-not-is_exponent_mark.false in
    let mark = moved_by (next_in_lem exponent_mark xs refl marked) c.bump.ensures.moved in
    let has = ap exponent_digits (sym (moved_rest mark)) ∙ sym c.eat_numeric_exponent.ensures.digits ∙ c.if-eat_numeric_exponent.true in
    record { value = sym (not_empty_digits xs _ marked has); moved = moved_by (sym (some_exponent xs marked)) (moved_then exponent_tail mark c.eat_numeric_exponent.ensures.moved) }

pub returns-else-eat_numeric_exponent : goal.returns-else-eat_numeric_exponent
returns-else-eat_numeric_exponent g c =
    let bytes = g.T.Text.bytes in
    let xs = rest c.args.self.now in
    let marked = sym (ap exponent_mark c.first.ensures) ∙ sym c.is_exponent_mark.ensures ∙ c.if-not-is_exponent_mark.false in
    let mark = moved_by (next_in_lem exponent_mark xs refl marked) c.bump.ensures.moved in
    let lacks = ap exponent_digits (sym (moved_rest mark)) ∙ sym c.eat_numeric_exponent.ensures.digits ∙ c.if-eat_numeric_exponent.false in
    record {
      value = ap Some c.pos_within_token-exponent_start.ensures ∙ sym (empty_digits xs _ marked lacks);
      moved = moved_by (sym (some_exponent xs marked)) (moved_then exponent_tail mark c.eat_numeric_exponent.ensures.moved);
    }
