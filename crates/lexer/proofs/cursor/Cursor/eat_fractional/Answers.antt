use Rattle.lexer.proofs.Moves.{moved_by, moved_into, moved_then, said_then, stayed}
use Rattle.lexer.proofs.cursor.Cursor.eat_fractional.Goals as goal
use Rattle.lexer.proofs.cursor.Cursor.eat_fractional.Goals.{then-is_ascii_digit, else-is_ascii_digit}
use Rattle.lexer.specs.Class.{decimal}
use Rattle.lexer.specs.Cursor.{Moved, digits, rest}
use Rattle.lexer.specs.Number.{fraction, fractional, fractional_len, numeric, numeric_len}
use Rattle.std.proofs.Common.{cond, sym, ap, ◌∙◌}

pub returns : goal.returns
unfolding fractional fractional_len
returns g c =
    let bytes = g.T.Text.bytes in
    let xs = rest c.args.self.now in
    let m : Moved c.args.self.now c.if-is_ascii_digit.self (fraction xs) =
    elim c.if-is_ascii_digit.branch [
      | then-is_ascii_digit w ↦
          let digit = sym (ap decimal c.first.ensures) ∙ sym c.is_ascii_digit.ensures.value ∙ w.if-is_ascii_digit.true in
          moved_into w.self-is (moved_by (sym (ap (λ b. cond b (digits decimal xs) 0) digit)) w.eat_digits.ensures.moved)
      | else-is_ascii_digit w ↦
          let none = sym (ap decimal c.first.ensures) ∙ sym c.is_ascii_digit.ensures.value ∙ w.if-is_ascii_digit.false in
          moved_into w.self-is (moved_by (sym (ap (λ b. cond b (digits decimal xs) 0) none)) (stayed c.args.self.now))
    ] in
    record { kind = said_then numeric m c.eat_numeric.ensures.kind; moved = moved_then numeric_len m c.eat_numeric.ensures.moved }
