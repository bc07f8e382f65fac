use Rattle.lexer.proofs.Moves.{moved_then, said_then}
use Rattle.lexer.proofs.cursor.Cursor.decimal_number.Goals as goal
use Rattle.lexer.specs.Number.{after_digits, after_digits_len, decimal_len, decimal_number}

pub returns : goal.returns
unfolding decimal_number decimal_len
returns g c =
    let first = c.eat_digits.ensures.moved in
    record { kind = said_then after_digits first c.after_digits.ensures.kind; moved = moved_then after_digits_len first c.after_digits.ensures.moved }
