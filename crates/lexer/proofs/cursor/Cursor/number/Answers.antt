use Rattle.std.proofs.Common.{ap, ◌∙◌}
use Rattle.lexer.proofs.Moves.{moved_by}
use Rattle.lexer.proofs.Numbers.{decimal_lettered, hexadecimal_lettered, number_after_letter, number_in}
use Rattle.lexer.proofs.cursor.Cursor.number.Goals as goal
use Rattle.lexer.specs.Class.{decimal, hexadecimal}
use Rattle.lexer.specs.Cursor.{rest}
use Rattle.lexer.specs.Number.{base_of}
use Rattle.lexer.specs.declared.token.Base.TheVariants.{Decimal}

pub returns-in-Binary : goal.returns-in-Binary
returns-in-Binary g c =
    let read =
    number_after_letter c.base_of-base.result decimal c.args.first_digit (decimal_lettered c.in-Binary.is) c.base_of-base.ensures
    c.first.ensures c.bump.ensures.moved c.based_int.ensures.kind c.based_int.ensures.moved in
    record { kind = read.0; moved = read.1 }

pub returns-in-Hexadecimal : goal.returns-in-Hexadecimal
returns-in-Hexadecimal g c =
    let read =
    number_after_letter c.base_of-base.result hexadecimal c.args.first_digit (hexadecimal_lettered c.in-Hexadecimal.is) c.base_of-base.ensures
    c.first.ensures c.bump-in-Hexadecimal.ensures.moved
    c.based_int-in-Hexadecimal.ensures.kind c.based_int-in-Hexadecimal.ensures.moved in
    record { kind = read.0; moved = read.1 }

pub returns-in-Decimal : goal.returns-in-Decimal
returns-in-Decimal g c =
    let base = c.in-Decimal.ensures ∙ ap (base_of c.args.first_digit) c.first.ensures in
    let is = number_in c.args.first_digit c.args.self.now.eaten (rest c.args.self.now) Decimal base in
    record { kind = c.decimal_number.ensures.kind ∙ is.0; moved = moved_by is.1 c.decimal_number.ensures.moved }
