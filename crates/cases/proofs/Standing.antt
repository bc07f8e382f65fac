-- Each worked case stands: its text is cut, and its ends are found, by computation.
use Rattle.cases.specs.Case.{AllStand}
use Rattle.cases.specs.Worked.{worked}
use Rattle.lexer.specs.Comment.{comment_extent}
use Rattle.lexer.specs.Cursor.{digit_met, digits, run}
use Rattle.lexer.specs.Cut.{cut_after}
use Rattle.lexer.specs.Dollar.{begins, delimited_extent}
use Rattle.lexer.specs.Lex.{lex}
use Rattle.lexer.specs.Number.{based, based_len, decimal_len, decimal_number, empty_exponent, exponent, fractional, fractional_len, number, number_len, numeric, numeric_len}
use Rattle.lexer.specs.Psql.{meaning}
use Rattle.lexer.specs.PsqlArg.{arguments, options}
use Rattle.lexer.specs.Quoted.{quoted_extent}
use Rattle.lexer.specs.Start.{plain_start}
use Rattle.std.proofs.Common.{refl}

pub all_stand : AllStand worked
unfolding arguments based based_len begins comment_extent cut_after decimal_len decimal_number delimited_extent digit_met digits empty_exponent exponent fractional fractional_len lex meaning number number_len numeric numeric_len options plain_start quoted_extent run
all_stand = (
  record { cut_is = refl; ends_are = refl },
  (
    record { cut_is = refl; ends_are = refl },
    (
      record { cut_is = refl; ends_are = refl },
      (
        record { cut_is = refl; ends_are = refl },
        (
          record { cut_is = refl; ends_are = refl },
          (
            record { cut_is = refl; ends_are = refl },
            (
              record { cut_is = refl; ends_are = refl },
              (
                record { cut_is = refl; ends_are = refl },
                (
                  record { cut_is = refl; ends_are = refl },
                  (
                    record { cut_is = refl; ends_are = refl },
                    (
                      record { cut_is = refl; ends_are = refl },
                      (
                        record { cut_is = refl; ends_are = refl },
                        (
                          record { cut_is = refl; ends_are = refl },
                          (
                            record { cut_is = refl; ends_are = refl },
                            (
                              record { cut_is = refl; ends_are = refl },
                              tt,
                            ),
                          ),
                        ),
                      ),
                    ),
                  ),
                ),
              ),
            ),
          ),
        ),
      ),
    ),
  ),
)
