use Rattle.std.proofs.Common.{arith}
use Rattle.std.proofs.lemmas.Grind.{common_steps}
use Rattle.lexer.proofs.cursor.Cursor.after_digits.Goals as goal

pub returns-then-is_point-clause-moved : goal.returns-then-is_point-clause-moved
returns-then-is_point-clause-moved g c = grind (arith, common_steps)
