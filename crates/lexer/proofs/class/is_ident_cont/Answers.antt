use Rattle.lexer.proofs.Table.{table_rule}
use Rattle.lexer.proofs.class.is_ident_cont.Goals as goal
use Rattle.std.proofs.Common.{rules}

pub returns : goal.returns
returns c = table_rule c.args.byte (search rules)
