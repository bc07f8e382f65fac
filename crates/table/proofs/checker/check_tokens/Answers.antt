use Rattle.std.proofs.Common.{sym, subst}
use Rattle.lexer.specs.Cut.{cut}
use Rattle.table.proofs.Partings.{parting_tells}
use Rattle.table.proofs.checker.check_tokens.Goals as goal
use Rattle.table.specs.Parting.{Tells}

pub returns-clause-tells : goal.returns-clause-tells
returns-clause-tells g c =
    let ts = cut (g.T.Text.bytes c.args.text.now) in
    let us = c.args.tokens.now in
    subst (Tells ts us) (sym c.parting.ensures) (parting_tells ts us)
