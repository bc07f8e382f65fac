use Rattle.std.proofs.Common.{length, sym, ◌∙◌, arith, rules, ne_eqb}
use Rattle.lexer.proofs.PsqlWords.{spelt_from, spelt_unlike, stands}
use Rattle.lexer.proofs.psql.is_word.Goals as goal
use Rattle.lexer.specs.Psql.{fold}
use Rattle.std.proofs.lemmas.Iterator.{YieldsList-from_range, YieldsList-from_slice, YieldsList-from_zip}
use Rattle.std.proofs.lemmas.Iterator.Search.{all_from_yields_List}
use borrow.Author.Tests.{tests}

pub returns-then-letters-len : goal.returns-then-letters-len
returns-then-letters-len g c =
    let ys = g.T.Text.bytes c.args.text.now in
    let xs = c.args.letters.now in
    let f = fold c.args.case in
    all_from_yields_List (stands f ys) c.all.new.self _ c.all.result c.all.ensures.ran (YieldsList-from_zip (YieldsList-from_range 0 c.len-then-letters-len.result (length xs) c.zip.ensures.first (omega arith)) (YieldsList-from_slice xs c.zip.ensures.second.0)) (λ x b q k. search (rules, tests))
    ∙ spelt_from f xs ys 0 (omega arith)

pub returns-else-letters-len : goal.returns-else-letters-len
returns-else-letters-len g c =
    let ys = g.T.Text.bytes c.args.text.now in
    let apart = c.if-letters-len.false in
    ne_eqb _ _ apart ∙ sym (spelt_unlike (fold c.args.case) c.args.letters.now ys (λ e. apart (omega arith)))
