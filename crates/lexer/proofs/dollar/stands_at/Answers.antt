use Rattle.std.proofs.Common.{◌-◌, ◌<◌, length, drop, ◌∙◌, arith, rules}
use Rattle.lexer.proofs.Dollars.{begins_from, begins_short, same_at}
use Rattle.lexer.proofs.dollar.stands_at.Goals as goal
use Rattle.std.proofs.lemmas.Iterator.{YieldsList-from_range, YieldsList-from_zip}
use Rattle.std.proofs.lemmas.Iterator.Search.{all_from_yields_List}
use Rattle.std.proofs.lemmas.List.{length-drop}
use borrow.Author.Tests.{tests}

pub returns-then-len-place : goal.returns-then-len-place
returns-then-len-place g c =
    let ds = g.D.Text.bytes c.args.delimiter.now in
    let xs = g.T.Text.bytes c.args.text.now in
    let n = length ds in
    let m = length xs - c.args.place in
    all_from_yields_List (same_at ds xs) c.all.new.self _ c.all.result c.all.ensures.ran (YieldsList-from_zip (YieldsList-from_range 0 c.len-then-len-place.result n c.zip.ensures.first (omega arith)) (YieldsList-from_range c.args.place c.len-then-len-place-2.result m c.zip.ensures.second (omega arith))) (λ x b q k. search (rules, tests))
    ∙ begins_from ds xs n m 0 c.args.place (omega arith) (omega arith) (omega arith)

pub returns-else-len-place : goal.returns-else-len-place
returns-else-len-place g c =
    let ds = g.D.Text.bytes c.args.delimiter.now in
    let xs = drop c.args.place (g.T.Text.bytes c.args.text.now) in
    let left = length-drop c.args.place (g.T.Text.bytes c.args.text.now) in
    let short : length xs < length ds = omega arith in
    grind (arith, begins_short ds xs short)
