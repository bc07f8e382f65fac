use Rattle.std.proofs.Common.{drop, sym, refl, ap, ◌∙◌, arith, rules}
use Rattle.lexer.proofs.Dollars.{begins_fits, extent_end, extent_found, extent_more}
use Rattle.lexer.proofs.Extents.{further_on, long, shut}
use Rattle.lexer.proofs.dollar.dollar_end.Goals as goal
use Rattle.lexer.specs.Extent.{further}
use Rattle.std.proofs.lemmas.List.{length-drop}

pub overflow_add-result : goal.overflow_add-result
overflow_add-result g c =
    let xs = g.T.Text.bytes c.args.text.now in
    let delimiter = g.D.Text.bytes c.args.delimiter.now in
    let fits = begins_fits delimiter (drop c.loop-end.end xs) (sym c.stands_at.ensures ∙ c.if-stands_at.true) in
    let left = length-drop c.loop-end.end xs in
    let short = g.met.T.Text.short c.args.text.now in
    search rules

pub returns-then-stands_at : goal.returns-then-stands_at
returns-then-stands_at g c =
    let xs = g.T.Text.bytes c.args.text.now in
    let delimiter = g.D.Text.bytes c.args.delimiter.now in
    let turn = extent_found delimiter xs c.loop-end.end (omega arith) (sym c.stands_at.ensures ∙ c.if-stands_at.true) in
    let all = ap (further c.loop-end.end) (sym turn) ∙ c.loop-end.invariant in
    record { end = omega (arith, long all); closed = shut all }

pub loop-end-preserved : goal.loop-end-preserved
loop-end-preserved g c =
    let xs = g.T.Text.bytes c.args.text.now in
    let delimiter = g.D.Text.bytes c.args.delimiter.now in
    let turn = extent_more delimiter xs c.loop-end.end (omega arith) (sym c.stands_at.ensures ∙ c.if-stands_at.false) in
    sym (further_on c.loop-end.end 1 _ _ refl) ∙ ap (further c.loop-end.end) (sym turn) ∙ c.loop-end.invariant

pub returns : goal.returns
returns g c =
    let xs = g.T.Text.bytes c.args.text.now in
    let delimiter = g.D.Text.bytes c.args.delimiter.now in
    let none = extent_end delimiter xs c.loop-end.end (omega arith) in
    let all = ap (further c.loop-end.end) (sym none) ∙ c.loop-end.invariant in
    record { end = omega (arith, long all); closed = shut all }
