use Rattle.std.proofs.Common.{◌≡◌, true, false, drop, sym, ◌∙◌, arith, eq-eqb, ne_eqb}
use Rattle.lexer.proofs.Comments.{comment_extent_closes, comment_extent_none, comment_extent_here, comment_extent_past}
use Rattle.lexer.proofs.comment.comment_end.Goals as goal
use Rattle.lexer.proofs.comment.comment_end.Goals.{in-Some+else-byte-eq47+then-byte-eq42+then-next-eq47+then-depth-eq0, in_default}
use Rattle.lexer.specs.Comment.{comment_closed}

pub loop-byte-preserved : goal.loop-byte-preserved
loop-byte-preserved g c =
    let xs = g.T.Text.bytes c.args.text.now in
    let turn = comment_extent_here c.loop-byte.depth xs c.loop-byte.end c.loop-byte.invariant.some_open c.in-Some.byte (sym c.in-Some.ensures) in
    grind (arith, turn)

pub returns-clause-end : goal.returns-clause-end
returns-clause-end g c = grind (arith, comment_extent_closes, comment_extent_past, comment_extent_none)

pub returns-clause-closed : goal.returns-clause-closed
returns-clause-closed g c =
    let xs = g.T.Text.bytes c.args.text.now in
    elim c.match-byte.branch [
      | in-Some+else-byte-eq47+then-byte-eq42+then-next-eq47+then-depth-eq0 w ↦
          let shut : comment_closed c.loop-byte.depth (drop c.loop-byte.end xs) ≡ true = grind (arith, comment_extent_closes, comment_extent_none) in
          eq-eqb _ _ (w.depth-is ∙ w.if-depth-eq0.true) ∙ sym shut ∙ c.loop-byte.invariant.closed
      | in_default w ↦
          let open_still : comment_closed c.loop-byte.depth (drop c.loop-byte.end xs) ≡ false = grind (arith, comment_extent_past) in
          ne_eqb c.match-byte.depth 0 (λ z. omega (arith, z, w.depth-is)) ∙ sym open_still ∙ c.loop-byte.invariant.closed
    ]
