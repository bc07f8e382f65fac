use Rattle.std.proofs.Common.{subst, IsTrue, ◌↔◌, ◌≡◌, sym, arith}
use Rattle.table.proofs.Equal.{same_decides}
use Rattle.table.specs.Same.{same}
use Rattle.table.proofs.same.same_token.Goals as goal

pub returns : goal.returns
unfolding same
returns c =
    let value : c.eq.result ≡ same c.args.a c.args.b = grind arith in
    record { value = value; decides = subst (λ r. IsTrue r ↔ (c.args.a ≡ c.args.b)) (sym value) (same_decides c.args.a c.args.b) }
