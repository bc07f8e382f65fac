-- What an equation of extents says of their parts, and extents with bytes before them.
use Rattle.std.proofs.Common.{◌≡◌, ℕ, ◌+◌, ap, arith}
use Rattle.lexer.specs.Extent.{Extent, further}

pub long : {d e : Extent} → d ≡ e → d.len ≡ e.len
long s = ap (λ (x : Extent). x.len) s

pub shut : {d e : Extent} → d ≡ e → d.closed ≡ e.closed
shut s = ap (λ (x : Extent). x.closed) s

-- bytes before bytes before it
pub further_on : (m n k : ℕ) (e : Extent) → k ≡ m + n → further m (further n e) ≡ further k e
further_on m n k e h =
    let same : m + (n + e.len) ≡ k + e.len = omega arith in
    ap (λ l. record { len = l; closed = e.closed }) same
