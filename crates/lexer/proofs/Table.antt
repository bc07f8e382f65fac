-- The table of identifier bytes follows its rule: one test over all entries, which antt computes.
use Rattle.std.proofs.Common.{◌≡◌, ℕ, ◌<◌, false, get_or, refl}
use Rattle.lexer.specs.Class.{ident_cont}
use Rattle.lexer.specs.declared.class.TheConstants.{IDENT_CONT}
use Rattle.std.proofs.lemmas.Bool.{agree_below_at}

pub table_rule : (b : ℕ) → b < 256 → get_or IDENT_CONT b false ≡ ident_cont b
table_rule b h = agree_below_at (λ b. get_or IDENT_CONT b false) ident_cont 256 b refl h
