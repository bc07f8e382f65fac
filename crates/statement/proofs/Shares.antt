-- The statements of a list of tokens share its tokens out among them.
use Rattle.std.proofs.Common.{◌≡◌, ℕ, ◌+◌, cond, eqb, List, [], ◌∷◌, length, Some, None, refl, arith}
use Rattle.lexer.specs.declared.token.Token.{Token}
use Rattle.statement.specs.Ends.{solid, next_state, end_after}
use Rattle.statement.specs.Statements.{solids, statements_on}
use Rattle.statement.specs.Laws.{tokens_in, solids_in, Shared}
use Rattle.statement.proofs.Turns.{beyond}

-- of tokens to come, with those passed
tokens_on : (s p m : ℕ) (t : Token) (ts : List Token) → tokens_in (statements_on s p m (t ∷ ts)) ≡ p + 1 + length ts
tokens_on s p m t [] = omega arith
tokens_on s p m t (u ∷ ts) =
    elim (end_after s t (eqb (length (u ∷ ts)) 0)) as (λ o. tokens_in (beyond s p m t (u ∷ ts) o) ≡ p + 1 + length (u ∷ ts)) [
      | None ↦ omega (arith, tokens_on (next_state s t) (p + 1) (m + cond (solid t) 1 0) u ts)
      | Some cause ↦ omega (arith, tokens_on (next_state s t) 0 0 u ts)
    ]

solids_on : (s p m : ℕ) (t : Token) (ts : List Token) → solids_in (statements_on s p m (t ∷ ts)) ≡ m + solids (t ∷ ts)
solids_on s p m t [] = omega arith
solids_on s p m t (u ∷ ts) =
    elim (end_after s t (eqb (length (u ∷ ts)) 0)) as (λ o. solids_in (beyond s p m t (u ∷ ts) o) ≡ m + solids (t ∷ u ∷ ts)) [
      | None ↦ omega (arith, solids_on (next_state s t) (p + 1) (m + cond (solid t) 1 0) u ts)
      | Some cause ↦ omega (arith, solids_on (next_state s t) 0 0 u ts)
    ]

pub shared : Shared
shared s [] = record { all = refl; solid = refl }
shared s (t ∷ ts) =
    record {
      all = omega (arith, tokens_on s 0 0 t ts);
      solid = omega (arith, solids_on s 0 0 t ts);
    }
