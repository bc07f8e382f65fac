-- One token more of a list: what the definitions make of it.
use Rattle.std.proofs.Common.{◌≡◌, ℕ, ◌+◌, ◌<◌, Bool, cond, eqb, List, [], ◌∷◌, ◌++◌, length, get_or, take, drop, Some, None, Option, refl, ap, ◌∙◌, arith, length-drop}
use Rattle.std.specs.List.{slice_get}
use Rattle.std.proofs.lemmas.List.{drop_more, take_more}
use Rattle.std.proofs.lemmas.Bool.Decides.{nat_tests}
use Rattle.lexer.specs.declared.token.Token.{Token}
use Rattle.statement.specs.declared.Cause.{Cause}
use Rattle.statement.specs.declared.Statement.{Statement}
use Rattle.statement.specs.Ends.{solid, next_state, end_after}
use Rattle.statement.specs.Statements.{state_after, by_end, statements_on}

pub state_after_push : (s : ℕ) (ts : List Token) (t : Token) → state_after s (ts ++ t ∷ []) ≡ next_state (state_after s ts) t
state_after_push s [] t = refl
state_after_push s (u ∷ ts) t = state_after_push (next_state s u) ts t

-- the statement that ends after t, where one does
abbrev pub ended : ℕ → ℕ → Token → Cause → Statement
ended p m t cause = record { tokens = p + 1; solid = m + cond (solid t) 1 0; cause = cause }

-- what stands after t, from whether an end does
abbrev pub beyond : ℕ → ℕ → ℕ → Token → List Token → Option Cause → List Statement
beyond s p m t ts end =
    by_end end
    (statements_on (next_state s t) (p + 1) (m + cond (solid t) 1 0) ts)
    (λ cause. ended p m t cause ∷ statements_on (next_state s t) 0 0 ts)

-- tokens make a statement
pub some_statement : (s p m : ℕ) (t : Token) (ts : List Token) → slice_get (statements_on s p m (t ∷ ts)) 0 ≡ None → ⊥
some_statement s p m t [] e = let z : ◌≡◌ {A = ℕ} 0 1 = cc in omega arith
some_statement s p m t (u ∷ ts) e =
    (elim (end_after s t (eqb (length (u ∷ ts)) 0)) as (λ o. slice_get (beyond s p m t (u ∷ ts) o) 0 ≡ None → ⊥) [
      | None ↦ some_statement (next_state s t) (p + 1) (m + cond (solid t) 1 0) u ts
      | Some cause ↦ λ q. let z : ◌≡◌ {A = ℕ} 0 1 = cc in omega arith
    ]) e

pub no_tokens : (s p m : ℕ) (ts : List Token) → slice_get (statements_on s p m ts) 0 ≡ None → ts ≡ []
no_tokens s p m [] e = refl
no_tokens s p m (t ∷ ts) e = absurd (some_statement s p m t ts e)

module _ (ts : List Token) (i : ℕ) (d : Token) (h : i < length ts) where
  last_here : eqb (length (drop (i + 1) ts)) 0 ≡ eqb (i + 1) (length ts)
  last_here = let l = length-drop (i + 1) ts in grind (arith, nat_tests)

  turn : (s p m : ℕ) → statements_on s p m (drop i ts) ≡ beyond s p m (get_or ts i d) (drop (i + 1) ts) (end_after s (get_or ts i d) (eqb (i + 1) (length ts)))
  turn s p m =
      ap (statements_on s p m) (drop_more ts i d h)
      ∙ ap (λ (b : Bool). beyond s p m (get_or ts i d) (drop (i + 1) ts) (end_after s (get_or ts i d) b)) last_here

  -- no end stands after the token at i: the statement goes on
  pub statements_more : (s p m : ℕ) → end_after s (get_or ts i d) (eqb (i + 1) (length ts)) ≡ None → statements_on s p m (drop i ts) ≡ statements_on (next_state s (get_or ts i d)) (p + 1) (m + cond (solid (get_or ts i d)) 1 0) (drop (i + 1) ts)
  statements_more s p m e = turn s p m ∙ ap (beyond s p m (get_or ts i d) (drop (i + 1) ts)) e

  pub state_more : (s : ℕ) → state_after s (take (i + 1) ts) ≡ next_state (state_after s (take i ts)) (get_or ts i d)
  state_more s = ap (state_after s) (take_more ts i d h) ∙ state_after_push s (take i ts) (get_or ts i d)
