-- The depth is how many parentheses are left open.
use Rattle.std.proofs.Common.{◌≡◌, ℕ, ◌+◌, ◌≤◌, true, false, cond, ◌&&◌, eqb, List, [], ◌∷◌, length, Some, None, sym, refl, ap, ◌∙◌, subst, arith}
use Rattle.std.proofs.lemmas.Bool.{eq-eqb, eqb-true, and_parts, and_from}
use Rattle.lexer.specs.declared.token.Token.{Token}
use Rattle.statement.specs.declared.Cause.TheVariants.{Semicolon}
use Rattle.statement.specs.Roles.{Role, blank, plain, opening, closing, semicolon, command, role}
use Rattle.statement.specs.Ends.{role_state, own_end, role_end}
use Rattle.statement.specs.Statements.{state_after}
use Rattle.statement.specs.Laws.{opens, closes, ends_query, openings, closings, Unbroken, OpenAtMost, DepthCounts, SemicolonEnds}

-- one token takes the surplus of the tokens after it to its own, from the depth before it
surplus_more : (r : Role) (d o c k : ℕ) → d + 1 ≤ 4294967295 → ends_query r ≡ false → role_state d r + o ≤ c + k → d + (opens r + o) ≤ closes r + c + k
surplus_more (blank b) d o c k h e x = omega arith
surplus_more (plain b) d o c k h e x = omega arith
surplus_more opening d o c k h e x = omega arith
surplus_more closing d o c k h e x = omega arith
surplus_more semicolon d o c k h e x = omega arith
surplus_more (command true) d o c k h e x = let z : ◌≡◌ {A = ℕ} 0 1 = cc in absurd (omega arith)
surplus_more (command false) d o c k h e x = omega arith

-- and back
surplus_less : (r : Role) (d o c k : ℕ) → (ends_query r ≡ false → d + (opens r + o) ≤ closes r + c + k) → o ≤ c + k → role_state d r + o ≤ c + k
surplus_less (blank b) d o c k x y = omega (arith, x refl)
surplus_less (plain b) d o c k x y = omega (arith, x refl)
surplus_less opening d o c k x y = omega (arith, x refl)
surplus_less closing d o c k x y = omega (arith, x refl)
surplus_less semicolon d o c k x y = omega (arith, x refl)
surplus_less (command true) d o c k x y = omega arith
surplus_less (command false) d o c k x y = omega (arith, x refl)

-- a token adds at most one to the depth
depth_step : (r : Role) (d : ℕ) → role_state d r ≤ d + 1
depth_step (blank b) d = omega arith
depth_step (plain b) d = omega arith
depth_step opening d = omega arith
depth_step closing d = omega arith
depth_step semicolon d = omega arith
depth_step (command true) d = omega arith
depth_step (command false) d = omega arith

open_none : (k : ℕ) → OpenAtMost k []
open_none k front [] e u = omega arith
open_none k [] (b ∷ back) e u = let z : ◌≡◌ {A = ℕ} 0 1 = cc in absurd (omega arith)
open_none k (f ∷ front) (b ∷ back) e u = let z : ◌≡◌ {A = ℕ} 0 1 = cc in absurd (omega arith)

open_more : (k : ℕ) (t : Token) (ts : List Token) → (Unbroken (t ∷ ts) → openings (t ∷ ts) ≤ closings (t ∷ ts) + k) → OpenAtMost k ts → OpenAtMost k (t ∷ ts)
open_more k t ts whole parts [] back e u =
    subst (λ (l : List Token). Unbroken l → openings l ≤ closings l + k) (sym e) whole u
open_more k t ts whole parts (f ∷ front) back e u = parts front back (cc) u

open_rest : (k : ℕ) (t : Token) (ts : List Token) → OpenAtMost k (t ∷ ts) → OpenAtMost k ts
open_rest k t ts parts front back e u = parts (t ∷ front) back (ap (λ l. t ∷ l) e) u

-- at most k are left open after d were open and ts passed
record Surplus (d k : ℕ) (ts : List Token) : Type 0 where
  whole : Unbroken ts → d + openings ts ≤ closings ts + k
  parts : OpenAtMost k ts

surplus_from : (ts : List Token) (d k : ℕ) → d + length ts ≤ 4294967295 → state_after d ts ≤ k → Surplus d k ts
surplus_from [] d k h x = record { whole = λ _. omega arith; parts = open_none k }
surplus_from (t ∷ ts) d k h x =
    let r = role t.kind in
    let step = depth_step r d in
    let rest = surplus_from ts (role_state d r) k (omega arith) x in
    let whole : Unbroken (t ∷ ts) → d + openings (t ∷ ts) ≤ closings (t ∷ ts) + k =
    λ u. surplus_more r d (openings ts) (closings ts) k (omega arith) u.0 (rest.whole u.1) in
    record { whole = whole; parts = open_more k t ts (λ u. omega (arith, whole u)) rest.parts }

from_surplus : (ts : List Token) (d k : ℕ) → Surplus d k ts → state_after d ts ≤ k
from_surplus [] d k x = omega (arith, x.whole tt)
from_surplus (t ∷ ts) d k x =
    let r = role t.kind in
    from_surplus ts (role_state d r) k (record {
      whole = λ u. surplus_less r d (openings ts) (closings ts) k (λ e. x.whole (e, u)) (x.parts (t ∷ []) ts refl u);
      parts = open_rest k t ts x.parts;
    })

pub depth_counts : DepthCounts
depth_counts ts k h = (
  λ x. (surplus_from ts 0 k (omega arith) x).parts,
  λ x. from_surplus ts 0 k (record { whole = λ u. omega (arith, x [] ts refl u); parts = x }),
)

-- a `;` ends a statement at depth 0 and nowhere else
semicolon_end : (d n : ℕ) → n ≡ 1 → (role_end d n semicolon ≡ Some Semicolon → d ≡ 0) × (d ≡ 0 → role_end d n semicolon ≡ Some Semicolon)
semicolon_end d n e = (
  λ x. (elim (eqb n 1 && eqb d 0) as (λ b. (eqb n 1 && eqb d 0) ≡ b → cond b (Some Semicolon) None ≡ Some Semicolon → d ≡ 0) [
    | true ↦ λ q _. eqb-true d 0 (and_parts (eqb n 1) (eqb d 0) q).1
    | false ↦ λ q y. let z : ◌≡◌ {A = ℕ} 0 1 = cc in absurd (omega arith)
  ]) refl x,
  λ z. ap (λ b. cond b (Some Semicolon) None) (and_from (eqb n 1) (eqb d 0) (eq-eqb n 1 e) (eq-eqb d 0 z)),
)

pub semicolon_ends : SemicolonEnds
semicolon_ends ts t h kind one =
    let d = state_after 0 ts in
    let same : own_end d t ≡ role_end d t.len semicolon = ap (λ k. role_end d t.len (role k)) kind in
    let at = semicolon_end d t.len one in
    let counts = depth_counts ts 0 h in (
      λ x. counts.0 (omega (arith, at.0 (sym same ∙ x))),
      λ x. same ∙ at.1 (omega (arith, counts.1 x)),
    )
