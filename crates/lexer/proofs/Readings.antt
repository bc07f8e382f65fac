-- Tokens read one after another from a text's start to its end are its cut.
use Rattle.std.proofs.Common.{◌≡◌, ℕ, zero, suc, ◌+◌, List, [], ◌∷◌, length, take, drop, Some, sym, refl, ap, ◌∙◌, subst, arith}
use Rattle.lexer.proofs.Cuts.{adds_up, reads_cut}
use Rattle.lexer.specs.Cut.{cut, lengths}
use Rattle.lexer.specs.Laws.{NoneEmpty, border}
use Rattle.lexer.specs.Lex.{token_at}
use Rattle.lexer.specs.declared.token.Token.{Token}
use Rattle.std.proofs.lemmas.Grind.{common_steps}
use Rattle.std.proofs.lemmas.Option.{gets}
use Rattle.std.specs.List.{slice_get}

-- tokens read from a place on, each where the one before it ends
abbrev pub Reads : List ℕ → ℕ → List Token → Type 0
Reads bs place [] = Unit {0}
Reads bs place (t ∷ ts) = (token_at bs place ≡ Some t) × Reads bs (place + t.len) ts

-- where all bytes are covered no token is left
none_left : (ts : List Token) (k : ℕ) → NoneEmpty ts → lengths (take k ts) ≡ lengths ts → [] ≡ drop k ts
none_left [] zero e h = refl
none_left [] (suc k) e h = refl
none_left (t ∷ ts) zero e h = let some = e.0 in absurd (omega arith)
none_left (t ∷ ts) (suc k) e h = none_left ts k e.1 (omega arith)

-- the token at an index, and those after it
token_next : (ts : List Token) (k : ℕ) (t : Token) → slice_get ts k ≡ Some t → drop k ts ≡ t ∷ drop (suc k) ts
token_next ts k t e = grind (arith, common_steps, gets)

-- a token ends its length after those before it
pub token_end : (ts : List Token) (k : ℕ) (t : Token) → slice_get ts k ≡ Some t
    → lengths (take (suc k) ts) ≡ lengths (take k ts) + t.len
token_end [] k t e = cc
token_end (u ∷ ts) zero t e = let same : u ≡ t = cc in omega (arith, ap (λ x. x.len) same)
token_end (u ∷ ts) (suc k) t e = omega (arith, token_end ts k t e)

from_border : (bs : List ℕ) (k : ℕ) (ts : List Token) → Reads bs (border bs k) ts → border bs k + lengths ts ≡ length bs
    → ts ≡ drop k (cut bs)
from_border bs k [] r h = let all = adds_up bs in none_left (cut bs) k all.1 (omega (arith, all.0))
from_border bs k (t ∷ ts) r h =
    let at = sym (reads_cut bs k) ∙ r.0 in
    let end = token_end (cut bs) k t at in
    let next = subst (λ (p : ℕ). Reads bs p ts) (sym end) r.1 in
    ap (λ l. t ∷ l) (from_border bs (suc k) ts next (omega arith)) ∙ sym (token_next (cut bs) k t at)

pub reads_all : (bs : List ℕ) (ts : List Token) → Reads bs 0 ts → lengths ts ≡ length bs → ts ≡ cut bs
reads_all bs ts r h = from_border bs 0 ts r (omega arith)
