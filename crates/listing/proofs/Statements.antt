-- What a walk writes are the lines of the statements of its tokens.
use Rattle.std.proofs.Common.{◌≡◌, ℕ, suc, ◌+◌, ◌-◌, ◌<◌, cond, eqb, List, [], ◌∷◌, ◌++◌, length, take, drop, Some, None, Option, sym, refl, ap, ◌∙◌, append_assoc, append-nil, arith}
use Rattle.std.proofs.lemmas.Bool.{eq-eqb, ne_eqb}
use Rattle.lexer.specs.declared.token.Token.{Token}
use Rattle.statement.specs.declared.Cause.{Cause}
use Rattle.statement.specs.declared.Statement.{Statement}
use Rattle.statement.specs.Ends.{solid, next_state, end_after}
use Rattle.statement.specs.Statements.{by_end, statements_on}
use Rattle.listing.specs.Lines.{token_bytes, end_bytes, total_bytes}
use Rattle.lexer.specs.Cut.{lengths}
use Rattle.lexer.specs.Laws.{NoneEmpty}
use Rattle.listing.specs.Listed.{token_lines, statement_lines, listed}
use Rattle.listing.specs.Walk.{Walked, at_front, end_there, past, lines_of_end, total_line}
use Rattle.listing.proofs.Walks.{walked, lines_on, place-past, place-walked}

-- the tokens to come cover the rest of the text
record Covers (size : ℕ) (w : Walked) (ts : List Token) : Type 0 where
  whole : w.place + lengths ts ≡ size
  none_empty : NoneEmpty ts

covers_more : (size : ℕ) (w : Walked) (t : Token) (ts : List Token) (end : Option Cause) → Covers size w (t ∷ ts) → Covers size (past w t end) ts
covers_more size w t ts end c =
    record { whole = omega (arith, place-past w t end, c.whole); none_empty = c.none_empty.1 }

-- a token ends where the text does exactly if none comes after it
last_there : (size : ℕ) (w : Walked) (t : Token) (ts : List Token) → Covers size w (t ∷ ts) → eqb (w.place + t.len) size ≡ eqb (length ts) 0
last_there size w t [] c = eq-eqb (w.place + t.len) size (omega (arith, c.whole))
last_there size w t (u ∷ us) c =
    ne_eqb (w.place + t.len) size (λ e. omega (arith, c.whole, c.none_empty.1.0)) ∙ sym (ne_eqb (suc (length us)) 0 (λ e. omega arith))

-- the end that stands after the next token
abbrev next_end : Walked → Token → List Token → Option Cause
next_end w t ts = end_after w.rule t (eqb (length ts) 0)

end_same : (size : ℕ) (w : Walked) (t : Token) (ts : List Token) → Covers size w (t ∷ ts) → end_there size w t ≡ next_end w t ts
end_same size w t ts c = ap (end_after w.rule t) (last_there size w t ts c)

-- the statements of the tokens to come
abbrev ahead : Walked → List Token → List Statement
ahead w ts = statements_on w.rule w.passed w.solid ts

-- the ends are counted
ends-walked : (size : ℕ) (ts : List Token) (w : Walked) → Covers size w ts → (walked size w ts).ends ≡ w.ends + length (ahead w ts)
ends-walked size [] w c = omega arith
ends-walked size (t ∷ ts) w c =
    ap (λ e. (walked size (past w t e) ts).ends) (end_same size w t ts c)
    ∙ (elim (next_end w t ts) as (λ e. (walked size (past w t e) ts).ends ≡ w.ends + length (by_end e (ahead (past w t None) ts) (λ cause. record { tokens = w.passed + 1; solid = w.solid + cond (solid t) 1 0; cause = cause } ∷ ahead (past w t (Some cause)) ts))) [
      | None ↦ ends-walked size ts (past w t None) (covers_more size w t ts None c)
      | Some cause ↦ omega (arith, ends-walked size ts (past w t (Some cause)) (covers_more size w t ts (Some cause) c))
    ])

tokens-past : (w : Walked) (t : Token) (end : Option Cause) → (past w t end).tokens ≡ w.tokens + 1
tokens-past w t None = refl
tokens-past w t (Some cause) = refl

tokens-walked : (size : ℕ) (ts : List Token) (w : Walked) → (walked size w ts).tokens ≡ w.tokens + length ts
tokens-walked size [] w = omega arith
tokens-walked size (t ∷ ts) w =
    omega (arith, tokens-walked size ts (past w t (end_there size w t)), tokens-past w t (end_there size w t))

-- the lines of a statement of which k tokens are to come, from its start and the place, and those after it
abbrev piece : ℕ → ℕ → ℕ → List Token → Statement → List Statement → List ℕ
piece start place k ts s ss =
    token_lines place (take k ts)
    ++ (end_bytes (record { start = start; len = place + lengths (take k ts) - start; cause = s.cause; tokens = s.tokens; solid = s.solid })
    ++ statement_lines (place + lengths (take k ts)) (drop k ts) ss)

abbrev lines_ahead : Walked → List Token → List Statement → List ℕ
lines_ahead w ts [] = []
lines_ahead w ts (s ∷ ss) = piece w.start w.place (s.tokens - w.passed) ts s ss

module _ (start place : ℕ) (t : Token) (ts : List Token) (s : Statement) (ss : List Statement) where
  line : List ℕ
  line = token_bytes (record { place = place; token = t })

  -- from how many bytes the statement has before the rest
  after_tokens : List ℕ → ℕ → ℕ → List ℕ
  after_tokens own place_after k =
      own
      ++ (end_bytes (record { start = start; len = place_after - start; cause = s.cause; tokens = s.tokens; solid = s.solid })
      ++ statement_lines place_after (drop k ts) ss)

  piece_more : (k : ℕ) → piece start place (suc k) (t ∷ ts) s ss ≡ token_bytes (record { place = place; token = t }) ++ piece start (place + t.len) k ts s ss
  unfolding line after_tokens
  piece_more k =
      append_assoc line (token_lines (place + t.len) (take k ts)) _
      ∙ ap (λ n. line ++ after_tokens (token_lines (place + t.len) (take k ts)) n k) (let e : place + (t.len + lengths (take k ts)) ≡ place + t.len + lengths (take k ts) = omega arith in e)

-- a statement of which no token was passed
lines_fresh : (place : ℕ) (ts : List Token) (w : Walked) (ss : List Statement) → w.passed ≡ 0 → w.start ≡ place → w.place ≡ place → lines_ahead w ts ss ≡ statement_lines place ts ss
lines_fresh place ts w [] none start here = refl
lines_fresh place ts w (s ∷ ss) none start here =
    let k : s.tokens - w.passed ≡ s.tokens = omega arith in
    let own = take s.tokens ts in
    let len : place + lengths own - place ≡ lengths own = omega arith in
    ap (λ n. piece w.start w.place n ts s ss) k
    ∙ ap (λ a. piece a w.place s.tokens ts s ss) start
    ∙ ap (λ a. piece place a s.tokens ts s ss) here
    ∙ ap (λ n. token_lines place own ++ (end_bytes (record { start = place; len = n; cause = s.cause; tokens = s.tokens; solid = s.solid }) ++ statement_lines (place + lengths own) (drop s.tokens ts) ss)) len

-- tokens make a statement, which has more tokens than were passed
record SomeAhead (p : ℕ) (ss : List Statement) : Type 0 where
  first : Statement
  rest : List Statement
  is : ss ≡ first ∷ rest
  more : p < first.tokens

some_ahead : (d p m : ℕ) (t : Token) (ts : List Token) → SomeAhead p (statements_on d p m (t ∷ ts))
some_ahead d p m t [] = record { first = _; rest = []; is = refl; more = omega arith }
some_ahead d p m t (u ∷ us) =
    elim (end_after d t (eqb (length (u ∷ us)) 0)) as (λ e. SomeAhead p (by_end e (statements_on (next_state d t) (p + 1) (m + cond (solid t) 1 0) (u ∷ us)) (λ cause. record { tokens = p + 1; solid = m + cond (solid t) 1 0; cause = cause } ∷ statements_on (next_state d t) 0 0 (u ∷ us)))) [
      | None ↦ (let x = some_ahead (next_state d t) (p + 1) (m + cond (solid t) 1 0) u us in record { first = x.first; rest = x.rest; is = x.is; more = omega (arith, x.more) })
      | Some cause ↦ record { first = _; rest = _; is = refl; more = omega arith }
    ]

module _ (w : Walked) (t : Token) (ts : List Token) where
  abbrev own_line : List ℕ
  own_line = token_bytes (record { place = w.place; token = t })

  -- the statement goes on after the token
  goes_on : (x : Statement) (xs : List Statement) → w.passed + 1 < x.tokens → lines_ahead w (t ∷ ts) (x ∷ xs) ≡ own_line ++ lines_ahead (past w t None) ts (x ∷ xs)
  goes_on x xs more =
      let k : x.tokens - w.passed ≡ suc (x.tokens - (w.passed + 1)) = omega arith in
      ap (λ n. piece w.start w.place n (t ∷ ts) x xs) k ∙ piece_more w.start w.place t ts x xs (x.tokens - (w.passed + 1))

  -- it ends there
  ends_here : (cause : Cause) (ss : List Statement) → lines_ahead w (t ∷ ts) (record { tokens = w.passed + 1; solid = w.solid + cond (solid t) 1 0; cause = cause } ∷ ss) ≡ own_line ++ (lines_of_end w t (Some cause) ++ statement_lines (w.place + t.len) ts ss)
  ends_here cause ss =
      let s : Statement = record { tokens = w.passed + 1; solid = w.solid + cond (solid t) 1 0; cause = cause } in
      let k : w.passed + 1 - w.passed ≡ 1 = omega arith in
      let n : w.place + t.len + 0 ≡ w.place + t.len = omega arith in
      ap (λ n. piece w.start w.place n (t ∷ ts) s ss) k
      ∙ piece_more w.start w.place t ts s ss 0
      ∙ ap (λ n. own_line ++ (end_bytes (record { start = w.start; len = n - w.start; cause = cause; tokens = w.passed + 1; solid = w.solid + cond (solid t) 1 0 }) ++ statement_lines n ts ss)) n

goes_on_lines : (w : Walked) (t : Token) (ts : List Token) → next_end w t ts ≡ None → lines_ahead w (t ∷ ts) (ahead (past w t None) ts) ≡ token_bytes (record { place = w.place; token = t }) ++ lines_ahead (past w t None) ts (ahead (past w t None) ts)
goes_on_lines w t [] q = let z : ◌≡◌ {A = ℕ} 0 1 = cc in absurd (omega arith)
goes_on_lines w t (u ∷ us) q =
    let v = past w t None in
    let x = some_ahead v.rule v.passed v.solid u us in
    ap (lines_ahead w (t ∷ u ∷ us)) x.is
    ∙ goes_on w t (u ∷ us) x.first x.rest x.more
    ∙ ap (λ l. token_bytes (record { place = w.place; token = t }) ++ lines_ahead v (u ∷ us) l) (sym x.is)

lines_are : (size : ℕ) (ts : List Token) (w : Walked) → Covers size w ts → lines_on size w ts ≡ lines_ahead w ts (ahead w ts)
lines_are size [] w c = refl
lines_are size (t ∷ ts) w c =
    let line = token_bytes (record { place = w.place; token = t }) in
    ap (λ e. (line ++ lines_of_end w t e) ++ lines_on size (past w t e) ts) (end_same size w t ts c)
    ∙ (elim (next_end w t ts) as (λ e. next_end w t ts ≡ e → (line ++ lines_of_end w t e) ++ lines_on size (past w t e) ts ≡ lines_ahead w (t ∷ ts) (by_end e (ahead (past w t None) ts) (λ cause. record { tokens = w.passed + 1; solid = w.solid + cond (solid t) 1 0; cause = cause } ∷ ahead (past w t (Some cause)) ts))) [
      | None ↦ λ q. ap (λ l. l ++ lines_on size (past w t None) ts) (append-nil line) ∙ ap (λ l. line ++ l) (lines_are size ts (past w t None) (covers_more size w t ts None c)) ∙ sym (goes_on_lines w t ts q)
      | Some cause ↦ λ q. (
          let v = past w t (Some cause) in
          append_assoc line (lines_of_end w t (Some cause)) (lines_on size v ts)
          ∙ ap (λ l. line ++ (lines_of_end w t (Some cause) ++ l)) (lines_are size ts v (covers_more size w t ts (Some cause) c) ∙ lines_fresh (w.place + t.len) ts v (ahead v ts) refl refl refl)
          ∙ sym (ends_here w t ts cause (ahead v ts)))
    ]) refl

-- a walk over all tokens of a text writes what is to be listed
pub walk_lists : (size : ℕ) (ts : List Token) → lengths ts ≡ size → NoneEmpty ts → lines_on size at_front ts ++ total_bytes (total_line (walked size at_front ts)) ≡ listed ts
walk_lists size ts whole none_empty =
    let c : Covers size at_front ts = record { whole = omega arith; none_empty = none_empty } in
    let place : (walked size at_front ts).place ≡ lengths ts = omega (arith, place-walked size at_front ts) in
    let tokens : (walked size at_front ts).tokens ≡ length ts = omega (arith, tokens-walked size ts at_front) in
    let ends : (walked size at_front ts).ends ≡ length (ahead at_front ts) = omega (arith, ends-walked size ts at_front c) in
    ap (λ l. l ++ total_bytes (total_line (walked size at_front ts))) (lines_are size ts at_front c ∙ lines_fresh 0 ts at_front (ahead at_front ts) refl refl refl)
    ∙ (λ i. statement_lines 0 ts (ahead at_front ts) ++ total_bytes (record { bytes = place i; tokens = tokens i; ends = ends i }))
