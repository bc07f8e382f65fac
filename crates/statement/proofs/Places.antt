-- The places where the statements of a text end.
use Rattle.std.proofs.Common.{◌≡◌, ℕ, zero, suc, ◌+◌, ◌-◌, ◌<◌, ◌≤◌, Bool, true, false, cond, ◌&&◌, eqb, List, [], ◌∷◌, length, take, Some, None, unwrap_or, sym, refl, ap, ◌∙◌, subst, arith}
use Rattle.std.specs.List.{slice_get}
use Rattle.std.proofs.lemmas.Bool.{eqb-true, and_parts}
use Rattle.lexer.proofs.Cuts.{reads_cut}
use Rattle.lexer.proofs.LoneSemicolon.{lone_place}
use Rattle.lexer.proofs.Readings.{token_end}
use Rattle.lexer.specs.Cut.{cut, lengths}
use Rattle.lexer.specs.Laws.{border}
use Rattle.lexer.specs.declared.token.Token.{Token}
use Rattle.lexer.specs.declared.token.TokenKind.{TokenKind}
use Rattle.lexer.specs.declared.token.TokenKind.TheVariants.{Semi}
use Rattle.statement.specs.declared.Cause.{Cause}
use Rattle.statement.specs.declared.Cause.TheVariants.{Semicolon, Last, Unterminated}
use Rattle.statement.specs.declared.Statement.{Statement}
use Rattle.statement.specs.Roles.{Role, blank, plain, opening, closing, semicolon, command, role}
use Rattle.statement.specs.Ends.{solid, unterminated, next_state, own_end, role_end, last_cause, end_after}
use Rattle.statement.specs.Statements.{statements_on}
use Rattle.statement.specs.Laws.{tokens_in}
use Rattle.statement.specs.EndLaws.{lone_semicolon, statements_of_text, EndStands, EndsStand}
use Rattle.statement.proofs.Semicolons.{OfSemicolon, semicolon_kind}
use Rattle.statement.proofs.Turns.{beyond}

-- an end with a `;` as its cause stands after one that is a token of its own
role_lone : (d n : ℕ) (k : TokenKind) (r : Role) → OfSemicolon (k ≡ Semi) r → role_end d n r ≡ Some Semicolon → (k ≡ Semi) × (n ≡ 1)
role_lone d n k (blank b) s e = let z : ◌≡◌ {A = ℕ} 0 1 = cc in absurd (omega arith)
role_lone d n k (plain b) s e = let z : ◌≡◌ {A = ℕ} 0 1 = cc in absurd (omega arith)
role_lone d n k opening s e = let z : ◌≡◌ {A = ℕ} 0 1 = cc in absurd (omega arith)
role_lone d n k closing s e = let z : ◌≡◌ {A = ℕ} 0 1 = cc in absurd (omega arith)
role_lone d n k (command true) s e = let z : ◌≡◌ {A = ℕ} 0 1 = cc in absurd (omega arith)
role_lone d n k (command false) s e = let z : ◌≡◌ {A = ℕ} 0 1 = cc in absurd (omega arith)
role_lone d n k semicolon s e =
    (elim (eqb n 1 && eqb d 0) as (λ b. (eqb n 1 && eqb d 0) ≡ b → cond b (Some Semicolon) None ≡ Some Semicolon → (k ≡ Semi) × (n ≡ 1)) [
      | true ↦ λ q _. (s, eqb-true n 1 (and_parts (eqb n 1) (eqb d 0) q).0)
      | false ↦ λ q y. let z : ◌≡◌ {A = ℕ} 0 1 = cc in absurd (omega arith)
    ]) refl e

own_lone : (d : ℕ) (t : Token) → own_end d t ≡ Some Semicolon → t ≡ lone_semicolon
own_lone d t e =
    let parts = role_lone d t.len t.kind (role t.kind) (semicolon_kind t.kind) e in
    ap (λ (k : TokenKind). record { kind = k; len = t.len }) parts.0 ∙ ap (λ (n : ℕ). record { kind = Semi; len = n }) parts.1

last_other : (b : Bool) → cond b Unterminated Last ≡ Semicolon → ⊥
last_other true e = let z : ◌≡◌ {A = ℕ} 0 1 = cc in omega arith
last_other false e = let z : ◌≡◌ {A = ℕ} 0 1 = cc in omega arith

end_lone : (d : ℕ) (t : Token) (last : Bool) → end_after d t last ≡ Some Semicolon → t ≡ lone_semicolon
end_lone d t false e = own_lone d t e
end_lone d t true e =
    (elim (own_end d t) as (λ o. own_end d t ≡ o → Some (unwrap_or o (last_cause t)) ≡ Some Semicolon → t ≡ lone_semicolon) [
      | None ↦ λ _ y. absurd (last_other (unterminated t) (cc))
      | Some cause ↦ λ q y. own_lone d t (q ∙ y)
    ]) refl e

-- an end after n tokens, of which p were passed before ts
record Stands (p n : ℕ) (ts : List Token) (cause : Cause) : Type 0 where
  some : p < n
  there : n ≤ p + length ts
  lone : cause ≡ Semicolon → slice_get ts (n - (p + 1)) ≡ Some lone_semicolon

slice_get_later : (t : Token) (ts : List Token) (i j : ℕ) → i ≡ suc j → slice_get (t ∷ ts) i ≡ slice_get ts j
slice_get_later t ts i j e = ap (slice_get (t ∷ ts)) e

-- from the tokens after t to those with it: t goes on with a statement, or ends one before
one_more : (t : Token) (ts : List Token) (p n : ℕ) (cause : Cause) → Stands (p + 1) n ts cause → Stands p n (t ∷ ts) cause
one_more t ts p n cause x =
    let some = x.some in
    let there = x.there in
    record {
      some = omega arith;
      there = omega arith;
      lone = λ c. slice_get_later t ts (n - (p + 1)) (n - (p + 1 + 1)) (omega arith) ∙ x.lone c;
    }

after_end : (t : Token) (ts : List Token) (p n : ℕ) (cause : Cause) → Stands 0 n ts cause → Stands p (p + 1 + n) (t ∷ ts) cause
after_end t ts p n cause x =
    let some = x.some in
    let there = x.there in
    record {
      some = omega arith;
      there = omega arith;
      lone = λ c. slice_get_later t ts (p + 1 + n - (p + 1)) (n - (0 + 1)) (omega arith) ∙ x.lone c;
    }

at_end : (t : Token) (ts : List Token) (p : ℕ) (cause : Cause) → (cause ≡ Semicolon → t ≡ lone_semicolon) → Stands p (p + 1 + 0) (t ∷ ts) cause
at_end t ts p cause f =
    let first : p + 1 + 0 - (p + 1) ≡ 0 = omega arith in
    record {
      some = omega arith;
      there = omega arith;
      lone = λ c. ap (slice_get (t ∷ ts)) first ∙ ap Some (f c);
    }

stands : (ts : List Token) (s p m k : ℕ) (st : Statement) → slice_get (statements_on s p m ts) k ≡ Some st → Stands p (tokens_in (take (suc k) (statements_on s p m ts))) ts st.cause
stands [] s p m k st e = let z : ◌≡◌ {A = ℕ} 0 1 = cc in absurd (omega arith)
stands (t ∷ ts) s p m zero st e =
    (elim (end_after s t (eqb (length ts) 0)) as (λ o. end_after s t (eqb (length ts) 0) ≡ o → slice_get (beyond s p m t ts o) 0 ≡ Some st → Stands p (tokens_in (take 1 (beyond s p m t ts o))) (t ∷ ts) st.cause) [
      | None ↦ λ _ y. one_more t ts p (tokens_in (take 1 (beyond s p m t ts None))) st.cause (stands ts (next_state s t) (p + 1) (m + cond (solid t) 1 0) 0 st y)
      | Some cause ↦ λ q y.
          let same : cause ≡ st.cause = cc in
          at_end t ts p st.cause (λ c. end_lone s t (eqb (length ts) 0) (q ∙ ap Some (same ∙ c)))
    ]) refl e
stands (t ∷ ts) s p m (suc k) st e =
    (elim (end_after s t (eqb (length ts) 0)) as (λ o. slice_get (beyond s p m t ts o) (suc k) ≡ Some st → Stands p (tokens_in (take (suc (suc k)) (beyond s p m t ts o))) (t ∷ ts) st.cause) [
      | None ↦ λ y. one_more t ts p (tokens_in (take (suc (suc k)) (beyond s p m t ts None))) st.cause (stands ts (next_state s t) (p + 1) (m + cond (solid t) 1 0) (suc k) st y)
      | Some cause ↦ λ y. after_end t ts p (tokens_in (take (suc k) (statements_on (next_state s t) 0 0 ts))) st.cause (stands ts (next_state s t) 0 0 k st y)
    ]) e

-- where the first m tokens end is inside no token
none_inside : (ts : List Token) (m i : ℕ) → lengths (take i ts) < lengths (take m ts) → lengths (take m ts) < lengths (take (suc i) ts) → ⊥
none_inside [] zero i h g = omega arith
none_inside [] (suc m) zero h g = omega arith
none_inside [] (suc m) (suc i) h g = omega arith
none_inside (t ∷ ts) zero i h g = omega arith
none_inside (t ∷ ts) (suc m) zero h g = omega arith
none_inside (t ∷ ts) (suc m) (suc i) h g = none_inside ts m i (omega arith) (omega arith)

-- the byte before a border is a `;` if the token there is one
last_byte : (bs : List ℕ) (m : ℕ) → 0 < m → slice_get (cut bs) (m - 1) ≡ Some lone_semicolon → slice_get bs (border bs m - 1) ≡ Some 59
last_byte bs m h e =
    let i = m - 1 in
    let next : suc i ≡ m = omega arith in
    let long = token_end (cut bs) i lone_semicolon e in
    let place : border bs (suc i) - 1 ≡ border bs i = omega (arith, long) in
    ap (λ n. slice_get bs (border bs n - 1)) (sym next) ∙ ap (slice_get bs) place ∙ lone_place bs (border bs i) (reads_cut bs i ∙ e)

pub ends_stand : EndsStand
ends_stand bs k s e =
    let ss = statements_of_text bs in
    let x = stands (cut bs) 0 0 0 k s e in
    let next : (n : ℕ) → suc n ≡ n + 1 = λ n. omega arith in
    subst (λ n. EndStands bs (tokens_in (take n ss)) s.cause) (next k) record {
      some = x.some;
      there = omega (arith, x.there);
      semicolon = x.lone;
      byte = λ c. last_byte bs (tokens_in (take (suc k) ss)) x.some (x.lone c);
      outside = λ i h. none_inside (cut bs) (tokens_in (take (suc k) ss)) i h.begins (subst (λ n. border bs (tokens_in (take (suc k) ss)) < border bs n) (sym (next i)) h.ends);
    }
