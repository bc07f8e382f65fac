-- The cut is one token after another.
use Rattle.std.proofs.Common.{◌≡◌, ℕ, zero, suc, ◌+◌, ◌-◌, ◌<◌, ◌≤◌, true, cond, ltb, List, [], ◌∷◌, length, take, drop, Some, None, sym, refl, ap, ◌∙◌, inl, inr, arith}
use Rattle.lexer.proofs.TokenAt.{mark_front}
use Rattle.lexer.proofs.Within.{lex_within}
use Rattle.lexer.specs.Cut.{cut, cut_after, lengths}
use Rattle.lexer.specs.Laws.{AddsUp, NoneEmpty, ReadsCut, SameTail, border}
use Rattle.lexer.specs.Lex.{lex, marked, token_at, token_from}
use Rattle.lexer.specs.declared.token.Token.{Token}
use Rattle.std.proofs.lemmas.List.{drop-drop, length-drop}
use Rattle.std.proofs.lemmas.Bool.{cases_Bool}
use Rattle.std.proofs.lemmas.Bool.Decides.{nat_tests}
use Rattle.std.proofs.lemmas.Grind.{common_steps}
use Rattle.std.proofs.lemmas.Option.{gets}
use Rattle.std.specs.List.{slice_get}

-- what is covered is passed over
pub cut_drop : (n : ℕ) (xs : List ℕ) → cut_after n xs ≡ cut_after 0 (drop n xs)
unfolding cut_after
cut_drop zero [] = refl
cut_drop zero (x ∷ xs) = refl
cut_drop (suc n) [] = refl
cut_drop (suc n) (x ∷ xs) = cut_drop n xs

-- a token, and the tokens of what follows it
pub cut_token : (x : ℕ) (xs : List ℕ) → cut_after 0 (x ∷ xs) ≡ lex x xs ∷ cut_after 0 (drop (lex x xs).len (x ∷ xs))
unfolding cut_after
cut_token x xs =
    let some = (lex_within x xs).0 in
    let e : (lex x xs).len ≡ suc ((lex x xs).len - 1) = omega arith in
    ap (λ l. lex x xs ∷ l) (cut_drop ((lex x xs).len - 1) xs ∙ ap (λ n. cut_after 0 (drop n (x ∷ xs))) (sym e))

-- so many bytes are covered as are there
covered : (n : ℕ) (xs : List ℕ) → n ≤ length xs → n + lengths (cut_after n xs) ≡ length xs
unfolding cut_after
covered zero [] h = refl
covered (suc n) [] h = absurd (omega arith)
covered zero (x ∷ xs) h =
    let t = lex_within x xs in
    let more = covered ((lex x xs).len - 1) xs (omega arith) in
    omega arith
covered (suc n) (x ∷ xs) h = let more = covered n xs (omega arith) in omega arith

none_empty : (n : ℕ) (xs : List ℕ) → NoneEmpty (cut_after n xs)
unfolding cut_after
none_empty n [] = tt
none_empty zero (x ∷ xs) = ((lex_within x xs).0, none_empty ((lex x xs).len - 1) xs)
none_empty (suc n) (x ∷ xs) = none_empty n xs

-- a mark is three bytes
marked-length : (xs : List ℕ) → marked xs ≡ true → 3 ≤ length xs
marked-length xs m = omega (arith, ap length (mark_front xs m))

pub adds_up : AddsUp
adds_up xs =
    elim (cases_Bool (marked xs)) [
      | inl e ↦ let rest = covered 3 xs (marked-length xs e) in simp e (rest, (omega arith, none_empty 3 xs))
      | inr e ↦ let all = covered 0 xs (omega arith) in simp e (omega arith, none_empty 0 xs)
    ]

ends : (m : ℕ) → drop (suc m) (cut_after 0 []) ≡ cut_after 0 (drop (lengths (take (suc m) (cut_after 0 []))) [])
unfolding cut_after
ends m = refl

-- the tokens after some of them are those of the bytes after these
after_border : (m : ℕ) (xs : List ℕ)
    → drop m (cut_after 0 xs) ≡ cut_after 0 (drop (lengths (take m (cut_after 0 xs))) xs)
after_border zero xs = refl
after_border (suc m) [] = ends m
after_border (suc m) (x ∷ xs) =
    let t = lex x xs in
    let ys = drop t.len (x ∷ xs) in
    let ts = cut_after 0 ys in
    ap (drop (suc m)) (cut_token x xs) ∙ after_border m ys
    ∙ ap (cut_after 0) (drop-drop (lengths (take m ts)) t.len (x ∷ xs))
    ∙ sym (ap (λ l. cut_after 0 (drop (lengths (take (suc m) l)) (x ∷ xs))) (cut_token x xs))

-- the same of a whole text, from its first token's end on
pub after_tokens : (m : ℕ) (xs : List ℕ) → 0 < m → drop m (cut xs) ≡ cut_after 0 (drop (border xs m) xs)
after_tokens zero xs h = absurd (omega arith)
after_tokens (suc m) xs h =
    elim (cases_Bool (marked xs)) [
      | inl e ↦
          let past = cut_drop 3 xs in
          let ts = cut_after 3 xs in
          simp e (ap (drop m) past ∙ after_border m (drop 3 xs)
          ∙ ap (λ l. cut_after 0 (drop (lengths (take m l)) (drop 3 xs))) (sym past)
          ∙ ap (cut_after 0) (drop-drop (lengths (take m ts)) 3 xs))
      | inr e ↦ simp e (after_border (suc m) xs)
    ]

pub same_tail : SameTail
same_tail xs ys m n p _ q _ e = after_tokens m xs p ∙ ap (cut_after 0) e ∙ sym (after_tokens n ys q)

-- the first token of a list, if there is one
first_token : (xs : List ℕ) → slice_get (cut_after 0 xs) 0 ≡ cond (ltb 0 (length xs)) (Some (token_from xs)) None
unfolding cut_after
first_token [] = refl
first_token (x ∷ xs) = grind (arith, nat_tests)

-- the token at a place is the first of what follows, but for a byte-order mark
token_first : (xs : List ℕ) → token_at xs 0 ≡ slice_get (cut xs) 0
token_first xs = grind (arith, nat_tests, first_token xs)

token_later : (xs : List ℕ) (place : ℕ) → 0 < place → token_at xs place ≡ slice_get (cut_after 0 (drop place xs)) 0
token_later xs place h = grind (arith, nat_tests, length-drop place xs, first_token (drop place xs))

slice_get_rest : (ts : List Token) (m : ℕ) → slice_get ts m ≡ slice_get (drop m ts) 0
slice_get_rest ts m = grind (arith, common_steps, gets)

-- the first token ends after place 0, unless the text is empty
tokens_cover : (ts : List Token) (m : ℕ) → NoneEmpty ts → 0 < lengths ts → 0 < lengths (take (suc m) ts)
tokens_cover [] m e h = h
tokens_cover (t ∷ ts) m e h = let some = e.0 in omega arith

none_read : (m : ℕ) → token_at [] (border [] (suc m)) ≡ slice_get (cut []) (suc m)
unfolding cut_after
none_read m = refl

pub reads_cut : ReadsCut
reads_cut xs zero = token_first xs
reads_cut [] (suc m) = none_read m
reads_cut (x ∷ xs) (suc m) =
    let bs = x ∷ xs in
    let all = adds_up bs in
    let past = tokens_cover (cut bs) m all.1 (omega (arith, all.0)) in
    token_later bs (border bs (suc m)) past ∙ sym (ap (λ l. slice_get l 0) (after_tokens (suc m) bs (omega arith)))
    ∙ sym (slice_get_rest (cut bs) (suc m))
