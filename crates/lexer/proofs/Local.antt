-- A token goes by its own bytes and the two after it, and so do the tokens up to a border.
use Rattle.std.proofs.Common.{◌≡◌, ℕ, zero, suc, ◌+◌, ◌≤◌, Bool, true, false, List, [], ◌∷◌, ◌++◌, length, take, drop, sym, refl, ap, ◌∙◌, inl, inr, arith}
use Rattle.lexer.proofs.Cuts.{cut_drop, cut_token}
use Rattle.lexer.proofs.Decided.{Decided, by_front, past, past_counted}
use Rattle.lexer.proofs.DecidedCommands.{psql_kind_decided, psql_len_decided}
use Rattle.lexer.proofs.DecidedDollars.{dollar_kind_decided, dollar_len_decided}
use Rattle.lexer.proofs.DecidedNumbers.{fractional_decided, fractional_len_decided, number_decided, number_len_decided}
use Rattle.lexer.proofs.DecidedParts.{comment_closed_decided, comment_decided, quoted_closed_decided, quoted_decided, run_decided}
use Rattle.lexer.proofs.Within.{lex_within}
use Rattle.lexer.specs.Class.{all_but, ident_cont, whitespace}
use Rattle.lexer.specs.Comment.{comment, comment_closed}
use Rattle.lexer.specs.Cursor.{run}
use Rattle.lexer.specs.Cut.{cut, cut_after, lengths, mark}
use Rattle.lexer.specs.Laws.{border}
use Rattle.lexer.specs.Lex.{kind_of, lex, marked, rest_len, start_with}
use Rattle.lexer.specs.Quoted.{has_escapes, prefix_literal, quoted, quoted_closed}
use Rattle.lexer.specs.ReachLaws.{Local, SameFront}
use Rattle.lexer.specs.Start.{start_of}
use Rattle.lexer.specs.declared.quoted.Prefix.TheVariants.{UnicodeEsc}
use Rattle.lexer.specs.declared.start.Start.TheVariants.{Blanks, Line, Block, Prefixed, UnicodeStr, UnicodeIdent, Word, Digit, Point, Dollar, Command, Quote, DoubleQuote}
use Rattle.lexer.specs.declared.start.Start.{Start}
use Rattle.lexer.specs.declared.token.LiteralKind.TheVariants.{Str}
use Rattle.lexer.specs.declared.token.Token.{Token}
use Rattle.lexer.specs.declared.token.TokenKind.TheVariants.{BlockComment, Literal, QuotedIdent}
use Rattle.lexer.specs.declared.token.TokenKind.{TokenKind}
use Rattle.std.proofs.lemmas.List.{drop-append-le, length-drop, length-take-le, take-append-drop}
use Rattle.std.proofs.lemmas.Bool.{cases_Bool}

-- what is quoted after so many bytes
module _ (n q : ℕ) (e : Bool) where
  quoted_later : Decided (λ xs. n + quoted q e (drop n xs)) (λ xs. n + quoted q e (drop n xs))
  quoted_later = past_counted n (quoted q e) (quoted_decided q e)

  closed_later : Decided (λ xs. n + quoted q e (drop n xs)) (λ xs. quoted_closed q e (drop n xs))
  closed_later = past n (quoted q e) (quoted_closed q e) (quoted_closed_decided q e)

module _ (first : ℕ) where
  rest_decided : (s : Start) → Decided (rest_len s first) (rest_len s first)
  rest_decided Blanks = run_decided whitespace
  rest_decided Line = past_counted 1 (run (all_but 10 13)) (run_decided (all_but 10 13))
  rest_decided Block = past_counted 1 (comment 1) (comment_decided 1)
  rest_decided (Prefixed prefix) = quoted_later 1 39 (has_escapes prefix)
  rest_decided UnicodeStr = quoted_later 2 39 false
  rest_decided UnicodeIdent = quoted_later 2 34 false
  rest_decided Word = run_decided ident_cont
  rest_decided Digit = number_len_decided first
  rest_decided Point = fractional_len_decided
  rest_decided Dollar = dollar_len_decided
  rest_decided Command = psql_len_decided
  rest_decided Quote = quoted_decided 39 false
  rest_decided DoubleQuote = quoted_decided 34 false
  rest_decided other = λ _ _ _ _. refl

  kind_decided : (s : Start) → Decided (rest_len s first) (kind_of s first)
  kind_decided Block p s t h =
      ap (λ b. BlockComment b) (past 1 (comment 1) (comment_closed 1) (comment_closed_decided 1) p s t h)
  kind_decided (Prefixed prefix) p s t h =
      ap (λ b. Literal (prefix_literal prefix b)) (closed_later 1 39 (has_escapes prefix) p s t h)
  kind_decided UnicodeStr p s t h = ap (λ b. Literal (prefix_literal UnicodeEsc b)) (closed_later 2 39 false p s t h)
  kind_decided UnicodeIdent p s t h = ap (λ b. QuotedIdent b true) (closed_later 2 34 false p s t h)
  kind_decided Digit p s t h = ap (λ k. Literal k) (number_decided first 1 p s t h)
  kind_decided Point p s t h = ap (λ k. Literal k) (fractional_decided 1 p s t h)
  kind_decided Dollar p s t h = dollar_kind_decided p s t h
  kind_decided Command p s t h = psql_kind_decided p s t h
  kind_decided Quote p s t h = ap (λ b. Literal (Str b)) (quoted_closed_decided 39 false p s t h)
  kind_decided DoubleQuote p s t h = ap (λ b. QuotedIdent b false) (quoted_closed_decided 34 false p s t h)
  kind_decided other p s t h = refl

abbrev token : TokenKind → ℕ → Token
token k n = record { kind = k; len = n }

module _ (first : ℕ) where
  started : (s : Start) → Decided (rest_len s first) (λ xs. token (kind_of s first xs) (1 + rest_len s first xs))
  started s p u t h = cc (kind_decided first s p u t h, rest_decided first s p u t h)

  lex_decided : Decided (λ xs. rest_len (start_with first xs) first xs) (lex first)
  unfolding lex
  lex_decided =
      by_front (start_of first) (λ s. rest_len s first)
      (λ s xs. token (kind_of s first xs) (1 + rest_len s first xs)) started

  rest_room : (p s : List ℕ) → (lex first (p ++ s)).len + 1 ≤ length p
      → rest_len (start_with first (p ++ s)) first (p ++ s) + 2 ≤ length p
  unfolding lex
  rest_room p s h = omega arith

  -- what follows the two bytes after a token may be changed
  pub lex_front : (p s t : List ℕ) → (lex first (p ++ s)).len + 1 ≤ length p → lex first (p ++ t) ≡ lex first (p ++ s)
  lex_front p s t h = lex_decided p s t (rest_room p s h)

-- what two lists share at their front, and what follows it in each
shared : (n : ℕ) (xs ys : List ℕ) → take n xs ≡ take n ys → ys ≡ take n xs ++ drop n ys
shared n xs ys e = sym (take-append-drop n ys) ∙ sym (ap (λ l. l ++ drop n ys) e)

pub local : Local
local first xs ys h e =
    let n = (lex first xs).len + 1 in
    let p = take n xs in
    let mine = take-append-drop n xs in
    let size = length-take-le n xs h in
    let same = ap (lex first) mine in
    let lens = ap (λ u. u.len) same in
    ap (lex first) (shared n xs ys e) ∙ lex_front first p (drop n xs) (drop n ys) (omega arith) ∙ same

module _ (s t : List ℕ) where
  -- the same of the tokens of a list, up to the end of one
  tokens_front : (m : ℕ) (p : List ℕ) → lengths (take m (cut_after 0 (p ++ s))) + 2 ≤ length p
      → take m (cut_after 0 (p ++ t)) ≡ take m (cut_after 0 (p ++ s))
  tokens_front zero p h = refl
  tokens_front (suc m) [] h = absurd (omega arith)
  tokens_front (suc m) (x ∷ p) h =
      let u = lex x (p ++ s) in
      let n = u.len in
      let q = drop n (x ∷ p) in
      let here = cut_token x (p ++ s) in
      let total = ap (λ l. lengths (take (suc m) l)) here in
      let room : n + 1 ≤ length p = omega arith in
      let short : n ≤ length (x ∷ p) = omega arith in
      let same = lex_front x p s t room in
      let behind : (v : List ℕ) → take m (cut_after 0 (drop n (x ∷ p ++ v))) ≡ take m (cut_after 0 (q ++ v)) =
      λ v. ap (λ l. take m (cut_after 0 l)) (drop-append-le n (x ∷ p) v short) in
      let later = ap lengths (behind s) in
      let left = length-drop n (x ∷ p) in
      let more = tokens_front m q (omega arith) in
      ap (take (suc m)) (cut_token x (p ++ t)) ∙ ap (λ v. v ∷ take m (cut_after 0 (drop v.len (x ∷ p ++ t)))) same
      ∙ ap (λ l. u ∷ l) (behind t ∙ more ∙ sym (behind s)) ∙ sym (ap (take (suc m)) here)

-- the first token of a text has a byte
some_covered : (m x : ℕ) (xs : List ℕ) → 1 ≤ border (x ∷ xs) (suc m)
some_covered m x xs =
    let first = (lex_within x xs).0 in
    let total = ap (λ l. lengths (take (suc m) l)) (cut_token x xs) in
    elim (cases_Bool (marked (x ∷ xs))) [
      | inl e ↦ simp e (omega arith)
      | inr e ↦ simp e (omega arith)
    ]

module _ (s t : List ℕ) where
  -- and of a text: its first token and the two bytes after it hold the mark, if there is one
  cut_front : (m : ℕ) (p : List ℕ) → border (p ++ s) m + 2 ≤ length p → take m (cut (p ++ t)) ≡ take m (cut (p ++ s))
  cut_front zero p h = refl
  cut_front (suc m) [] h = absurd (omega arith)
  cut_front (suc m) (x ∷ []) h = absurd (omega arith)
  cut_front (suc m) (x ∷ y ∷ []) h = let some = some_covered m x (y ∷ s) in absurd (omega arith)
  cut_front (suc m) (x ∷ y ∷ z ∷ p) h =
      let bs = x ∷ y ∷ z ∷ p in
      elim (cases_Bool (marked bs)) [
        | inl e ↦
            let room = simp e at h in
            let here = cut_drop 3 (bs ++ s) in
            let more = tokens_front s t m p (omega (arith, ap (λ l. lengths (take m l)) here)) in
            let there = cut_drop 3 (bs ++ t) in
            simp e (ap (λ l. mark ∷ take m l) there ∙ ap (λ l. mark ∷ l) more ∙ sym (ap (λ l. mark ∷ take m l) here))
        | inr e ↦ simp e (tokens_front s t (suc m) bs (simp e at h))
      ]

pub same_front : SameFront
same_front xs ys m h e =
    let n = border xs m + 2 in
    let p = take n xs in
    let mine = take-append-drop n xs in
    let size = length-take-le n xs h in
    let lens = ap (λ l. border l m) mine in
    ap (λ l. take m (cut l)) (shared n xs ys e) ∙ cut_front (drop n xs) (drop n ys) m p (omega arith)
    ∙ ap (λ l. take m (cut l)) mine
