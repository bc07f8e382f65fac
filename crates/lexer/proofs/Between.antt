-- In well-formed UTF-8 every border falls between two characters.
use Rattle.std.proofs.Common.{◌≡◌, ℕ, zero, suc, ◌+◌, ◌<◌, ◌≤◌, Bool, true, false, eqb, List, [], ◌∷◌, length, take, drop, IsUtf8, sym, refl, ap, subst, inl, inr, arith}
use Rattle.lexer.proofs.Beside.{Beside, after_any, blank_ascii, blanks_beside, comment_beside, dollar_beside, one_beside, psql_beside, quoted_beside}
use Rattle.lexer.proofs.Cuts.{cut_drop, cut_token}
use Rattle.lexer.proofs.Starts.{Begins, begun}
use Rattle.lexer.proofs.Stopped.{at_later, fractional_stopped, ident_start_takes, line_stopped, number_stopped, refused, then_stopped, word_stopped}
use Rattle.lexer.proofs.TokenAt.{mark_front}
use Rattle.lexer.proofs.Within.{lex_within}
use Rattle.lexer.specs.Class.{all_but, ident_start}
use Rattle.lexer.specs.Comment.{comment}
use Rattle.lexer.specs.Cursor.{peek, run}
use Rattle.lexer.specs.Cut.{cut_after, lengths}
use Rattle.lexer.specs.Lex.{lex, marked, rest_len, start_with}
use Rattle.lexer.specs.Number.{either_case}
use Rattle.lexer.specs.Quoted.{has_escapes, quoted}
use Rattle.lexer.specs.ReachLaws.{BetweenCharacters}
use Rattle.lexer.specs.Start.{plain_start, start_of}
use Rattle.lexer.specs.declared.start.Start.TheVariants.{Blanks, Line, Block, Prefixed, UnicodeStr, UnicodeIdent, Word, Digit, Point, TwoDots, Dollar, Command, Quote, DoubleQuote, Symbol}
use Rattle.lexer.specs.declared.start.Start.{Start}
use Rattle.lexer.specs.declared.token.Token.{Token}
use Rattle.std.proofs.lemmas.Bool.{cases_Bool, cases_lt, cond_both}
use Rattle.std.proofs.lemmas.Bool.Decides.{nat_tests}
use Rattle.std.proofs.lemmas.Str.{IsCharBoundary-after_ascii, IsCharBoundary-before_ascii, IsCharBoundary-end, IsCharBoundary-from_rest, IsCharBoundary-past_char, IsCharBoundary-start, IsUtf8-drop}
use Rattle.std.specs.Str.{IsCharBoundary}
use lib.Utf8.{encode}

-- a character beyond ASCII starts a word
module _ (b : ℕ) (high : 128 ≤ b) where
  far : (k : ℕ) → k < 128 → eqb b k ≡ false
  far k low = grind (arith, nat_tests)

  no_letter : (k : ℕ) → k < 128 → either_case k b ≡ false
  no_letter k low = grind (arith, nat_tests)

  plain_word : plain_start b ≡ Word
  unfolding plain_start
  plain_word = grind (arith, nat_tests)

  beyond_word : (next after : ℕ) → start_of b next after ≡ Word
  beyond_word next after =
      let slash : eqb b 47 ≡ false = far 47 (omega arith) in
      let minus : eqb b 45 ≡ false = far 45 (omega arith) in
      let point : eqb b 46 ≡ false = far 46 (omega arith) in
      let u : either_case 117 b ≡ false = no_letter 117 (omega arith) in
      let e : either_case 101 b ≡ false = no_letter 101 (omega arith) in
      let bit : either_case 98 b ≡ false = no_letter 98 (omega arith) in
      let x : either_case 120 b ≡ false = no_letter 120 (omega arith) in
      let n : either_case 110 b ≡ false = no_letter 110 (omega arith) in
      simp (slash, minus, point, u, e, bit, x, n, plain_word)
      (cond_both (eqb next 39) Word Word (λ s. s ≡ Word) (λ _. refl) (λ _. refl))

-- a string or a quoted name after an opener of `n` bytes more
opened_beside : (n q : ℕ) (e : Bool) → q < 128 → (b : ℕ) (xs : List ℕ) → Beside b xs (n + quoted q e (drop n xs))
opened_beside n q e low b xs = after_any n b xs (quoted q e (drop n xs)) (λ a. quoted_beside q e low a (drop n xs))

-- a start of one byte is ASCII, for any other byte starts a word
start_beside : (s : Start) (first : ℕ) (xs : List ℕ) → Begins s first (peek 0 xs) (peek 1 xs)
    → Beside first xs (rest_len s first xs)
start_beside Blanks first xs b = blanks_beside first (blank_ascii first b) xs
start_beside Line first xs b = inr (then_stopped (run (all_but 10 13)) line_stopped 1 xs)
start_beside Block first xs b =
    after_any 1 first xs (comment 1 (drop 1 xs)) (λ a. comment_beside 1 a (λ z. absurd (omega (arith, z))) (drop 1 xs))
start_beside (Prefixed prefix) first xs b = opened_beside 1 39 (has_escapes prefix) (omega arith) first xs
start_beside UnicodeStr first xs b = opened_beside 2 39 false (omega arith) first xs
start_beside UnicodeIdent first xs b = opened_beside 2 34 false (omega arith) first xs
start_beside Word first xs b = inr (word_stopped xs)
start_beside Digit first xs b = inr (number_stopped first xs)
start_beside Point first xs b = inr (fractional_stopped xs)
start_beside TwoDots first xs b = one_beside first xs (omega (arith, b.1))
start_beside Dollar first xs b = dollar_beside first xs
start_beside Command first xs b = psql_beside first xs
start_beside Quote first xs b = quoted_beside 39 false (omega arith) first xs
start_beside DoubleQuote first xs b = quoted_beside 34 false (omega arith) first xs
start_beside (Symbol kind) first xs b = inl (refused ident_start ident_start_takes first b.0)

-- beside an ASCII byte, or at the end, a text may be cut
beside_boundary : (x : ℕ) (xs : List ℕ) (n : ℕ) → IsUtf8 (x ∷ xs) → 1 + n ≤ length (x ∷ xs) → Beside x xs n
    → IsCharBoundary (x ∷ xs) (1 + n)
beside_boundary x xs n u room (inl low) =
    let e : n + 1 ≡ 1 + n = omega arith in
    subst (λ (k : ℕ). IsCharBoundary (x ∷ xs) k) e (IsCharBoundary-after_ascii (x ∷ xs) n u (omega arith) low)
beside_boundary x xs n u room (inr low) =
    elim (cases_lt (1 + n) (length (x ∷ xs))) [
      | inl inside ↦ IsCharBoundary-before_ascii (x ∷ xs) (1 + n) inside (at_later (x ∷ xs) 1 n low)
      | inr end ↦
          let e : length (x ∷ xs) ≡ 1 + n = omega arith in
          subst (λ (k : ℕ). IsCharBoundary (x ∷ xs) k) e (IsCharBoundary-end (x ∷ xs))
    ]

token_boundary : (x : ℕ) (xs : List ℕ) → IsUtf8 (x ∷ xs) → IsCharBoundary (x ∷ xs) (lex x xs).len
unfolding lex
token_boundary x xs u =
    let s = start_with x xs in
    let all = (lex_within x xs).1 in
    beside_boundary x xs (rest_len s x xs) u (omega arith) (start_beside s x xs (begun x (peek 0 xs) (peek 1 xs)))

none_covered : (m : ℕ) → lengths (take (suc m) (cut_after 0 [])) ≡ 0
unfolding cut_after
none_covered m = refl

tokens_boundary : (m : ℕ) (xs : List ℕ) → IsUtf8 xs → IsCharBoundary xs (lengths (take m (cut_after 0 xs)))
tokens_boundary zero xs u = IsCharBoundary-start xs u
tokens_boundary (suc m) [] u = subst (λ (k : ℕ). IsCharBoundary [] k) (sym (none_covered m)) (IsCharBoundary-start [] u)
tokens_boundary (suc m) (x ∷ xs) u =
    let bs = x ∷ xs in
    let n = (lex x xs).len in
    let here = token_boundary x xs u in
    let more = tokens_boundary m (drop n bs) (IsUtf8-drop bs n u here) in
    subst (λ (l : ℕ). IsCharBoundary bs l) (sym (ap (λ l. lengths (take (suc m) l)) (cut_token x xs)))
    (IsCharBoundary-from_rest bs n (lengths (take m (cut_after 0 (drop n bs)))) here.0 more)

-- a byte-order mark is one character
mark_boundary : (xs : List ℕ) → IsUtf8 xs → marked xs ≡ true → IsCharBoundary xs 3
unfolding encode
mark_boundary xs u e = IsCharBoundary-past_char xs (drop 3 xs) 0 65279 (omega arith) u (mark_front xs e)

pub between_characters : BetweenCharacters
between_characters xs u zero = IsCharBoundary-start xs u
between_characters xs u (suc m) =
    elim (cases_Bool (marked xs)) [
      | inl e ↦
          let here = mark_boundary xs u e in
          let more = tokens_boundary m (drop 3 xs) (IsUtf8-drop xs 3 u here) in
          let whole = IsCharBoundary-from_rest xs 3 (lengths (take m (cut_after 0 (drop 3 xs)))) here.0 more in
          simp e (subst (λ (l : List Token). IsCharBoundary xs (3 + lengths (take m l))) (sym (cut_drop 3 xs)) whole)
      | inr e ↦ simp e (tokens_boundary (suc m) xs u)
    ]
