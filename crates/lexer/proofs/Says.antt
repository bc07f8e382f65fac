-- What a token's kind says of its bytes, by how the token starts.
use Rattle.std.proofs.Common.{◌≡◌, ℕ, zero, suc, ◌+◌, ◌<◌, ◌≤◌, Bool, true, false, List, [], ◌∷◌, ◌++◌, length, take, drop, sym, refl, ap, ◌∙◌, subst, inl, inr, arith}
use Rattle.lexer.proofs.Dollars.{parameter_within}
use Rattle.lexer.proofs.Marks.{all_closed, fewer_closers, opener_adds, unclosed_whole}
use Rattle.lexer.proofs.NumberSays.{LiteralSays, number_says, point_first_says}
use Rattle.lexer.proofs.Starts.{Begins, begun}
use Rattle.lexer.proofs.Spans.{junk_after, longest_from, longest_more, name_of, run_longest}
use Rattle.lexer.specs.Class.{all_but, decimal, whitespace}
use Rattle.lexer.specs.Comment.{comment, comment_closed}
use Rattle.lexer.specs.Cursor.{identifier, peek, run}
use Rattle.lexer.specs.Dollar.{dollar_kind, dollar_len, opens_dollar, parameter}
use Rattle.lexer.specs.Lex.{kind_of, lex, rest_len, start_with}
use Rattle.lexer.specs.Number.{fractional, fractional_len, number, number_len}
use Rattle.lexer.specs.Psql.{psql_kind}
use Rattle.lexer.specs.Quoted.{prefix_literal}
use Rattle.lexer.specs.Start.{symbol}
use Rattle.lexer.specs.TokenLaws.{Blank, Closed, Longest, Name, Parameter, Unclosed, closers, openers}
use Rattle.lexer.specs.declared.quoted.Prefix.TheVariants.{Esc}
use Rattle.lexer.specs.declared.quoted.Prefix.{Prefix}
use Rattle.lexer.specs.declared.start.Start.TheVariants.{Blanks, Line, Block, Prefixed, Word, Digit, Point, Dollar, Command, Symbol}
use Rattle.lexer.specs.declared.start.Start.{Start}
use Rattle.lexer.specs.declared.token.TokenKind.TheVariants.{Literal, Whitespace, Ident, LineComment, BlockComment, PositionalParam}
use Rattle.lexer.specs.declared.token.TokenKind.{TokenKind}
use Rattle.std.proofs.lemmas.List.{drop_all, drop-drop, drop-take, length-take, length-take-le, take_all, take-append-drop, take-take}
use Rattle.std.proofs.lemmas.Bool.{cases_Bool}
use borrow.Author.Tests.{clash}

abbrev pub LineSays : List ℕ → List ℕ → Type 0
LineSays token next = (take 2 token ≡ 45 ∷ 45 ∷ []) × Longest (all_but 10 13) token next

abbrev pub BlockSays : Bool → List ℕ → List ℕ → Type 0
BlockSays true token next = Closed token
BlockSays false token next = Unclosed token next

-- of a token of so many bytes at the front of a list
abbrev pub Says : TokenKind → List ℕ → ℕ → Type 0
Says (Literal k) xs n = LiteralSays k xs n
Says Whitespace xs n = Blank (take n xs) (drop n xs)
Says Ident xs n = Name (take n xs) (drop n xs)
Says LineComment xs n = LineSays (take n xs) (drop n xs)
Says (BlockComment c) xs n = BlockSays c (take n xs) (drop n xs)
Says (PositionalParam j) xs n = Parameter j (take n xs) (drop n xs)
Says other xs n = Unit {0}

-- the bytes of a comment that begins before `xs`, and its fronts: before it is closed each has more `/*` than `*/`
abbrev comment_bytes : List ℕ → List ℕ
comment_bytes xs = 47 ∷ 42 ∷ take (comment 1 xs) xs

fewer_before : (xs : List ℕ) (n : ℕ) → take n (take (comment 1 xs) xs) ≡ take n xs
    → (comment_closed 1 xs ≡ true → n < comment 1 xs)
    → closers (take (suc (suc n)) (comment_bytes xs)) < openers (take (suc (suc n)) (comment_bytes xs))
fewer_before xs n same inside =
    let adds = opener_adds 47 42 (take n (take (comment 1 xs) xs)) refl in
    let fewer = fewer_closers 1 xs n inside in
    omega (arith, ap closers same, ap openers same)

closed_before : (xs : List ℕ) (n : ℕ) → 1 < n → n < length (comment_bytes xs)
    → closers (take n (comment_bytes xs)) < openers (take n (comment_bytes xs))
closed_before xs zero h l = absurd (omega arith)
closed_before xs (suc zero) h l = absurd (omega arith)
closed_before xs (suc (suc n)) h l =
    let k = comment 1 xs in
    let bound = length-take k xs in
    let inside : n < k = omega arith in
    fewer_before xs n (take-take n k xs (omega arith)) (λ _. inside)

unclosed_before : (xs : List ℕ) → comment_closed 1 xs ≡ false → (n : ℕ) → 1 < n
    → closers (take n (comment_bytes xs)) < openers (take n (comment_bytes xs))
unclosed_before xs e zero h = absurd (omega arith)
unclosed_before xs e (suc zero) h = absurd (omega arith)
unclosed_before xs e (suc (suc n)) h =
    let whole = unclosed_whole 1 xs e in
    fewer_before xs n (ap (take n) (take_all (comment 1 xs) xs (omega arith))) (λ c. absurd (clash (sym e ∙ c)))

-- a comment after its first mark, by its depth
block_says : (closed : Bool) (xs : List ℕ) → comment_closed 1 xs ≡ closed
    → BlockSays closed (comment_bytes xs) (drop (comment 1 xs) xs)
block_says true xs e =
    let k = comment 1 xs in
    record {
      begins = refl;
      even = let adds = opener_adds 47 42 (take k xs) refl in let all = all_closed 1 xs e in omega arith;
      before = closed_before xs;
    }
block_says false xs e =
    let whole = unclosed_whole 1 xs e in
    record {
      begins = refl;
      to_end = drop_all (comment 1 xs) xs (omega arith);
      before = unclosed_before xs e;
    }

line_says : (xs : List ℕ) → LineSays (45 ∷ 45 ∷ take (run (all_but 10 13) xs) xs) (drop (run (all_but 10 13) xs) xs)
line_says xs =
    let line = all_but 10 13 in
    let more = longest_from line 45 xs refl in
    (refl, longest_more line 45 (45 ∷ take (run line xs) xs) (drop (run line xs) xs) refl more)

-- what lies between two places of a list, and what follows it
rejoined : (n m : ℕ) (xs : List ℕ) → drop n (take (n + m) xs) ++ drop (n + m) xs ≡ drop n xs
rejoined n m xs =
    ap (λ l. l ++ drop (n + m) xs) (drop-take n m xs) ∙ ap (λ l. take m (drop n xs) ++ l) (sym (drop-drop m n xs))
    ∙ take-append-drop m (drop n xs)

parameter_says : (xs : List ℕ) → Parameter (suc (run decimal xs)) (36 ∷ take (parameter xs) xs) (drop (parameter xs) xs)
parameter_says xs =
    let n = run decimal xs in
    let m = identifier (drop n xs) in
    let short : n ≤ n + m = omega arith in
    let fits = length-take-le (parameter xs) xs (parameter_within xs) in
    record {
      begins = refl;
      number = simp (take-take n (n + m) xs short, rejoined n m xs) (run_longest decimal xs);
      after = record { inside = omega arith; junk = junk_after n xs };
    }

dollar_says : (xs : List ℕ) → Says (dollar_kind xs) (36 ∷ xs) (suc (dollar_len xs))
dollar_says xs =
    elim (cases_Bool (opens_dollar xs)) [
      | inl o ↦ simp o tt
      | inr o ↦ let one : 1 + run decimal xs ≡ suc (run decimal xs) = omega arith in simp (o, one) (parameter_says xs)
    ]

psql_says : (xs ys : List ℕ) (n : ℕ) → Says (psql_kind xs) ys n
psql_says xs ys n = grind arith

prefix_says : (prefix : Prefix) (closed : Bool) (xs : List ℕ) (n : ℕ) → LiteralSays (prefix_literal prefix closed) xs n
prefix_says Esc closed xs n = tt
prefix_says other closed xs n = tt

symbol_says : (b : ℕ) (xs : List ℕ) (n : ℕ) → Says (symbol b) xs n
symbol_says b xs n = grind arith

kind_says : (s : Start) (first : ℕ) (xs : List ℕ) → Begins s first (peek 0 xs) (peek 1 xs)
    → Says (kind_of s first xs) (first ∷ xs) (suc (rest_len s first xs))
kind_says Blanks first xs b = record { starts = b; goes_on = longest_from whitespace first xs b }
kind_says Line first [] b = absurd (omega arith)
kind_says Line first (x ∷ xs) b =
    let n : 1 + run (all_but 10 13) xs ≡ suc (run (all_but 10 13) xs) = omega arith in
    simp (b.0, b.1, n) (line_says xs)
kind_says Block first [] b = absurd (omega arith)
kind_says Block first (x ∷ xs) b =
    let n : 1 + comment 1 xs ≡ suc (comment 1 xs) = omega arith in
    simp (b.0, b.1, n) (block_says (comment_closed 1 xs) xs refl)
kind_says (Prefixed prefix) first xs b = prefix_says prefix _ (first ∷ xs) (suc (rest_len (Prefixed prefix) first xs))
kind_says Word first xs b = name_of first xs b
kind_says Digit first xs b =
    let n : 1 + number_len first xs ≡ suc (number_len first xs) = omega arith in
    subst (LiteralSays (number first 1 xs) (first ∷ xs)) n (number_says first b xs)
kind_says Point first xs b =
    let n : 1 + fractional_len xs ≡ suc (fractional_len xs) = omega arith in
    subst (λ f. LiteralSays (fractional 1 xs) (f ∷ xs) (suc (fractional_len xs))) (sym b.0)
    (subst (LiteralSays (fractional 1 xs) (46 ∷ xs)) n (point_first_says xs b.1))
kind_says Dollar first xs b = simp b (dollar_says xs)
kind_says Command first xs b = psql_says xs (first ∷ xs) (suc (rest_len Command first xs))
kind_says (Symbol kind) first xs b = subst (λ k. Says k (first ∷ xs) 1) (sym b.1) (symbol_says first (first ∷ xs) 1)
kind_says other first xs b = tt

pub lex_says : (first : ℕ) (xs : List ℕ) → Says (lex first xs).kind (first ∷ xs) (lex first xs).len
unfolding lex
lex_says first xs =
    let s = start_with first xs in
    let n : suc (rest_len s first xs) ≡ 1 + rest_len s first xs = omega arith in
    subst (Says (kind_of s first xs) (first ∷ xs)) n (kind_says s first xs (begun first (peek 0 xs) (peek 1 xs)))
