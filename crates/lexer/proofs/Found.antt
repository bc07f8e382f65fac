-- What a text goes on with at a place decides whether the token there is quoted.
use Rattle.std.proofs.Common.{◌≡◌, ℕ, ◌+◌, ◌-◌, ◌<◌, ◌≤◌, Bool, true, false, ◌&&◌, eqb, List, [], ◌∷◌, ◌++◌, map, length, take, drop, Some, sym, refl, ap, ◌∙◌, subst, inl, inr, arith, eq-eqb, ne_eqb}
use Rattle.lexer.proofs.TokenAt.{token_there}
use Rattle.lexer.specs.Class.{between, ident_start, tag_cont}
use Rattle.lexer.specs.Cursor.{peek, run}
use Rattle.lexer.specs.Dollar.{dollar_closed, opens_dollar}
use Rattle.lexer.specs.Lex.{kind_of, lex, start_with, token_at, token_from}
use Rattle.lexer.specs.QuoteLaws.{DollarFound, QuotedFound, Quoting, Tag, TagRest, bit_string, byte_string, escape_string, lower, name, national_string, string, unicode_name, unicode_string}
use Rattle.lexer.specs.Quoted.{quoted_closed}
use Rattle.lexer.specs.Start.{plain_start, start_of}
use Rattle.lexer.specs.declared.quoted.Prefix.TheVariants.{Esc, Bit, Byte, National}
use Rattle.lexer.specs.declared.start.Start.TheVariants.{Prefixed, UnicodeStr, UnicodeIdent, Dollar, Quote, DoubleQuote}
use Rattle.lexer.specs.declared.start.Start.{Start}
use Rattle.lexer.specs.declared.token.LiteralKind.TheVariants.{DollarQuotedString}
use Rattle.lexer.specs.declared.token.Token.{Token}
use Rattle.lexer.specs.declared.token.TokenKind.TheVariants.{Literal}
use Rattle.lexer.specs.declared.token.TokenKind.{TokenKind}
use Rattle.std.proofs.lemmas.Bool.{cases_cond, or_right}
use Rattle.std.proofs.lemmas.Bool.Decides.{nat_tests}

-- the token at a place, where no byte-order mark can stand
token_found : (bs : List ℕ) (place first : ℕ) (xs : List ℕ) → drop place bs ≡ first ∷ xs → first < 239
    → token_at bs place ≡ Some (lex first xs)
token_found bs place first xs e small =
    let unmarked = ap (λ l. eqb (peek 0 l) 239) e ∙ ne_eqb first 239 (λ is. omega arith) in
    token_there bs place (omega (arith, ap length e)) unmarked ∙ ap (λ l. Some (token_from l)) e

lower_same : (b q : ℕ) → q < 97 → lower b ≡ q → b ≡ q
lower_same b q small h = grind (arith, nat_tests)

-- a letter of either case starts what its lower case starts
letter-start : (l first next after n a : ℕ) (s : Start) → 32 ≤ l → start_of l n a ≡ s → start_of (l - 32) n a ≡ s
    → lower first ≡ l → next ≡ n → after ≡ a → start_of first next after ≡ s
letter-start l first next after n a s room small large h p r =
    let behind : start_of first next after ≡ start_of first n a = simp (p, r) in
    elim (cases_cond (between 65 90 first) (first + 32) first l (sym h)) [
      | inl is ↦ let folded : first ≡ l - 32 = omega arith in behind ∙ ap (λ b. start_of b n a) folded ∙ large
      | inr is ↦ behind ∙ ap (λ b. start_of b n a) (sym is) ∙ small
    ]

quote_start : (next after : ℕ) → start_of 39 next after ≡ Quote
unfolding plain_start
quote_start next after = grind arith

double_quote_start : (next after : ℕ) → start_of 34 next after ≡ DoubleQuote
unfolding plain_start
double_quote_start next after = grind arith

dollar_start : (next after : ℕ) → start_of 36 next after ≡ Dollar
unfolding plain_start
dollar_start next after = grind arith

-- a token that is quoted so
abbrev Found : List ℕ → ℕ → List ℕ → ℕ → Bool → Type 0
Found bs place opener q e =
    (t : Token) × (closed : Bool) × (token_at bs place ≡ Some t) × Quoting t.kind opener q e closed

started : (bs : List ℕ) (place first : ℕ) (xs opener : List ℕ) (q : ℕ) (e c : Bool) (s : Start)
    → drop place bs ≡ first ∷ xs → first < 239 → start_with first xs ≡ s → Quoting (kind_of s first xs) opener q e c
    → Found bs place opener q e
unfolding lex
started bs place first xs opener q e c s is small start kind =
    let so = subst (λ k. Quoting (kind_of k first xs) opener q e c) (sym start) kind in
    (lex first xs, c, token_found bs place first xs is small, so)

small_letter : (b l : ℕ) → l ≤ 122 → lower b ≡ l → b < 239
small_letter b l h e = grind (arith, nat_tests)

-- by an opener of one byte, of two and of three
module _ (bs : List ℕ) (place : ℕ) where
  after_one : (q : ℕ) (e : Bool) (s : Start) → q < 97 → ((next after : ℕ) → start_of q next after ≡ s)
      → ((first : ℕ) (xs : List ℕ) → Quoting (kind_of s first xs) (q ∷ []) q e (quoted_closed q e xs))
      → (ys : List ℕ) → drop place bs ≡ ys → map lower (take 1 ys) ≡ q ∷ [] → Found bs place (q ∷ []) q e
  after_one q e s small start kind [] is h = cc
  after_one q e s small start kind (x ∷ xs) is h =
      let first = lower_same x q small (ap (peek 0) h) in
      let begins = ap (λ b. start_of b (peek 0 xs) (peek 1 xs)) first ∙ start (peek 0 xs) (peek 1 xs) in
      started bs place x xs (q ∷ []) q e (quoted_closed q e xs) s is (omega arith) begins (kind x xs)

  after_two : (l : ℕ) (e : Bool) (s : Start) → 32 ≤ l → l ≤ 122
      → ((after : ℕ) → start_of l 39 after ≡ s) → ((after : ℕ) → start_of (l - 32) 39 after ≡ s)
      → ((first : ℕ) (xs : List ℕ) → Quoting (kind_of s first xs) (l ∷ 39 ∷ []) 39 e (quoted_closed 39 e (drop 1 xs)))
      → (ys : List ℕ) → drop place bs ≡ ys → map lower (take 2 ys) ≡ l ∷ 39 ∷ [] → Found bs place (l ∷ 39 ∷ []) 39 e
  after_two l e s room high small large kind [] is h = cc
  after_two l e s room high small large kind (x ∷ []) is h = cc
  after_two l e s room high small large kind (x ∷ y ∷ xs) is h =
      let a = peek 0 xs in
      let first = ap (peek 0) h in
      let next = lower_same y 39 (omega arith) (ap (peek 1) h) in
      let begins = letter-start l x y a 39 a s room (small a) (large a) first next refl in
      started bs place x (y ∷ xs) (l ∷ 39 ∷ []) 39 e (quoted_closed 39 e xs) s is (small_letter x l high first) begins
      (kind x (y ∷ xs))

  after_three : (q : ℕ) (s : Start) → q < 97 → start_of 117 38 q ≡ s → start_of 85 38 q ≡ s
      → ((first : ℕ) (xs : List ℕ)
      → Quoting (kind_of s first xs) (117 ∷ 38 ∷ q ∷ []) q false (quoted_closed q false (drop 2 xs)))
      → (ys : List ℕ) → drop place bs ≡ ys → map lower (take 3 ys) ≡ 117 ∷ 38 ∷ q ∷ []
      → Found bs place (117 ∷ 38 ∷ q ∷ []) q false
  after_three q s low small large kind [] is h = cc
  after_three q s low small large kind (x ∷ []) is h = cc
  after_three q s low small large kind (x ∷ y ∷ []) is h = cc
  after_three q s low small large kind (x ∷ y ∷ z ∷ xs) is h =
      let first = ap (peek 0) h in
      let next = lower_same y 38 (omega arith) (ap (peek 1) h) in
      let last = lower_same z q low (ap (peek 2) h) in
      let begins = letter-start 117 x y z 38 q s (omega arith) small large first next last in
      started bs place x (y ∷ z ∷ xs) (117 ∷ 38 ∷ q ∷ []) q false (quoted_closed q false xs) s is
      (small_letter x 117 (omega arith) first) begins (kind x (y ∷ z ∷ xs))

  found_so : {kind : TokenKind} {opener : List ℕ} {q : ℕ} {e c : Bool} → Quoting kind opener q e c
      → map lower (take (length opener) (drop place bs)) ≡ opener → Found bs place opener q e
  found_so (string c) h = after_one 39 false Quote (omega arith) quote_start (λ _ _. string _) (drop place bs) refl h
  found_so (escape_string c) h =
      after_two 101 true (Prefixed Esc) (omega arith) (omega arith) (λ _. refl) (λ _. refl) (λ _ _. escape_string _)
      (drop place bs) refl h
  found_so (bit_string c) h =
      after_two 98 false (Prefixed Bit) (omega arith) (omega arith) (λ _. refl) (λ _. refl) (λ _ _. bit_string _)
      (drop place bs) refl h
  found_so (byte_string c) h =
      after_two 120 false (Prefixed Byte) (omega arith) (omega arith) (λ _. refl) (λ _. refl) (λ _ _. byte_string _)
      (drop place bs) refl h
  found_so (national_string c) h =
      after_two 110 false (Prefixed National) (omega arith) (omega arith) (λ _. refl) (λ _. refl)
      (λ _ _. national_string _)
      (drop place bs) refl h
  found_so (unicode_string c) h =
      after_three 39 UnicodeStr (omega arith) refl refl (λ _ _. unicode_string _) (drop place bs) refl h
  found_so (name c) h =
      after_one 34 false DoubleQuote (omega arith) double_quote_start (λ _ _. name _) (drop place bs) refl h
  found_so (unicode_name c) h =
      after_three 34 UnicodeIdent (omega arith) refl refl (λ _ _. unicode_name _) (drop place bs) refl h

pub quoted_found : QuotedFound
quoted_found bs place kind opener quote escapes terminated so h = found_so bs place so h

module _ (after : List ℕ) where
  -- a tag's bytes, the `$` after them, and what follows
  abbrev past_sign : List ℕ → List ℕ
  past_sign tag = (tag ++ (36 ∷ [])) ++ after

  tag-run : (tag : List ℕ) → TagRest tag → run tag_cont (past_sign tag) ≡ length tag
  unfolding run
  tag-run [] h = refl
  tag-run (x ∷ tag) h =
      let goes = h.0 in
      let more = tag-run tag h.1 in
      simp goes (omega arith)

  tag_sign : (tag : List ℕ) → peek (length tag) (past_sign tag) ≡ 36
  tag_sign [] = refl
  tag_sign (x ∷ tag) = tag_sign tag

  starts_tag : (x : ℕ) → ident_start x ≡ true → tag_cont x ≡ true
  starts_tag x h = grind (arith, nat_tests)

  tag_opens : (tag : List ℕ) → Tag tag → opens_dollar (past_sign tag) ≡ true
  tag_opens [] h = refl
  tag_opens (x ∷ tag) h =
      let xs = past_sign (x ∷ tag) in
      let end = ap (λ n. peek n xs) (tag-run (x ∷ tag) (starts_tag x h.0, h.1)) ∙ tag_sign (x ∷ tag) in
      let sign = eq-eqb (peek (run tag_cont xs) xs) 36 end in
      or_right (eqb x 36) (ident_start x && eqb (peek (run tag_cont xs) xs) 36) (simp (h.0, sign))

dollar_kind_found : (xs : List ℕ) → opens_dollar xs ≡ true
    → (lex 36 xs).kind ≡ Literal (DollarQuotedString (dollar_closed xs))
unfolding lex
dollar_kind_found xs opens = ap (λ s. kind_of s 36 xs) (dollar_start (peek 0 xs) (peek 1 xs)) ∙ simp opens

pub dollar_found : DollarFound
dollar_found bs place tag after stands e =
    let xs = past_sign after tag in
    let kind = dollar_kind_found xs (tag_opens after tag stands) in
    (lex 36 xs, dollar_closed xs, token_found bs place 36 xs e (omega arith), kind)
