-- What a token's kind says of its first bytes and its length, for kinds that are quoted.
use Rattle.std.proofs.Common.{◌≡◌, ℕ, suc, ◌+◌, ◌<◌, ◌≤◌, Bool, true, false, List, [], ◌∷◌, map, length, take, drop, Some, codes, sym, refl, ap, ◌∙◌, subst, inl, inr, arith}
use Rattle.lexer.proofs.Bodies.{cons_same}
use Rattle.lexer.proofs.Starts.{Begins, begun}
use Rattle.lexer.proofs.TokenAt.{at_place, token_ways}
use Rattle.lexer.specs.Cursor.{peek}
use Rattle.lexer.specs.Dollar.{dollar_closed, dollar_kind, dollar_len, dollar_quoted, opens_dollar}
use Rattle.lexer.specs.Lex.{kind_of, lex, rest_len, start_with, token_at, token_from}
use Rattle.lexer.specs.Number.{based, decimal_number, either_case, fractional, number, numeric}
use Rattle.lexer.specs.Psql.{psql_kind}
use Rattle.lexer.specs.QuoteLaws.{Quoting, bit_string, byte_string, escape_string, lower, name, national_string, string, unicode_name, unicode_string}
use Rattle.lexer.specs.Quoted.{quoted, quoted_closed}
use Rattle.lexer.specs.Start.{symbol}
use Rattle.lexer.specs.declared.quoted.Prefix.TheVariants.{Esc, Bit, Byte, National, UnicodeEsc}
use Rattle.lexer.specs.declared.start.Start.TheVariants.{Prefixed, UnicodeStr, UnicodeIdent, Digit, Point, Dollar, Command, Quote, DoubleQuote, Symbol}
use Rattle.lexer.specs.declared.start.Start.{Start}
use Rattle.lexer.specs.declared.token.LiteralKind.TheVariants.{BitStr, ByteStr, DollarQuotedString, EscStr, NationalStr, Str, UnicodeEscStr}
use Rattle.lexer.specs.declared.token.Token.{Token}
use Rattle.lexer.specs.declared.token.TokenKind.TheVariants.{Literal, QuotedIdent}
use Rattle.lexer.specs.declared.token.TokenKind.{TokenKind}
use Rattle.std.proofs.lemmas.Bool.{cases_Bool}
use Rattle.std.proofs.lemmas.Bool.Decides.{nat_tests}

-- an opener, and what is quoted after it
pub record QuotedFront (opener : List ℕ) (q : ℕ) (e c : Bool) (xs : List ℕ) (len : ℕ) : Type 0 where
  pub some : 0 < length opener
  pub opens : map lower (take (length opener) xs) ≡ opener
  pub apart : q ≡ 92 → ⊥
  pub closed : c ≡ quoted_closed q e (drop (length opener) xs)
  pub reach : len ≡ length opener + quoted q e (drop (length opener) xs)

-- a `$`, and what is dollar-quoted from it on
pub record DollarFront (c : Bool) (xs : List ℕ) (len : ℕ) : Type 0 where
  pub after : List ℕ
  pub sign : xs ≡ 36 ∷ after
  pub opens : opens_dollar after ≡ true
  pub closed : c ≡ dollar_closed after
  pub reach : len ≡ 1 + dollar_quoted after

-- what a kind says of a token's bytes, those after it and its length
abbrev pub Front : TokenKind → List ℕ → ℕ → Type 0
Front (Literal (Str c)) xs len = QuotedFront (codes "'") 39 false c xs len
Front (Literal (EscStr c)) xs len = QuotedFront (codes "e'") 39 true c xs len
Front (Literal (BitStr c)) xs len = QuotedFront (codes "b'") 39 false c xs len
Front (Literal (ByteStr c)) xs len = QuotedFront (codes "x'") 39 false c xs len
Front (Literal (NationalStr c)) xs len = QuotedFront (codes "n'") 39 false c xs len
Front (Literal (UnicodeEscStr c)) xs len = QuotedFront (codes "u&'") 39 false c xs len
Front (Literal (DollarQuotedString c)) xs len = DollarFront c xs len
Front (QuotedIdent c false) xs len = QuotedFront (codes "\"") 34 false c xs len
Front (QuotedIdent c true) xs len = QuotedFront (codes "u&\"") 34 false c xs len
Front other xs len = Unit {0}

pub quoting_front : {kind : TokenKind} {opener : List ℕ} {q : ℕ} {e c : Bool} → Quoting kind opener q e c
    → (xs : List ℕ) (len : ℕ) → Front kind xs len → QuotedFront opener q e c xs len
quoting_front (string c) xs len f = f
quoting_front (escape_string c) xs len f = f
quoting_front (bit_string c) xs len f = f
quoting_front (byte_string c) xs len f = f
quoting_front (national_string c) xs len f = f
quoting_front (unicode_string c) xs len f = f
quoting_front (name c) xs len f = f
quoting_front (unicode_name c) xs len f = f

-- no number, character or psql command is quoted
number_front : (first : ℕ) (xs ys : List ℕ) (len : ℕ) → Front (Literal (number first 1 xs)) ys len
unfolding based decimal_number fractional number numeric
number_front first xs ys len = grind arith

fractional_front : (xs ys : List ℕ) (len : ℕ) → Front (Literal (fractional 1 xs)) ys len
unfolding fractional numeric
fractional_front xs ys len = tt

symbol_front : (b : ℕ) (ys : List ℕ) (len : ℕ) → Front (symbol b) ys len
symbol_front b ys len = grind arith

psql_front : (xs ys : List ℕ) (len : ℕ) → Front (psql_kind xs) ys len
psql_front xs ys len = grind arith

-- a letter of either case, in lower case
lower_either : (l b : ℕ) → 97 ≤ l → l ≤ 122 → either_case l b ≡ true → lower b ≡ l
lower_either l b low high h = grind (arith, nat_tests)

-- an opener's bytes, by the first and those that follow it
two_bytes : (l first : ℕ) (xs : List ℕ) → 97 ≤ l → l ≤ 122 → either_case l first ≡ true → peek 0 xs ≡ 39
    → map lower (take 2 (first ∷ xs)) ≡ l ∷ 39 ∷ []
two_bytes l first [] low high h quote = absurd (omega arith)
two_bytes l first (x ∷ xs) low high h quote =
    cons_same (lower_either l first low high h) (cons_same (ap lower quote) refl)

three_bytes : (first q : ℕ) (xs : List ℕ) → either_case 117 first ≡ true → peek 0 xs ≡ 38 → peek 1 xs ≡ q → 0 < q
    → lower q ≡ q → map lower (take 3 (first ∷ xs)) ≡ 117 ∷ 38 ∷ q ∷ []
three_bytes first q [] h ampersand quote some same = absurd (omega arith)
three_bytes first q (x ∷ []) h ampersand quote some same = absurd (omega arith)
three_bytes first q (x ∷ y ∷ xs) h ampersand quote some same =
    cons_same (lower_either 117 first (omega arith) (omega arith) h)
    (cons_same (ap lower ampersand) (cons_same (ap lower quote ∙ same) refl))

-- what is quoted after them
opened : (q : ℕ) (e : Bool) (first o len : ℕ) (os xs : List ℕ) → (q ≡ 92 → ⊥)
    → map lower (take (suc (length os)) (first ∷ xs)) ≡ o ∷ os
    → len ≡ 1 + (length os + quoted q e (drop (length os) xs))
    → QuotedFront (o ∷ os) q e (quoted_closed q e (drop (length os) xs)) (first ∷ xs) len
opened q e first o len os xs apart bytes reach =
    record { some = omega arith; opens = bytes; apart = apart; closed = refl; reach = omega arith }

letter_front : (l : ℕ) (e : Bool) (first : ℕ) (xs : List ℕ) → 97 ≤ l → l ≤ 122
    → (either_case l first ≡ true) × (peek 0 xs ≡ 39)
    → QuotedFront (l ∷ 39 ∷ []) 39 e (quoted_closed 39 e (drop 1 xs)) (first ∷ xs) (1 + (1 + quoted 39 e (drop 1 xs)))
letter_front l e first xs low high h =
    opened 39 e first l _ (39 ∷ []) xs (λ s. omega arith) (two_bytes l first xs low high h.0 h.1) refl

unicode_front : (q first : ℕ) (xs : List ℕ) → 0 < q → lower q ≡ q → (q ≡ 92 → ⊥)
    → (either_case 117 first ≡ true) × (peek 0 xs ≡ 38) × (peek 1 xs ≡ q)
    → QuotedFront (117 ∷ 38 ∷ q ∷ []) q false (quoted_closed q false (drop 2 xs)) (first ∷ xs)
    (1 + (2 + quoted q false (drop 2 xs)))
unicode_front q first xs some same apart h =
    opened q false first 117 _ (38 ∷ q ∷ []) xs apart (three_bytes first q xs h.0 h.1 h.2 some same) refl

quote_front : (q first : ℕ) (xs : List ℕ) → lower q ≡ q → (q ≡ 92 → ⊥) → first ≡ q
    → QuotedFront (q ∷ []) q false (quoted_closed q false xs) (first ∷ xs) (1 + quoted q false xs)
quote_front q first xs same apart is =
    opened q false first q _ [] xs apart (cons_same (ap lower is ∙ same) refl) (omega arith)

dollar_front : (first : ℕ) (xs : List ℕ) → first ≡ 36 → Front (dollar_kind xs) (first ∷ xs) (1 + dollar_len xs)
dollar_front first xs is =
    elim (cases_Bool (opens_dollar xs)) [
      | inl opens ↦
          simp opens record { after = xs; sign = cons_same is refl; opens = opens; closed = refl; reach = refl }
      | inr other ↦ simp other tt
    ]

start_front : (s : Start) (first : ℕ) (xs : List ℕ) → Begins s first (peek 0 xs) (peek 1 xs)
    → Front (kind_of s first xs) (first ∷ xs) (1 + rest_len s first xs)
start_front (Prefixed Esc) first xs b = letter_front 101 true first xs (omega arith) (omega arith) b
start_front (Prefixed Bit) first xs b = letter_front 98 false first xs (omega arith) (omega arith) b
start_front (Prefixed Byte) first xs b = letter_front 120 false first xs (omega arith) (omega arith) b
start_front (Prefixed National) first xs b = letter_front 110 false first xs (omega arith) (omega arith) b
start_front (Prefixed UnicodeEsc) first xs b = absurd b.0
start_front UnicodeStr first xs b = unicode_front 39 first xs (omega arith) refl (λ s. omega arith) b
start_front UnicodeIdent first xs b = unicode_front 34 first xs (omega arith) refl (λ s. omega arith) b
start_front Digit first xs b = number_front first xs (first ∷ xs) (1 + rest_len Digit first xs)
start_front Point first xs b = fractional_front xs (first ∷ xs) (1 + rest_len Point first xs)
start_front Dollar first xs b = dollar_front first xs b
start_front Command first xs b = psql_front xs (first ∷ xs) (1 + rest_len Command first xs)
start_front Quote first xs b = quote_front 39 first xs refl (λ s. omega arith) b
start_front DoubleQuote first xs b = quote_front 34 first xs refl (λ s. omega arith) b
start_front (Symbol kind) first xs b =
    subst (λ k. Front k (first ∷ xs) (1 + 0)) (sym b.1) (symbol_front first (first ∷ xs) (1 + 0))
start_front other first xs b = tt

lex_front : (first : ℕ) (xs : List ℕ) → Front (lex first xs).kind (first ∷ xs) (lex first xs).len
unfolding lex
lex_front first xs = start_front (start_with first xs) first xs (begun first (peek 0 xs) (peek 1 xs))

-- what the kind of the token at a place says
pub token_front : (bs : List ℕ) (place : ℕ) (t : Token) → token_at bs place ≡ Some t
    → Front t.kind (drop place bs) t.len
token_front bs place t e =
    elim (token_ways bs place t e) [
      | inl m ↦ subst (λ (u : Token). Front u.kind (drop place bs) u.len) m.2 tt
      | inr r ↦
          let here = at_place (λ l. Front (token_from l).kind l (token_from l).len) lex_front bs place r.0 in
          subst (λ (u : Token). Front u.kind (drop place bs) u.len) r.1 here
    ]
