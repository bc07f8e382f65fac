-- A token that is a `;` of its own is the byte 59.
use Rattle.std.proofs.Common.{◌≡◌, ℕ, ◌+◌, List, get_or, drop, Some, sym, ap, ◌∙◌, inl, inr, arith}
use Rattle.lexer.proofs.Starts.{Begins, begun}
use Rattle.lexer.proofs.TokenAt.{token_ways}
use Rattle.lexer.specs.Cursor.{peek}
use Rattle.lexer.specs.Dollar.{dollar_kind}
use Rattle.lexer.specs.Lex.{kind_of, lex, rest_len, start_with, token_at, token_from}
use Rattle.lexer.specs.Psql.{psql_kind, psql_len}
use Rattle.lexer.specs.Start.{symbol}
use Rattle.lexer.specs.declared.start.Start.TheVariants.{Command, Dollar, Symbol}
use Rattle.lexer.specs.declared.start.Start.{Start}
use Rattle.lexer.specs.declared.token.Token.{Token}
use Rattle.lexer.specs.declared.token.TokenKind.TheVariants.{Semi}
use Rattle.std.proofs.lemmas.Bool.Decides.{nat_tests}
use Rattle.std.proofs.lemmas.List.{drop_more}
use Rattle.std.proofs.lemmas.Option.{slice_get-get_or}
use Rattle.std.specs.List.{slice_get}

-- nothing after `$` is one, `\;` has a second byte, and of the characters that stand alone the byte 59 is one
dollar_other : (xs : List ℕ) → dollar_kind xs ≡ Semi → ⊥
dollar_other xs k = grind arith

escaped_longer : (xs : List ℕ) → psql_kind xs ≡ Semi → psql_len xs ≡ 0 → ⊥
escaped_longer xs k n = grind arith

symbol_byte : (b : ℕ) → symbol b ≡ Semi → b ≡ 59
symbol_byte b k = grind (arith, nat_tests)

lone_start : (s : Start) (first : ℕ) (xs : List ℕ) → Begins s first (peek 0 xs) (peek 1 xs)
    → kind_of s first xs ≡ Semi → rest_len s first xs ≡ 0 → first ≡ 59
lone_start Dollar first xs b k n = absurd (dollar_other xs k)
lone_start Command first xs b k n = absurd (escaped_longer xs k n)
lone_start (Symbol kind) first xs b k n = symbol_byte first (sym b.1 ∙ k)
lone_start other first xs b k n = cc

abbrev lone : Token
lone = record { kind = Semi; len = 1 }

lone_first : (x : ℕ) (xs : List ℕ) → lex x xs ≡ lone → x ≡ 59
unfolding lex
lone_first x xs e =
    let one : (lex x xs).len ≡ 1 = ap (λ (t : Token). t.len) e in
    lone_start (start_with x xs) x xs (begun x (peek 0 xs) (peek 1 xs)) (ap (λ (t : Token). t.kind) e) (omega arith)

pub lone_place : (bs : List ℕ) (place : ℕ) → token_at bs place ≡ Some lone → slice_get bs place ≡ Some 59
lone_place bs place e =
    elim (token_ways bs place lone e) [
      | inl m ↦ let len = ap (λ (t : Token). t.len) m.2 in absurd (omega arith)
      | inr r ↦
          let whole = ap token_from (drop_more bs place 0 r.0) in
          slice_get-get_or bs place 0 r.0
          ∙ ap Some (lone_first (get_or bs place 0) (drop (place + 1) bs) (sym whole ∙ r.1))
    ]
