-- A token has one byte or more, ends within the text, and is never the end.
use Rattle.std.proofs.Common.{◌≡◌, ℕ, ◌+◌, ◌<◌, ◌≤◌, false, List, length, get_or, drop, sym, refl, ap, ◌∙◌, subst, arith}
use Rattle.lexer.proofs.Comments.{comment_within}
use Rattle.lexer.proofs.Dollars.{dollar_within}
use Rattle.lexer.proofs.Numbers.{fractional_within, number_within}
use Rattle.lexer.proofs.PsqlLens.{psql_within}
use Rattle.lexer.proofs.Quotes.{quoted_within}
use Rattle.lexer.proofs.Rest.{within}
use Rattle.lexer.proofs.Runs.{run_within, then_within}
use Rattle.lexer.proofs.Starts.{Begins, begun}
use Rattle.lexer.specs.Class.{all_but, ident_cont, whitespace}
use Rattle.lexer.specs.Comment.{comment}
use Rattle.lexer.specs.Cursor.{peek, run}
use Rattle.lexer.specs.Lex.{kind_of, lex, rest_len, start_with, token_from}
use Rattle.lexer.specs.Quoted.{has_escapes, quoted}
use Rattle.lexer.specs.Start.{symbol}
use Rattle.lexer.specs.Token.{is_eof}
use Rattle.lexer.specs.declared.start.Start.TheVariants.{Blanks, Line, Block, Prefixed, UnicodeStr, UnicodeIdent, Word, Digit, Point, TwoDots, Dollar, Command, Quote, DoubleQuote, Symbol}
use Rattle.lexer.specs.declared.start.Start.{Start}
use Rattle.lexer.specs.declared.token.Token.{Token}
use Rattle.std.proofs.lemmas.List.{drop_more, length-drop}

-- what follows the first byte ends within the list, where the start says what is there
start_within : (s : Start) (first : ℕ) (xs : List ℕ) → Begins s first (peek 0 xs) (peek 1 xs)
    → rest_len s first xs ≤ length xs
start_within Blanks first xs b = run_within whitespace xs
start_within Line first xs b = then_within (run (all_but 10 13)) (run_within (all_but 10 13)) 1 xs (within xs 0 44 b.1)
start_within Block first xs b = then_within (comment 1) (comment_within 1) 1 xs (within xs 0 41 b.1)
start_within (Prefixed prefix) first xs b =
    then_within (quoted 39 (has_escapes prefix)) (quoted_within 39 (has_escapes prefix)) 1 xs (within xs 0 38 b.1)
start_within UnicodeStr first xs b = then_within (quoted 39 false) (quoted_within 39 false) 2 xs (within xs 1 38 b.2)
start_within UnicodeIdent first xs b = then_within (quoted 34 false) (quoted_within 34 false) 2 xs (within xs 1 33 b.2)
start_within Word first xs b = run_within ident_cont xs
start_within Digit first xs b = number_within first xs
start_within Point first xs b = fractional_within xs
start_within TwoDots first xs b = within xs 0 45 b.1
start_within Dollar first xs b = dollar_within xs
start_within Command first xs b = psql_within xs
start_within Quote first xs b = quoted_within 39 false xs
start_within DoubleQuote first xs b = quoted_within 34 false xs
start_within (Symbol kind) first xs b = omega arith

pub lex_within : (first : ℕ) (xs : List ℕ) → (0 < (lex first xs).len) × ((lex first xs).len ≤ 1 + length xs)
unfolding lex
lex_within first xs =
    let more = start_within (start_with first xs) first xs (begun first (peek 0 xs) (peek 1 xs)) in
    (omega arith, omega arith)

-- no character is the end
symbol_goes : (b : ℕ) → is_eof (symbol b) ≡ false
symbol_goes b = grind arith

-- nor is any other token
kind_goes : (s : Start) (first : ℕ) (xs : List ℕ) → Begins s first (peek 0 xs) (peek 1 xs)
    → is_eof (kind_of s first xs) ≡ false
kind_goes Dollar first xs b = grind arith
kind_goes Command first xs b = grind arith
kind_goes (Symbol kind) first xs b = ap is_eof b.1 ∙ symbol_goes first
kind_goes other first xs b = refl

pub lex_goes : (first : ℕ) (xs : List ℕ) → is_eof (lex first xs).kind ≡ false
unfolding lex
lex_goes first xs = kind_goes (start_with first xs) first xs (begun first (peek 0 xs) (peek 1 xs))

-- what stands of a token at a place of a text
pub record Stands (xs : List ℕ) (place : ℕ) (t : Token) : Type 0 where
  pub inside : (0 < t.len) × (place + t.len ≤ length xs)
  pub real : is_eof t.kind ≡ false

pub token_stands : (xs : List ℕ) (place : ℕ) → place < length xs → Stands xs place (token_from (drop place xs))
token_stands xs place h =
    let x = get_or xs place 0 in
    let ys = drop (place + 1) xs in
    let whole = lex_within x ys in
    let left = length-drop (place + 1) xs in
    subst (λ (l : List ℕ). Stands xs place (token_from l)) (sym (drop_more xs place 0 h)) record {
      inside = (whole.0, omega arith);
      real = lex_goes x ys;
    }
