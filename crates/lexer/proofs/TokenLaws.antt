-- The laws of tokens, from what a token's kind says of its bytes.
use Rattle.std.proofs.Common.{◌≡◌, ℕ, ◌+◌, ◌≤◌, true, false, ◌⊎◌, List, [], ◌∷◌, length, take, drop, Some, None, sym, refl, ap, ◌∙◌, subst, inl, inr, arith}
use Rattle.lexer.proofs.Recognised.{fractional_read, whole_read}
use Rattle.lexer.proofs.Says.{LineSays, Says, lex_says}
use Rattle.lexer.proofs.Spans.{junk_after}
use Rattle.lexer.proofs.TokenAt.{at_place, mark_front, token_ways}
use Rattle.lexer.proofs.Within.{lex_within}
use Rattle.lexer.specs.Cursor.{identifier}
use Rattle.lexer.specs.Lex.{lex, token_at, token_from}
use Rattle.lexer.specs.TokenLaws.{Always, Blank, Closed, ClosedComments, Fractional, FractionalNumbers, Identifiers, Junk, JunkFrom, JunkOfInts, JunkOfNumerics, LineComments, Name, Parameter, Parameters, TokenLaws, Unclosed, UnclosedComments, Whitespaces, Whole, WholeNumbers}
use Rattle.lexer.specs.declared.token.LiteralKind.TheVariants.{Int, Numeric}
use Rattle.lexer.specs.declared.token.Token.{Token}
use Rattle.lexer.specs.declared.token.TokenKind.TheVariants.{BlockComment, Ident, LineComment, Literal, PositionalParam, Whitespace}
use Rattle.lexer.specs.declared.token.TokenKind.{TokenKind}
use Rattle.std.proofs.lemmas.List.{drop-drop, length-take-le}

-- a token is a byte-order mark, or its kind says what its bytes are
abbrev Marked : List ℕ → ℕ → Token → Type 0
Marked bs place t = (t.kind ≡ Whitespace) × (place ≡ 0) × (take t.len bs ≡ 239 ∷ 187 ∷ 191 ∷ [])

abbrev Read : List ℕ → Token → Type 0
Read xs t = Says t.kind xs t.len × (t.len ≤ length xs)

front_read : (x : ℕ) (xs : List ℕ) → Read (x ∷ xs) (lex x xs)
front_read x xs = let inside = (lex_within x xs).1 in (lex_says x xs, omega arith)

reads : (bs : List ℕ) (place : ℕ) (t : Token) → token_at bs place ≡ Some t → Marked bs place t ⊎ Read (drop place bs) t
reads bs place t e =
    elim (token_ways bs place t e) [
      | inl m ↦ inl (subst (Marked bs place) m.2 (refl, m.0, ap (take 3) (mark_front bs m.1)))
      | inr r ↦
          let here = at_place (λ l. Read l (token_from l)) front_read bs place r.0 in
          inr (subst (Read (drop place bs)) r.1 here)
    ]

-- what a kind says is a law of the tokens of that kind
module _ (k : TokenKind) (other : Whitespace ≡ k → ⊥) (P : ℕ → List ℕ → List ℕ → Type 0)
    (shown : (xs : List ℕ) (n : ℕ) → n ≤ length xs → Says k xs n → P n (take n xs) (drop n xs)) where
  law : Always (λ t token next. t.kind ≡ k → P t.len token next)
  law bs place t e q =
      elim (reads bs place t e) [
        | inl m ↦ absurd (other (sym m.0 ∙ q))
        | inr r ↦
            let says = subst (λ k. Says k (drop place bs) t.len) q r.0 in
            subst (P t.len (take t.len (drop place bs))) (drop-drop t.len place bs)
            (shown (drop place bs) t.len r.1 says)
      ]

pub closed_comments : ClosedComments
closed_comments = law (BlockComment true) (λ e. cc) (λ _ token _. Closed token) (λ _ _ _ says. says)

pub unclosed_comments : UnclosedComments
unclosed_comments = law (BlockComment false) (λ e. cc) (λ _ token next. Unclosed token next) (λ _ _ _ says. says)

pub line_comments : LineComments
line_comments = law LineComment (λ e. cc) (λ _ token next. LineSays token next) (λ _ _ _ says. says)

pub identifiers : Identifiers
identifiers = law Ident (λ e. cc) (λ _ token next. Name token next) (λ _ _ _ says. says)

pub whitespaces : Whitespaces
whitespaces bs place t e q =
    elim (reads bs place t e) [
      | inl m ↦ inr (m.1, m.2)
      | inr r ↦
          let says = subst (λ k. Says k (drop place bs) t.len) q r.0 in
          inl (subst (Blank (take t.len (drop place bs))) (drop-drop t.len place bs) says)
    ]

-- junk from an offset on
junk_from : (offset : ℕ) (xs : List ℕ) (n : ℕ) → n ≤ length xs → n ≡ offset + identifier (drop offset xs)
    → JunkFrom offset (take n xs) (drop n xs)
junk_from offset xs n h e =
    let room = length-take-le n xs h in
    record {
      inside = omega arith;
      junk = subst (λ m. Junk (drop offset (take m xs)) (drop m xs)) (sym e) (junk_after offset xs);
    }

pub junk_of_ints : JunkOfInts
junk_of_ints bs place t e base empty offset =
    law (Literal (Int base empty offset)) (λ e. cc) (λ _ token next. JunkFrom offset token next)
    (λ xs n h says. junk_from offset xs n h says.0) bs place t e

pub junk_of_numerics : JunkOfNumerics
junk_of_numerics bs place t e empty offset =
    law (Literal (Numeric empty offset)) (λ e. cc) (λ _ token next. JunkFrom offset token next)
    (λ xs n h says. junk_from offset xs n h says.0) bs place t e

pub parameters : Parameters
parameters bs place t e offset =
    law (PositionalParam offset) (λ e. cc) (λ _ token next. Parameter offset token next)
    (λ _ _ _ says. says) bs place t e

pub whole_numbers : WholeNumbers
whole_numbers bs place t e base q =
    law (Literal (Int base false t.len)) (λ e. cc) (λ n token _. n ≡ t.len → Whole base token)
    (λ xs n h says same.
    let none : identifier (drop t.len xs) ≡ 0 = omega (arith, says.0) in
    subst (λ m. Whole base (take m xs)) (sym same) (says.1 refl none)) bs place t e q refl

pub fractional_numbers : FractionalNumbers
fractional_numbers bs place t e q =
    law (Literal (Numeric None t.len)) (λ e. cc) (λ n token _. n ≡ t.len → Fractional token)
    (λ xs n h says same. subst (λ m. Fractional (take m xs)) (sym same) (says.1 refl)) bs place t e q refl

pub token_laws : TokenLaws
token_laws =
    assumption (
      closed_comments,
      unclosed_comments,
      line_comments,
      identifiers,
      whitespaces,
      junk_of_ints,
      junk_of_numerics,
      parameters,
      whole_numbers,
      fractional_numbers,
      whole_read,
      fractional_read,
    )
