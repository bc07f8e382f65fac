-- How the token at a place of a text is read: what begins there, or a byte-order mark.
use Rattle.std.proofs.Common.{◌≡◌, ℕ, ◌+◌, ◌<◌, true, false, eqb, ◌⊎◌, List, ◌∷◌, length, get_or, drop, Some, sym, subst, ap, ◌∙◌, arith}
use Rattle.lexer.proofs.Rest.{byte_here}
use Rattle.lexer.specs.Cursor.{peek}
use Rattle.lexer.specs.Cut.{mark}
use Rattle.lexer.specs.Lex.{marked, token_at, token_from}
use Rattle.lexer.specs.declared.token.Token.{Token}
use Rattle.std.proofs.lemmas.List.{drop_more, length-drop}
use Rattle.std.proofs.lemmas.Bool.Decides.{nat_tests}

module _ (bs : List ℕ) (place : ℕ) where
  -- the two ways to be a token there
  pub token_ways : (t : Token) → token_at bs place ≡ Some t
      → ((place ≡ 0) × (marked bs ≡ true) × (mark ≡ t)) ⊎ ((place < length bs) × (token_from (drop place bs) ≡ t))
  token_ways t e = grind (arith, nat_tests)

  -- where no mark can stand
  pub token_there : 0 < length (drop place bs) → eqb (peek 0 (drop place bs)) 239 ≡ false
      → token_at bs place ≡ Some (token_from (drop place bs))
  token_there some other = grind (arith, nat_tests, length-drop place bs)

-- what holds of each byte with what follows it holds of what follows a place
pub at_place : (P : List ℕ → Type 0) → ((x : ℕ) (xs : List ℕ) → P (x ∷ xs)) → (bs : List ℕ) (place : ℕ)
    → place < length bs → P (drop place bs)
at_place P each bs place h = subst P (sym (drop_more bs place 0 h)) (each (get_or bs place 0) (drop (place + 1) bs))

-- a byte-order mark, byte by byte
mark_bytes : (xs : List ℕ) → marked xs ≡ true → (peek 0 xs ≡ 239) × (peek 1 xs ≡ 187) × (peek 2 xs ≡ 191)
mark_bytes xs m = grind (arith, nat_tests)

pub mark_front : (xs : List ℕ) → marked xs ≡ true → xs ≡ 239 ∷ 187 ∷ 191 ∷ drop 3 xs
mark_front xs m =
    let bytes = mark_bytes xs m in
    byte_here xs 0 238 bytes.0
    ∙ ap (λ l. 239 ∷ l) (byte_here xs 1 186 bytes.1 ∙ ap (λ l. 187 ∷ l) (byte_here xs 2 190 bytes.2))
