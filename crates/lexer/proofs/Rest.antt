-- What the byte at a place says of the bytes that follow it.
use Rattle.std.proofs.Common.{◌≡◌, ℕ, suc, ◌+◌, ◌<◌, ◌≤◌, List, [], ◌∷◌, length, get_or, drop, Some, None, sym, ap, ◌∙◌, arith}
use Rattle.lexer.specs.Cursor.{peek}
use Rattle.std.proofs.lemmas.Grind.{common_steps}
use Rattle.std.proofs.lemmas.List.{drop_all, drop_more}
use Rattle.std.proofs.lemmas.Option.{get_or_from_slice_get, gets, slice_get_within}
use Rattle.std.specs.List.{slice_get}

-- what `peek` gives where there is a byte
pub peek_some : (xs : List ℕ) (n b : ℕ) → Some b ≡ slice_get xs n → b ≡ peek n xs
peek_some xs n b e = sym (get_or_from_slice_get xs n b 0 (sym e))

-- a byte that is not 0 lies within
pub within : (xs : List ℕ) (i b : ℕ) → get_or xs i 0 ≡ suc b → i < length xs
within xs i b e = grind (arith, common_steps)

pub byte_here : (xs : List ℕ) (i b : ℕ) → get_or xs i 0 ≡ suc b → drop i xs ≡ suc b ∷ drop (i + 1) xs
byte_here xs i b e = drop_more xs i 0 (within xs i b e) ∙ ap (λ x. x ∷ drop (i + 1) xs) e

module _ (xs : List ℕ) (i b : ℕ) (e : Some b ≡ slice_get xs i) where
  pub inside : i < length xs
  inside = slice_get_within xs i b (sym e)

  pub here : drop i xs ≡ b ∷ drop (i + 1) xs
  here = drop_more xs i 0 inside ∙ ap (λ x. x ∷ drop (i + 1) xs) (sym (peek_some xs i b e))

-- a list with a first byte is that byte and what follows it
pub front : (xs : List ℕ) (b : ℕ) → Some b ≡ slice_get xs 0 → xs ≡ b ∷ drop 1 xs
front xs b e = here xs 0 b e

pub past : (xs : List ℕ) (i : ℕ) → None ≡ slice_get xs i → drop i xs ≡ []
past xs i e = let end : length xs ≤ i = grind (arith, gets) in drop_all i xs end
