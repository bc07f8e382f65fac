-- One byte further in the search for a line's end and for an empty line.
use Rattle.std.proofs.Common.{◌≡◌, ℕ, ◌+◌, ◌<◌, ◌≤◌, Bool, true, false, cond, ◌&&◌, eqb, List, length, get_or, drop, ap, ◌∙◌}
use Rattle.std.proofs.Common.{Some, None, arith}
use Rattle.std.proofs.lemmas.Bool.Decides.{nat_tests}
use Rattle.records.specs.Record.{lines_length, place_in}
use Rattle.std.proofs.lemmas.List.{drop_more, drop_all}

pub lines_length_at : (starts : Bool) (xs : List ℕ) (i : ℕ) → i < length xs
    → lines_length starts (drop i xs) ≡ cond (starts && eqb (get_or xs i 0) 10) 0 (1 + lines_length (eqb (get_or xs i 0) 10) (drop (i + 1) xs))
unfolding lines_length
lines_length_at starts xs i h = ap (lines_length starts) (drop_more xs i 0 h)

-- an empty line stands here
pub lines_length_empty : (starts : Bool) (xs : List ℕ) (i : ℕ) → i < length xs → (starts && eqb (get_or xs i 0) 10) ≡ true → lines_length starts (drop i xs) ≡ 0
lines_length_empty starts xs i h e = lines_length_at starts xs i h ∙ ap (λ t. cond t 0 (1 + lines_length (eqb (get_or xs i 0) 10) (drop (i + 1) xs))) e

pub lines_length_more : (starts : Bool) (xs : List ℕ) (i : ℕ) → i < length xs → (starts && eqb (get_or xs i 0) 10) ≡ false
    → lines_length starts (drop i xs) ≡ 1 + lines_length (eqb (get_or xs i 0) 10) (drop (i + 1) xs)
lines_length_more starts xs i h e = lines_length_at starts xs i h ∙ ap (λ t. cond t 0 (1 + lines_length (eqb (get_or xs i 0) 10) (drop (i + 1) xs))) e

pub lines_length_past : (starts : Bool) (xs : List ℕ) (i : ℕ) → length xs ≤ i → lines_length starts (drop i xs) ≡ 0
unfolding lines_length
lines_length_past starts xs i h = ap (lines_length starts) (drop_all i xs h)

-- where a byte stands, and where none does
pub place_in-within : (bs : List ℕ) (m n : ℕ) → m ≡ n → n < length bs → Some n ≡ place_in bs m
place_in-within bs m n e h = grind (arith, nat_tests)

pub place_in-past : (bs : List ℕ) (m : ℕ) → length bs ≤ m → None ≡ place_in bs m
place_in-past bs m h = grind (arith, nat_tests)
