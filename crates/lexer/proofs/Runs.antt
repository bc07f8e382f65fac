-- What is read of a list ends within it.
use Rattle.std.proofs.Common.{ℕ, ◌+◌, ◌≤◌, Bool, List, [], ◌∷◌, length, drop, arith}
use Rattle.lexer.specs.Class.{ident_cont}
use Rattle.lexer.specs.Cursor.{digits, identifier, run}
use Rattle.std.proofs.lemmas.List.{length-drop}

pub run_within : (class : ℕ → Bool) (xs : List ℕ) → run class xs ≤ length xs
unfolding run
run_within class [] = omega arith
run_within class (x ∷ xs) = let more = run_within class xs in grind arith

pub identifier_within : (xs : List ℕ) → identifier xs ≤ length xs
identifier_within xs = let word = run_within ident_cont xs in grind arith

pub digits_within : (digit : ℕ → Bool) (xs : List ℕ) → digits digit xs ≤ length xs
unfolding digits
digits_within digit [] = omega arith
digits_within digit (x ∷ xs) = let more = digits_within digit xs in grind arith

-- one thing, and another that follows it
pub then_within : (g : List ℕ → ℕ) → ((xs : List ℕ) → g xs ≤ length xs) → (n : ℕ) (xs : List ℕ) → n ≤ length xs
    → n + g (drop n xs) ≤ length xs
then_within g q n xs h =
    let second = q (drop n xs) in
    let left = length-drop n xs in
    omega arith
