-- One turn of a loop that goes on byte by byte: each function of the bytes from a place on, by the byte there.
use Rattle.std.proofs.Common.{◌≡◌, ℕ, zero, suc, ◌+◌, Bool, true, false, ◌&&◌, ◌||◌, ◌==◌, List, [], ◌∷◌, drop, Option, Some, None, refl, ap, ◌∙◌, arith}
use Rattle.std.specs.Prelude.{if◌then◌else◌}
use Rattle.std.specs.List.{slice_get}
use Rattle.std.proofs.Math.Bool.{or-false, or-true}
use Rattle.std.proofs.lemmas.Option.{gets, slice_get_within}
use Rattle.lexer.specs.Class.{line_blank}
use Rattle.lexer.specs.Cursor.{digit_met, digits, leads, peek, run}
use Rattle.lexer.specs.PsqlArg.{after, arguments, is_parenthesis, last_after, options, separates, stops}
use Rattle.lexer.specs.declared.psql_arg.ArgState.{ArgState}
use Rattle.lexer.specs.declared.psql_arg.ArgState.TheVariants.{Outside}

-- one value past the end, and else a value by the byte
abbrev pub by_byte : {K : Type 0} → Option ℕ → K → (ℕ → K) → K
by_byte None past at = past
by_byte (Some b) past at = at b

-- what is so by the first byte is so by the byte at a place
pub turn : {K : Type 0} (f : List ℕ → K) (past : K) (at : ℕ → List ℕ → K) → f [] ≡ past → ((b : ℕ) (xs : List ℕ) → f (b ∷ xs) ≡ at b xs)
    → (xs : List ℕ) (i : ℕ) → f (drop i xs) ≡ by_byte (slice_get xs i) past (λ b. at b (drop (i + 1) xs))
turn f past at e h [] zero = e
turn f past at e h [] (suc i) = e
turn f past at e h (x ∷ xs) zero = h x xs
turn f past at e h (x ∷ xs) (suc i) =
    let next : suc (i + 1) ≡ suc i + 1 = omega arith in
    turn f past at e h xs i ∙ ap (λ k. by_byte (slice_get xs i) past (λ b. at b (drop k (x ∷ xs)))) next

slice_get-drop : (xs : List ℕ) (i : ℕ) → slice_get (drop i xs) 0 ≡ slice_get xs i
slice_get-drop [] zero = refl
slice_get-drop [] (suc i) = refl
slice_get-drop (x ∷ xs) zero = refl
slice_get-drop (x ∷ xs) (suc i) = slice_get-drop xs i

-- what is so by the first byte and the one after it is so by those at a place
pub turn_two : {K : Type 0} (f : List ℕ → K) (past : K) (at : ℕ → Option ℕ → List ℕ → K) → f [] ≡ past → ((b : ℕ) (xs : List ℕ) → f (b ∷ xs) ≡ at b (slice_get xs 0) xs)
    → (xs : List ℕ) (i : ℕ) → f (drop i xs) ≡ by_byte (slice_get xs i) past (λ b. at b (slice_get xs (i + 1)) (drop (i + 1) xs))
turn_two f past at e h xs i =
    turn f past (λ b ys. at b (slice_get ys 0) ys) e h xs i ∙ ap (λ o. by_byte (slice_get xs i) past (λ b. at b o (drop (i + 1) xs))) (slice_get-drop xs (i + 1))

-- what is asked of one byte, or of none past the end
pub peek_at : (xs : List ℕ) (i : ℕ) → peek i xs ≡ by_byte (slice_get xs i) 0 (λ b. b)
peek_at [] i = refl
peek_at (x ∷ xs) zero = refl
peek_at (x ∷ xs) (suc i) = peek_at xs i

pub leads_at : (class : ℕ → Bool) (xs : List ℕ) (i : ℕ) → leads class (drop i xs) ≡ by_byte (slice_get xs i) false class
leads_at class xs i = turn (leads class) false (λ b ys. class b) refl (λ b ys. refl) xs i

pub run_turn : (class : ℕ → Bool) (xs : List ℕ) (i : ℕ)
    → run class (drop i xs) ≡ by_byte (slice_get xs i) 0 (λ b. if class b then 1 + run class (drop (i + 1) xs) else 0)
unfolding run
run_turn class xs i = turn (run class) 0 (λ b ys. if class b then 1 + run class ys else 0) refl (λ b ys. refl) xs i

pub digits_turn : (digit : ℕ → Bool) (xs : List ℕ) (i : ℕ)
    → digits digit (drop i xs) ≡ by_byte (slice_get xs i) 0 (λ b. if digit b || (b == 95 && leads digit (drop (i + 1) xs)) then 1 + digits digit (drop (i + 1) xs) else 0)
unfolding digits
digits_turn digit xs i = turn (digits digit) 0 (λ b ys. if digit b || (b == 95 && leads digit ys) then 1 + digits digit ys else 0) refl (λ b ys. refl) xs i

pub met_turn : (digit : ℕ → Bool) (xs : List ℕ) (i : ℕ)
    → digit_met digit (drop i xs) ≡ by_byte (slice_get xs i) false (λ b. if digit b then true else if b == 95 && leads digit (drop (i + 1) xs) then digit_met digit (drop (i + 1) xs) else false)
unfolding digit_met
met_turn digit xs i = turn (digit_met digit) false (λ b ys. if digit b then true else if b == 95 && leads digit ys then digit_met digit ys else false) refl (λ b ys. refl) xs i

pub arguments_turn : (state : ArgState) (xs : List ℕ) (i : ℕ)
    → arguments state (drop i xs) ≡ by_byte (slice_get xs i) 0 (λ b. if stops state b then 0 else 1 + arguments (after state b) (drop (i + 1) xs))
unfolding arguments
arguments_turn state xs i = turn (arguments state) 0 (λ b ys. if stops state b then 0 else 1 + arguments (after state b) ys) refl (λ b ys. refl) xs i

pub options_turn : (state : ArgState) (last : Option ℕ) (xs : List ℕ) (i : ℕ)
    → options state last (drop i xs) ≡ by_byte (slice_get xs i) 0 (λ b. if stops state b then 0 else if separates state b && is_parenthesis last then run line_blank (drop i xs) else if separates state b then 1 + options Outside None (drop (i + 1) xs) else 1 + options (after state b) (last_after state last b) (drop (i + 1) xs))
unfolding options
options_turn state last [] zero = refl
options_turn state last [] (suc i) = refl
options_turn state last (x ∷ xs) zero = refl
options_turn state last (x ∷ xs) (suc i) =
    let next : suc (i + 1) ≡ suc i + 1 = omega arith in
    options_turn state last xs i ∙ ap (λ k. by_byte (slice_get xs i) 0 (λ b. if stops state b then 0 else if separates state b && is_parenthesis last then run line_blank (drop i xs) else if separates state b then 1 + options Outside None (drop k (x ∷ xs)) else 1 + options (after state b) (last_after state last b) (drop k (x ∷ xs)))) next

pub ruleset turns = (run_turn, digits_turn, met_turn, arguments_turn, options_turn, or-true, or-false, gets)
