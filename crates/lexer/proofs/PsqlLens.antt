-- A psql command ends within the text.
use Rattle.std.proofs.Common.{Option, None, ◌≡◌, ℕ, ◌+◌, ◌-◌, ◌≤◌, Bool, true, ◌&&◌, ◌||◌, eqb, List, [], ◌∷◌, length, drop, arith}
use Rattle.lexer.proofs.Runs.{run_within, then_within}
use Rattle.lexer.specs.Class.{all_but, command_letter, line_blank}
use Rattle.lexer.specs.Cursor.{peek, run}
use Rattle.lexer.specs.Psql.{before_pipe, command, command_len, followed, opened_options, psql_len, reads_line, takes_pipe, what_follows}
use Rattle.lexer.specs.PsqlArg.{after, arguments, is_parenthesis, last_after, options, separates, stops}
use Rattle.lexer.specs.declared.psql.Command.{Command}
use Rattle.lexer.specs.declared.psql.Command.TheVariants.{EndsQuery, Nothing, ReadsLine, SendsQuery, TakesPipe}
use Rattle.lexer.specs.declared.psql_arg.ArgState.{ArgState}
use Rattle.lexer.specs.declared.psql_arg.ArgState.TheVariants.{Outside}
use Rattle.std.proofs.lemmas.List.{length-drop}
use Rattle.std.proofs.lemmas.Bool.{cond_both}

-- where a run from a place on ends
pub run_end_within : (class : ℕ → Bool) (bs : List ℕ) (place end : ℕ) → end ≡ place + run class (drop place bs) → end - place ≤ length bs - place
run_end_within class bs place end e =
    let short = run_within class (drop place bs) in
    let left = length-drop place bs in
    omega arith

pub arguments_within : (state : ArgState) (xs : List ℕ) → arguments state xs ≤ length xs
unfolding arguments
arguments_within state [] = omega arith
arguments_within state (x ∷ xs) =
    let more = arguments_within (after state x) xs in
    cond_both (stops state x) 0 (1 + arguments (after state x) xs) (λ n. n ≤ length (x ∷ xs)) (λ _. omega arith) (λ _. omega arith)

pub options_within : (state : ArgState) (last : Option ℕ) (xs : List ℕ) → options state last xs ≤ length xs
unfolding options
options_within state last [] = omega arith
options_within state last (x ∷ xs) =
    let more = options_within (after state x) (last_after state last x) xs in
    let next = options_within Outside None xs in
    let blanks = run_within line_blank (x ∷ xs) in
    cond_both (stops state x) 0 _ (λ n. n ≤ length (x ∷ xs)) (λ _. omega arith)
    (λ _. cond_both (separates state x && is_parenthesis last) _ _ (λ n. n ≤ length (x ∷ xs)) (λ _. blanks)
    (λ _. cond_both (separates state x) _ _ (λ n. n ≤ length (x ∷ xs)) (λ _. omega arith) (λ _. omega arith)))

-- two things that each end within what they are given
pub followed_within : (f g : List ℕ → ℕ) → ((xs : List ℕ) → f xs ≤ length xs) → ((xs : List ℕ) → g xs ≤ length xs) → (xs : List ℕ) → followed f g xs ≤ length xs
followed_within f g p q xs = then_within g q (f xs) xs (p xs)

opened_within : (xs : List ℕ) → opened_options xs ≤ length xs
opened_within xs =
    cond_both (eqb (peek 0 xs) 40) (options Outside None xs) 0 (λ n. n ≤ length xs) (λ _. options_within Outside None xs) (λ _. omega arith)

before_within : (k : Command) (xs : List ℕ) → before_pipe k xs ≤ length xs
before_within SendsQuery xs = followed_within (run line_blank) opened_options (run_within line_blank) opened_within xs
before_within TakesPipe xs = run_within line_blank xs
before_within Nothing xs = omega arith
before_within EndsQuery xs = omega arith
before_within ReadsLine xs = omega arith

follows_within : (k : Command) (xs : List ℕ) → what_follows k xs ≤ length xs
follows_within k xs =
    cond_both (reads_line k || (takes_pipe k && eqb (peek 0 xs) 124)) (run (all_but 10 13) xs) (arguments Outside xs) (λ n. n ≤ length xs) (λ _. run_within (all_but 10 13) xs) (λ _. arguments_within Outside xs)

command_within : (xs : List ℕ) → command_len xs ≤ length xs
command_within xs =
    let k = command xs in
    followed_within (run command_letter) (followed (before_pipe k) (what_follows k)) (run_within command_letter) (followed_within (before_pipe k) (what_follows k) (before_within k) (follows_within k)) xs

one_within : (xs : List ℕ) → (eqb (peek 0 xs) 92 || (eqb (peek 0 xs) 59 || eqb (peek 0 xs) 58)) ≡ true → 1 ≤ length xs
one_within [] e = let z : ◌≡◌ {A = ℕ} 0 1 = cc in absurd (omega arith)
one_within (x ∷ xs) e = omega arith

pub psql_within : (xs : List ℕ) → psql_len xs ≤ length xs
psql_within xs =
    cond_both (eqb (peek 0 xs) 92 || (eqb (peek 0 xs) 59 || eqb (peek 0 xs) 58)) 1 (command_len xs) (λ n. n ≤ length xs) (one_within xs) (λ _. command_within xs)
