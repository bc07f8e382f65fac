-- What stops a word, a number, a parameter or the arguments of a psql command is an ASCII byte, or the end.
use Rattle.std.proofs.Common.{◌≡◌, ℕ, ◌+◌, ◌<◌, ◌≤◌, Bool, true, false, ◌&&◌, ◌||◌, eqb, List, [], ◌∷◌, get_or, drop, inl, inr, arith}
use Rattle.lexer.specs.Class.{all_but, command_letter, decimal, hexadecimal, ident_cont, ident_start}
use Rattle.lexer.specs.Cursor.{digits, identifier, peek, run}
use Rattle.lexer.specs.Dollar.{parameter}
use Rattle.lexer.specs.Number.{after_digits_len, base_of, based_len, decimal_len, exponent, exponent_mark, fraction, fractional_len, has_point, in_base_len, number_len, numeric_len}
use Rattle.lexer.specs.Psql.{before_pipe, command, command_len, followed, reads_line, takes_pipe, what_follows}
use Rattle.lexer.specs.PsqlArg.{after, arguments, stops}
use Rattle.lexer.specs.declared.psql.Command.{Command}
use Rattle.lexer.specs.declared.psql_arg.ArgState.TheVariants.{Outside}
use Rattle.lexer.specs.declared.psql_arg.ArgState.{ArgState}
use Rattle.lexer.specs.declared.token.Base.TheVariants.{Binary, Octal, Decimal, Hexadecimal}
use Rattle.lexer.specs.declared.token.Base.{Base}
use Rattle.std.proofs.lemmas.List.{get_or-drop}
use Rattle.std.proofs.lemmas.Bool.{both_ways, cases_lt, cond_both}
use Rattle.std.proofs.lemmas.Bool.Decides.{nat_tests}

-- the byte at the place where it ends is ASCII; past the end that is 0
abbrev pub Stopped : (List ℕ → ℕ) → Type 0
Stopped f = (xs : List ℕ) → get_or xs (f xs) 0 < 128

-- a class of every byte beyond ASCII
abbrev Takes : (ℕ → Bool) → Type 0
Takes class = (b : ℕ) → 128 ≤ b → class b ≡ true

-- the byte at a place after the first n
pub at_later : (xs : List ℕ) (n i : ℕ) → get_or (drop n xs) i 0 < 128 → get_or xs (n + i) 0 < 128
at_later xs n i h = rw get_or-drop at h

pub refused : (class : ℕ → Bool) → Takes class → (b : ℕ) → class b ≡ false → b < 128
refused class takes b other =
    elim (cases_lt b 128) [
      | inl low ↦ low
      | inr high ↦ absurd (both_ways (class b) other (takes b high))
    ]

pub run_stopped : (class : ℕ → Bool) → Takes class → Stopped (run class)
unfolding run
run_stopped class takes [] = omega arith
run_stopped class takes (x ∷ xs) =
    cond_both (class x) (1 + run class xs) 0 (λ n. get_or (x ∷ xs) n 0 < 128)
    (λ _. at_later (x ∷ xs) 1 (run class xs) (run_stopped class takes xs)) (refused class takes x)

ident_cont_takes : Takes ident_cont
ident_cont_takes b h = grind (arith, nat_tests)

pub ident_start_takes : Takes ident_start
ident_start_takes b h = grind (arith, nat_tests)

command_letter_takes : Takes command_letter
command_letter_takes b h = grind (arith, nat_tests)

line_takes : Takes (all_but 10 13)
line_takes b h = grind (arith, nat_tests)

pub word_stopped : Stopped (run ident_cont)
word_stopped = run_stopped ident_cont ident_cont_takes

pub line_stopped : Stopped (run (all_but 10 13))
line_stopped = run_stopped (all_but 10 13) line_takes

-- where none begins, an ASCII byte stands
identifier_stopped : Stopped identifier
identifier_stopped [] = omega arith
identifier_stopped (x ∷ xs) =
    cond_both (ident_start x) (run ident_cont (x ∷ xs)) 0 (λ n. get_or (x ∷ xs) n 0 < 128) (λ _. word_stopped (x ∷ xs))
    (refused ident_start ident_start_takes x)

-- one thing, and another that follows it
pub then_stopped : (g : List ℕ → ℕ) → Stopped g → (n : ℕ) (xs : List ℕ) → get_or xs (n + g (drop n xs)) 0 < 128
then_stopped g q n xs = at_later xs n (g (drop n xs)) (q (drop n xs))

numeric_stopped : Stopped numeric_len
unfolding numeric_len
numeric_stopped xs = then_stopped identifier identifier_stopped (exponent xs) xs

pub fractional_stopped : Stopped fractional_len
unfolding fractional_len
fractional_stopped xs = then_stopped numeric_len numeric_stopped (fraction xs) xs

after_digits_stopped : Stopped after_digits_len
after_digits_stopped xs =
    cond_both (has_point xs) _ _ (λ n. get_or xs n 0 < 128) (λ _. then_stopped fractional_len fractional_stopped 1 xs)
    (λ _. cond_both (exponent_mark (peek 0 xs)) _ _ (λ n. get_or xs n 0 < 128)
    (λ _. numeric_stopped xs) (λ _. identifier_stopped xs))

based_stopped : (digit : ℕ → Bool) → Stopped (based_len digit)
unfolding based_len
based_stopped digit xs = then_stopped identifier identifier_stopped (digits digit xs) xs

in_base_stopped : (base : Base) → Stopped (in_base_len base)
unfolding decimal_len
in_base_stopped Binary xs = then_stopped (based_len decimal) (based_stopped decimal) 1 xs
in_base_stopped Octal xs = then_stopped (based_len decimal) (based_stopped decimal) 1 xs
in_base_stopped Decimal xs = then_stopped after_digits_len after_digits_stopped (digits decimal xs) xs
in_base_stopped Hexadecimal xs = then_stopped (based_len hexadecimal) (based_stopped hexadecimal) 1 xs

pub number_stopped : (first : ℕ) → Stopped (number_len first)
unfolding number_len
number_stopped first xs = in_base_stopped (base_of first (peek 0 xs)) xs

pub parameter_stopped : Stopped parameter
parameter_stopped xs = then_stopped identifier identifier_stopped (run decimal xs) xs

-- arguments stop before a line end or a backslash
stops_ascii : (state : ArgState) (b : ℕ) → stops state b ≡ true → b < 128
stops_ascii state b h = grind (arith, nat_tests)

arguments_stopped : (state : ArgState) → Stopped (arguments state)
unfolding arguments
arguments_stopped state [] = omega arith
arguments_stopped state (x ∷ xs) =
    cond_both (stops state x) 0 (1 + arguments (after state x) xs) (λ n. get_or (x ∷ xs) n 0 < 128)
    (stops_ascii state x)
    (λ _. at_later (x ∷ xs) 1 (arguments (after state x) xs) (arguments_stopped (after state x) xs))

follows_stopped : (k : Command) → Stopped (what_follows k)
follows_stopped k xs =
    cond_both (reads_line k || (takes_pipe k && eqb (peek 0 xs) 124)) _ _ (λ n. get_or xs n 0 < 128)
    (λ _. line_stopped xs) (λ _. arguments_stopped Outside xs)

pub command_stopped : Stopped command_len
command_stopped xs =
    let k = command xs in
    then_stopped (followed (before_pipe k) (what_follows k))
    (λ ys. then_stopped (what_follows k) (follows_stopped k) (before_pipe k ys) ys) (run command_letter xs) xs
