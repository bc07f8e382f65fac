-- A psql command goes by its own bytes and the two after it.
use Rattle.std.proofs.Common.{None, ◌≡◌, ℕ, ◌+◌, ◌≤◌, Bool, false, cond, ◌&&◌, ◌||◌, eqb, List, [], ◌∷◌, ◌++◌, length, refl, ap, arith}
use Rattle.lexer.proofs.Decided.{Decided, both_counted, chosen_counted, in_turn, seen}
use Rattle.lexer.proofs.DecidedParts.{arguments_decided, options_decided, run_decided}
use Rattle.lexer.specs.Class.{all_but, command_letter, line_blank}
use Rattle.lexer.specs.Cursor.{peek, run}
use Rattle.lexer.specs.Psql.{before_pipe, command, command_len, ends_query, followed, meaning, opened_options, psql_kind, psql_len, reads_line, takes_pipe, what_follows}
use Rattle.lexer.specs.PsqlArg.{arguments, options}
use Rattle.lexer.specs.declared.psql.Command.{Command}
use Rattle.lexer.specs.declared.psql.Command.TheVariants.{EndsQuery, Nothing, ReadsLine, SendsQuery, TakesPipe}
use Rattle.lexer.specs.declared.psql_arg.ArgState.TheVariants.{Outside}
use Rattle.lexer.specs.declared.token.TokenKind.TheVariants.{Colon, PsqlCommand, Semi}

opened_decided : Decided opened_options opened_options
opened_decided =
    chosen_counted (λ xs. eqb (peek 0 xs) 40) (options Outside None) (λ _. 0)
    (seen opened_options (λ a _. eqb a 40)) (options_decided Outside None) (λ _ _ _ _. refl)

before_decided : (k : Command) → Decided (before_pipe k) (before_pipe k)
before_decided SendsQuery = both_counted (run line_blank) opened_options (run_decided line_blank) opened_decided
before_decided TakesPipe = run_decided line_blank
before_decided Nothing = λ _ _ _ _. refl
before_decided EndsQuery = λ _ _ _ _. refl
before_decided ReadsLine = λ _ _ _ _. refl

module _ (k : Command) where
  follows_decided : Decided (what_follows k) (what_follows k)
  follows_decided =
      chosen_counted (λ xs. reads_line k || (takes_pipe k && eqb (peek 0 xs) 124)) (run (all_but 10 13))
      (arguments Outside)
      (seen (what_follows k) (λ a _. reads_line k || (takes_pipe k && eqb a 124)))
      (run_decided (all_but 10 13)) (arguments_decided Outside)

  tail_decided : Decided (followed (before_pipe k) (what_follows k)) (followed (before_pipe k) (what_follows k))
  tail_decided = both_counted (before_pipe k) (what_follows k) (before_decided k) follows_decided

-- what follows the word of a command
abbrev tail : List ℕ → List ℕ → ℕ
tail w = followed (before_pipe (meaning w)) (what_follows (meaning w))

command_len_decided : Decided command_len command_len
command_len_decided =
    in_turn (run command_letter) (λ _. tail) (λ n w xs. n + tail w xs) (run_decided command_letter)
    (λ n w p s t h. ap (λ m. n + m) (tail_decided (meaning w) p s t h))

command_decided : Decided command_len command
command_decided =
    in_turn (run command_letter) (λ _. tail) (λ _ w _. meaning w) (run_decided command_letter) (λ _ _ _ _ _ _. refl)

pub psql_len_decided : Decided psql_len psql_len
psql_len_decided =
    chosen_counted (λ xs. eqb (peek 0 xs) 92 || (eqb (peek 0 xs) 59 || eqb (peek 0 xs) 58)) (λ _. 1) command_len
    (seen psql_len (λ a _. eqb a 92 || (eqb a 59 || eqb a 58))) (λ _ _ _ _. refl) command_len_decided

-- three tests that all come out alike
alike_but_last : {Y : Type 0} (a b c : Bool) (n l : ℕ) (u v w : Y) {y z : Y} → (n + 2 ≤ l → y ≡ z)
    → cond (a || (b || c)) 1 n + 2 ≤ l → cond a u (cond b v (cond c w y)) ≡ cond a u (cond b v (cond c w z))
alike_but_last a b c n l u v w f h = grind arith

pub psql_kind_decided : Decided psql_len psql_kind
psql_kind_decided [] s t h = absurd (omega arith)
psql_kind_decided (x ∷ p) s t h =
    alike_but_last (eqb x 92) (eqb x 59) (eqb x 58) (command_len (x ∷ p ++ s)) (length (x ∷ p))
    (PsqlCommand false) Semi Colon (λ k. ap (λ c. PsqlCommand (ends_query c)) (command_decided (x ∷ p) s t k)) h
