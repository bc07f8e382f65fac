-- What starts with a dollar sign goes by its own bytes and the two after it.
use Rattle.std.proofs.Common.{◌≡◌, ℕ, ◌+◌, ◌<◌, ◌≤◌, Bool, true, false, cond, not, ◌&&◌, ◌||◌, eqb, List, [], ◌∷◌, ◌++◌, length, drop, sym, ap, ◌∙◌, inl, inr, arith}
use Rattle.lexer.proofs.Decided.{Decided, both_counted, chosen, first_of, in_turn}
use Rattle.lexer.proofs.DecidedParts.{delimited_closed_decided, delimited_decided, identifier_decided, run_decided}
use Rattle.lexer.specs.Class.{decimal, ident_cont, ident_start, tag_cont}
use Rattle.lexer.specs.Cursor.{identifier, peek, run}
use Rattle.lexer.specs.Dollar.{delimited, delimited_closed, dollar_closed, dollar_kind, dollar_len, dollar_opener, dollar_quoted, opens_dollar, parameter}
use Rattle.lexer.specs.declared.token.LiteralKind.TheVariants.{DollarQuotedString}
use Rattle.lexer.specs.declared.token.TokenKind.TheVariants.{Literal, PositionalParam}
use Rattle.std.proofs.lemmas.List.{get_or_append_left}
use Rattle.std.proofs.lemmas.Bool.{and_parts, cases_Bool, cond_both, not-true}

-- a wider class has the longer run
run_wider : (c d : ℕ → Bool) → ((b : ℕ) → c b ≡ true → d b ≡ true) → (xs : List ℕ) → run c xs ≤ run d xs
unfolding run
run_wider c d w [] = omega arith
run_wider c d w (x ∷ xs) =
    let more = run_wider c d w xs in
    elim (cases_Bool (c x)) [
      | inl e ↦ let also = w x e in simp (e, also) (omega arith)
      | inr e ↦ simp e (omega arith)
    ]

no_digit : (b : ℕ) → ident_start b ≡ true → decimal b ≡ false
no_digit b h = not-true (decimal b) (and_parts (not (decimal b)) (not (eqb b 36)) (and_parts (ident_cont b) (not (decimal b) && not (eqb b 36)) h).1).0

-- where no string opens, the tag is the junk of a parameter without digits
tag_is_junk : (x : ℕ) (xs : List ℕ) → ident_start x ≡ true → run tag_cont (x ∷ xs) ≤ parameter (x ∷ xs)
unfolding run
tag_is_junk x xs h =
    let shorter = run_wider tag_cont ident_cont (λ b k. (and_parts (ident_cont b) (not (eqb b 36)) k).0) (x ∷ xs) in
    let none : run decimal (x ∷ xs) ≡ 0 = simp (no_digit x h) in
    let junk : parameter (x ∷ xs) ≡ run ident_cont (x ∷ xs) = ap (λ n. n + identifier (drop n (x ∷ xs))) none ∙ ap (λ b. 0 + cond b (run ident_cont (x ∷ xs)) 0) h ∙ omega arith in
    omega arith

-- the tag lies within what starts with the dollar sign
tag_within : (x : ℕ) (xs : List ℕ) → ident_start x ≡ true → run tag_cont (x ∷ xs) ≤ dollar_len (x ∷ xs)
tag_within x xs h =
    let bs = x ∷ xs in
    let junk = tag_is_junk x xs h in
    cond_both (opens_dollar bs) (dollar_quoted bs) (parameter bs) (λ n. run tag_cont bs ≤ n) (λ _. omega arith) (λ _. junk)

opens_decided : Decided dollar_len opens_dollar
opens_decided [] s t h = absurd (omega arith)
opens_decided (x ∷ p) s t h =
    elim (cases_Bool (ident_start x)) [
      | inl e ↦
          let bs = x ∷ p ++ s in
          let n = run tag_cont bs in
          let inside = tag_within x (p ++ s) e in
          let room : n < length (x ∷ p) = omega arith in
          let same = run_decided tag_cont (x ∷ p) s t (omega arith) in
          let sign : peek (run tag_cont (x ∷ p ++ t)) (x ∷ p ++ t) ≡ peek n bs =
          ap (λ m. peek m (x ∷ p ++ t)) same ∙ get_or_append_left (x ∷ p) t 0 n room ∙ sym (get_or_append_left (x ∷ p) s 0 n room)
          in
          ap (λ b. eqb x 36 || (ident_start x && eqb b 36)) sign
      | inr e ↦ ap (λ b. eqb x 36 || (b && eqb (peek (run tag_cont (x ∷ p ++ t)) (x ∷ p ++ t)) 36)) e ∙ sym (ap (λ b. eqb x 36 || (b && eqb (peek (run tag_cont (x ∷ p ++ s)) (x ∷ p ++ s)) 36)) e)
    ]

opener_decided : Decided dollar_opener dollar_opener
opener_decided p s t h = ap (λ n. n + 1) (run_decided tag_cont p s t (omega arith))

string_decided : Decided dollar_quoted dollar_quoted
string_decided = in_turn dollar_opener (λ _ w. delimited (36 ∷ w)) (λ n w xs. n + delimited (36 ∷ w) xs) opener_decided (λ n w p s t h. ap (λ m. n + m) (delimited_decided (36 ∷ w) p s t h))

string_closed_decided : Decided dollar_quoted dollar_closed
string_closed_decided = in_turn dollar_opener (λ _ w. delimited (36 ∷ w)) (λ _ w. delimited_closed (36 ∷ w)) opener_decided (λ _ w. delimited_closed_decided (36 ∷ w))

pub dollar_len_decided : Decided dollar_len dollar_len
dollar_len_decided = chosen opens_dollar dollar_quoted parameter dollar_quoted parameter opens_decided string_decided (both_counted (run decimal) identifier (run_decided decimal) identifier_decided)

pub dollar_kind_decided : Decided dollar_len dollar_kind
dollar_kind_decided =
    chosen opens_dollar dollar_quoted parameter (λ xs. Literal (DollarQuotedString (dollar_closed xs))) (λ xs. PositionalParam (1 + run decimal xs)) opens_decided
    (λ p s t h. ap (λ b. Literal (DollarQuotedString b)) (string_closed_decided p s t h))
    (λ p s t h. ap (λ n. PositionalParam (1 + n)) (first_of (run decimal) identifier (run decimal) (run_decided decimal) p s t h))
