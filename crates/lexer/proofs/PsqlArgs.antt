-- What blanks before an argument are.
use Rattle.std.proofs.Common.{◌≡◌, ℕ, suc, ◌+◌, true, false, List, [], ◌∷◌, drop, None, sym, refl, ap, ◌∙◌, inl, inr, arith}
use Rattle.lexer.specs.Class.{line_blank}
use Rattle.lexer.specs.Cursor.{run}
use Rattle.lexer.specs.PsqlArg.{options, stops}
use Rattle.lexer.specs.declared.psql_arg.ArgState.TheVariants.{Outside}
use Rattle.std.proofs.lemmas.List.{drop-drop}
use Rattle.std.proofs.lemmas.Bool.{cases_Bool}
use Rattle.std.proofs.lemmas.Bool.Decides.{nat_tests}

-- a blank before an argument belongs to no argument
blank_goes_on : (b : ℕ) → line_blank b ≡ true → stops Outside b ≡ false
blank_goes_on b h = grind (arith, nat_tests)

none_before : (n : ℕ) → n ≡ 0 + n
none_before n = omega arith

-- reading options goes on after the blanks at the front
pub options_blanks : (xs : List ℕ) → options Outside None xs ≡ run line_blank xs + options Outside None (drop (run line_blank xs) xs)
unfolding options run
options_blanks [] = refl
options_blanks (x ∷ xs) =
    elim (cases_Bool (line_blank x)) [
      | inl blank ↦
          let goes_on = blank_goes_on x blank in
          let more = options_blanks xs in
          let front : run line_blank (x ∷ xs) ≡ suc (run line_blank xs) = simp blank (omega arith) in
          let this : options Outside None (x ∷ xs) ≡ 1 + options Outside None xs = simp (blank, goes_on) in
          this ∙ rw front (omega arith)
      | inr no_blank ↦ let front : run line_blank (x ∷ xs) ≡ 0 = simp no_blank in none_before (options Outside None (x ∷ xs)) ∙ ap (λ n. n + options Outside None (drop n (x ∷ xs))) (sym front)
    ]

-- the same from a place on
pub options_past_blanks : (xs : List ℕ) (i : ℕ) → options Outside None (drop i xs) ≡ run line_blank (drop i xs) + options Outside None (drop (i + run line_blank (drop i xs)) xs)
options_past_blanks xs i =
    let n = run line_blank (drop i xs) in
    options_blanks (drop i xs) ∙ ap (λ l. n + options Outside None l) (drop-drop n i xs ∙ ap (λ m. drop m xs) (omega arith))
