-- What is read of a class is as long as it can be.
use Rattle.std.proofs.Common.{◌≡◌, ℕ, suc, ◌+◌, Bool, true, false, List, [], ◌∷◌, take, drop, sym, refl, subst, inl, inr, arith}
use Rattle.lexer.specs.Class.{ident_cont, ident_start}
use Rattle.lexer.specs.Cursor.{identifier, leads, run}
use Rattle.lexer.specs.TokenLaws.{Junk, Longest, Name, every}
use Rattle.std.proofs.lemmas.List.{drop-drop, drop-take}
use Rattle.std.proofs.lemmas.Bool.{and_from, cases_Bool}

module _ (class : ℕ → Bool) where
  pub longest_more : (x : ℕ) (bytes next : List ℕ) → class x ≡ true → Longest class bytes next
      → Longest class (x ∷ bytes) next
  unfolding every
  longest_more x bytes next c l = record { all = and_from (class x) (every class bytes) c l.all; ends = l.ends }

  pub run_more : (x : ℕ) (xs : List ℕ) → class x ≡ true → run class (x ∷ xs) ≡ suc (run class xs)
  unfolding run
  run_more x xs c = simp c (omega arith)

  run_none : (x : ℕ) (xs : List ℕ) → class x ≡ false → run class (x ∷ xs) ≡ 0
  unfolding run
  run_none x xs c = simp c

  none_longest : (next : List ℕ) → leads class next ≡ false → Longest class [] next
  unfolding every
  none_longest next e = record { all = refl; ends = e }

  empty_run : Longest class (take (run class []) []) (drop (run class []) [])
  unfolding run
  empty_run = none_longest [] refl

  pub run_longest : (xs : List ℕ) → Longest class (take (run class xs) xs) (drop (run class xs) xs)
  run_longest [] = empty_run
  run_longest (x ∷ xs) =
      let P = λ (n : ℕ). Longest class (take n (x ∷ xs)) (drop n (x ∷ xs)) in
      elim (cases_Bool (class x)) [
        | inl c ↦
            subst P (sym (run_more x xs c))
            (longest_more x (take (run class xs) xs) (drop (run class xs) xs) c (run_longest xs))
        | inr c ↦ subst P (sym (run_none x xs c)) (none_longest (x ∷ xs) c)
      ]

  -- with a byte before it
  pub longest_from : (x : ℕ) (xs : List ℕ) → class x ≡ true
      → Longest class (x ∷ take (run class xs) xs) (drop (run class xs) xs)
  longest_from x xs c = longest_more x (take (run class xs) xs) (drop (run class xs) xs) c (run_longest xs)

-- a byte that starts a name goes on with one
pub starts_goes_on : (x : ℕ) → ident_start x ≡ true → ident_cont x ≡ true
starts_goes_on x s = grind arith

pub name_of : (x : ℕ) (xs : List ℕ) → ident_start x ≡ true
    → Name (x ∷ take (run ident_cont xs) xs) (drop (run ident_cont xs) xs)
name_of x xs s = record { starts = s; goes_on = longest_from ident_cont x xs (starts_goes_on x s) }

junk_here : (xs : List ℕ) → Junk (take (identifier xs) xs) (drop (identifier xs) xs)
junk_here [] = inr (refl, refl)
junk_here (x ∷ xs) =
    elim (cases_Bool (ident_start x)) [
      | inl s ↦
          let n : identifier (x ∷ xs) ≡ suc (run ident_cont xs) =
          simp s (run_more ident_cont x xs (starts_goes_on x s)) in
          subst (λ m. Junk (take m (x ∷ xs)) (drop m (x ∷ xs))) (sym n) (inl (name_of x xs s))
      | inr s ↦
          let n : identifier (x ∷ xs) ≡ 0 = simp s in
          subst (λ m. Junk (take m (x ∷ xs)) (drop m (x ∷ xs))) (sym n) (inr (refl, s))
    ]

-- a name, or nothing, after so many bytes
pub junk_after : (n : ℕ) (xs : List ℕ)
    → Junk (drop n (take (n + identifier (drop n xs)) xs)) (drop (n + identifier (drop n xs)) xs)
junk_after n xs =
    let m = identifier (drop n xs) in
    subst (λ l. Junk l (drop (n + m) xs)) (sym (drop-take n m xs))
    (subst (Junk (take m (drop n xs))) (drop-drop m n xs) (junk_here (drop n xs)))
