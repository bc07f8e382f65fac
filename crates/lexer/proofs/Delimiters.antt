-- A dollar quote's delimiter, and the first place where it stands again.
use Rattle.std.proofs.Common.{◌≡◌, ℕ, zero, suc, ◌+◌, ◌<◌, ◌≤◌, true, false, ◌&&◌, eqb, List, [], ◌∷◌, ◌++◌, length, take, drop, sym, refl, ap, ◌∙◌, subst, inl, inr, arith, eq-eqb, eqb-true}
use Rattle.lexer.proofs.Bodies.{cons_same}
use Rattle.lexer.proofs.Dollars.{extent_found, extent_more, opener_within, opens_sign}
use Rattle.lexer.proofs.Rest.{within}
use Rattle.lexer.specs.Class.{ident_start, tag_cont}
use Rattle.lexer.specs.Cursor.{peek, run}
use Rattle.lexer.specs.Dollar.{begins, delimited, delimited_closed, delimited_extent, dollar_delimiter, dollar_opener, opens_dollar}
use Rattle.lexer.specs.QuoteLaws.{Tag, TagRest, delimiter}
use Rattle.std.proofs.lemmas.List.{length-append, length-drop, length-take-le, take-append-drop, take_more}
use Rattle.std.proofs.lemmas.Bool.{and_from, and_parts, cases_Bool, or_cases}
use borrow.Author.Tests.{clash}

begins_split : (ds xs : List ℕ) → begins ds xs ≡ true → xs ≡ ds ++ drop (length ds) xs
unfolding begins
begins_split [] xs h = refl
begins_split (d ∷ ds) [] h = absurd (clash h)
begins_split (d ∷ ds) (x ∷ xs) h =
    let both = and_parts (eqb d x) (begins ds xs) h in
    cons_same (sym (eqb-true d x both.0)) (begins_split ds xs both.1)

begins_append : (ds back : List ℕ) → begins ds (ds ++ back) ≡ true
unfolding begins
begins_append [] back = refl
begins_append (d ∷ ds) back = and_from (eqb d d) (begins ds (ds ++ back)) (eq-eqb d d refl) (begins_append ds back)

module _ (ds : List ℕ) where
  -- where the list does not begin with it, another place of it lies further on
  later : (x : ℕ) (xs : List ℕ) → begins ds (x ∷ xs) ≡ false → (front back : List ℕ) → x ∷ xs ≡ front ++ (ds ++ back) → (0 < length front) × (xs ≡ drop 1 front ++ (ds ++ back))
  later x xs none [] back e = absurd (clash (sym none ∙ ap (begins ds) e ∙ begins_append ds back))
  later x xs none (f ∷ fs) back e = (omega arith, ap (drop 1) e)

  pub delimited_splits : (xs : List ℕ) → delimited_closed ds xs ≡ true
      → (body : List ℕ) × (rest : List ℕ) × (xs ≡ body ++ (ds ++ rest)) × (delimited ds xs ≡ length body + length ds) × ((front back : List ℕ) → xs ≡ front ++ (ds ++ back) → length body ≤ length front)
  unfolding delimited_extent
  delimited_splits [] h = absurd (clash h)
  delimited_splits (x ∷ xs) h =
      elim (cases_Bool (begins ds (x ∷ xs))) [
        | inl here ↦
            let reach = ap (λ e. e.len) (extent_found ds (x ∷ xs) 0 (omega arith) here) in
            ([], drop (length ds) (x ∷ xs), begins_split ds (x ∷ xs) here, omega arith, λ front back e. omega arith)
        | inr none ↦
            let one = extent_more ds (x ∷ xs) 0 (omega arith) none in
            let more = delimited_splits xs (sym (ap (λ e. e.closed) one) ∙ h) in
            let reach = ap (λ e. e.len) one in
            let long = more.3 in (
              x ∷ more.0,
              more.1,
              cons_same refl more.2,
              omega arith,
              λ front back e.
                  let on = later x xs none front back e in
                  let short = more.4 (drop 1 front) back on.1 in
                  let some = on.0 in
                  let left = length-drop 1 front in
                  omega arith,
            )
      ]

  pub delimited_runs : 0 < length ds → (xs : List ℕ) → delimited_closed ds xs ≡ false → (delimited ds xs ≡ length xs) × ((front back : List ℕ) → xs ≡ front ++ (ds ++ back) → ⊥)
  unfolding delimited_extent
  delimited_runs some [] h = (refl, λ front back e. let same = simp length-append at (ap length e) in omega arith)
  delimited_runs some (x ∷ xs) h =
      elim (cases_Bool (begins ds (x ∷ xs))) [
        | inl here ↦ absurd (clash (sym h ∙ ap (λ e. e.closed) (extent_found ds (x ∷ xs) 0 (omega arith) here)))
        | inr none ↦
            let one = extent_more ds (x ∷ xs) 0 (omega arith) none in
            let more = delimited_runs some xs (sym (ap (λ e. e.closed) one) ∙ h) in
            let reach = ap (λ e. e.len) one in
            let long = more.0 in
            (omega arith, λ front back e. more.1 (drop 1 front) back (later x xs none front back e).1)
      ]

tag_rest : (n : ℕ) (xs : List ℕ) → n ≤ run tag_cont xs → TagRest (take n xs)
unfolding run
tag_rest zero xs h = tt
tag_rest (suc n) [] h = tt
tag_rest (suc n) (x ∷ xs) h =
    elim (cases_Bool (tag_cont x)) [
      | inl goes ↦ let more = simp goes at h in (goes, tag_rest n xs (omega arith))
      | inr ends ↦ let none = simp ends at h in absurd (omega arith)
    ]

tag_led : (n x : ℕ) (xs : List ℕ) → ident_start x ≡ true → TagRest (take n (x ∷ xs)) → Tag (take n (x ∷ xs))
tag_led zero x xs lead rest = tt
tag_led (suc n) x xs lead rest = (lead, rest.1)

module _ (xs : List ℕ) (opens : opens_dollar xs ≡ true) where
  -- the tag of an opener
  abbrev pub tag_of : List ℕ
  tag_of = take (run tag_cont xs) xs

  pub delimiter_is : dollar_delimiter xs ≡ delimiter tag_of
  delimiter_is =
      let n = run tag_cont xs in
      let sign = opens_sign xs opens in
      cons_same refl (take_more xs n 0 (within xs n 35 sign) ∙ ap (λ b. take n xs ++ (b ∷ [])) sign)

  pub opener_split : 36 ∷ xs ≡ delimiter tag_of ++ drop (dollar_opener xs) xs
  opener_split =
      cons_same refl (sym (take-append-drop (dollar_opener xs) xs))
      ∙ ap (λ d. d ++ drop (dollar_opener xs) xs) delimiter_is

  pub opener_length : length (delimiter tag_of) ≡ 1 + dollar_opener xs
  opener_length =
      let inside = opener_within xs opens in
      let front = length-take-le (dollar_opener xs) xs inside in
      sym (ap length delimiter_is) ∙ omega arith

pub tag_stands : (xs : List ℕ) → opens_dollar xs ≡ true → Tag (take (run tag_cont xs) xs)
unfolding run
tag_stands [] h = tt
tag_stands (x ∷ xs) h =
    elim (or_cases (eqb x 36) (ident_start x && eqb (peek (run tag_cont (x ∷ xs)) (x ∷ xs)) 36) h) [
      | inl sign ↦
          let none : run tag_cont (x ∷ xs) ≡ 0 = ap (λ b. run tag_cont (b ∷ xs)) (eqb-true x 36 sign) in
          subst (λ n. Tag (take n (x ∷ xs))) (sym none) tt
      | inr tag ↦
          let n = run tag_cont (x ∷ xs) in
          let lead = (and_parts (ident_start x) (eqb (peek n (x ∷ xs)) 36) tag).0 in
          tag_led n x xs lead (tag_rest n (x ∷ xs) (omega arith))
    ]
