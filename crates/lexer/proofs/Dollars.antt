-- Lists that begin with another, one turn of the search for a delimiter, and how far dollar-quoted strings reach.
use Rattle.std.proofs.Common.{◌≡◌, ℕ, zero, suc, ◌+◌, ◌<◌, ◌≤◌, Bool, true, false, cond, ◌&&◌, eqb, List, [], ◌∷◌, length, get_or, take, drop, sym, refl, ap, ◌∙◌, inl, inr, arith, eqb-true}
use Rattle.lexer.proofs.Moves.{moved_by, moved_rest, moved_trans, next_one}
use Rattle.lexer.proofs.Rest.{within}
use Rattle.lexer.proofs.Runs.{identifier_within, run_within, then_within}
use Rattle.lexer.specs.Class.{decimal, ident_start, tag_cont}
use Rattle.lexer.specs.Cursor.{Moved, Spot, identifier, next_len, peek, rest, run}
use Rattle.lexer.specs.Extent.{Extent, further}
use Rattle.lexer.specs.Dollar.{begins, delimited, delimited_extent, dollar_delimiter, dollar_len, dollar_opener, opens_dollar, parameter}
use Rattle.std.proofs.lemmas.List.{drop_all, drop_more, get_or-drop, length-drop}
use Rattle.std.proofs.lemmas.Option.{slice_get-get_or}
use Rattle.std.specs.List.{list_all, range_with_len, slice_get, zip}
use Rattle.std.specs.Option.{option_eq}
use Rattle.std.specs.Prelude.{nat_eq}
use Rattle.std.proofs.lemmas.Bool.{and_parts, and_right, cases_Bool, cond_both, or_cases}
use borrow.Author.Tests.{clash}

pub begins_fits : (ds xs : List ℕ) → begins ds xs ≡ true → length ds ≤ length xs
unfolding begins
begins_fits [] xs e = omega arith
begins_fits (d ∷ ds) [] e = absurd (clash e)
begins_fits (d ∷ ds) (x ∷ xs) e = let h = begins_fits ds xs (and_parts (eqb d x) (begins ds xs) e).1 in omega arith

pub begins_short : (ds xs : List ℕ) → length xs < length ds → begins ds xs ≡ false
unfolding begins
begins_short [] xs h = absurd (omega arith)
begins_short (d ∷ ds) [] h = refl
begins_short (d ∷ ds) (x ∷ xs) h = and_right (eqb d x) (begins ds xs) (begins_short ds xs (omega arith))

module _ (ds xs : List ℕ) where
  pub begins_more : (i j : ℕ) → i < length ds → j < length xs → begins (drop i ds) (drop j xs) ≡ (eqb (get_or ds i 0) (get_or xs j 0) && begins (drop (i + 1) ds) (drop (j + 1) xs))
  unfolding begins
  begins_more i j p q = ap (λ l. begins l (drop j xs)) (drop_more ds i 0 p) ∙ ap (begins (get_or ds i 0 ∷ drop (i + 1) ds)) (drop_more xs j 0 q)

  pub begins_all : (i j : ℕ) → length ds ≤ i → begins (drop i ds) (drop j xs) ≡ true
  unfolding begins
  begins_all i j p = ap (λ l. begins l (drop j xs)) (drop_all i ds p)

  -- whether a byte of the first list is that of the second at another place
  abbrev pub same_at : ℕ × ℕ → Bool
  same_at p = option_eq nat_eq (slice_get ds p.0) (slice_get xs p.1)

  pub begins_from : (n m i j : ℕ) → i + n ≡ length ds → j + m ≡ length xs → n ≤ m → list_all same_at (zip (range_with_len i n) (range_with_len j m)) ≡ begins (drop i ds) (drop j xs)
  begins_from zero m i j p q h = sym (begins_all i j (omega arith))
  begins_from (suc n) zero i j p q h = absurd (omega arith)
  begins_from (suc n) (suc m) i j p q h =
      let here : same_at (i, j) ≡ eqb (get_or ds i 0) (get_or xs j 0) = simp (slice_get-get_or ds i 0 (omega arith), slice_get-get_or xs j 0 (omega arith)) in
      ap (λ b. same_at (i, j) && b) (begins_from n m (i + 1) (j + 1) (omega arith) (omega arith) (omega arith))
      ∙ ap (λ b. b && begins (drop (i + 1) ds) (drop (j + 1) xs)) here
      ∙ sym (begins_more i j (omega arith) (omega arith))

-- the bytes from a `$` on
pub opener_bytes : (xs : List ℕ) (from len : ℕ) → get_or xs from 0 ≡ 36 → take (len + 1) (drop from xs) ≡ 36 ∷ take len (drop (from + 1) xs)
opener_bytes xs from len sign =
    let more : len + 1 ≡ suc len = omega arith in
    let front : drop from xs ≡ 36 ∷ drop (from + 1) xs = drop_more xs from 0 (within xs from 35 sign) ∙ ap (λ x. x ∷ drop (from + 1) xs) sign in
    ap (take (len + 1)) front ∙ ap (λ k. take k (36 ∷ drop (from + 1) xs)) more

-- where a dollar quote opens, a `$` stands after the tag
pub opens_sign : (xs : List ℕ) → opens_dollar xs ≡ true → peek (run tag_cont xs) xs ≡ 36
unfolding run
opens_sign [] e = absurd (clash e)
opens_sign (x ∷ xs) e =
    elim (or_cases (eqb x 36) (ident_start x && eqb (peek (run tag_cont (x ∷ xs)) (x ∷ xs)) 36) e) [
      | inl sign ↦
          let is = eqb-true x 36 sign in
          let none : run tag_cont (x ∷ xs) ≡ 0 = ap (λ b. run tag_cont (b ∷ xs)) is in
          ap (λ n. peek n (x ∷ xs)) none ∙ is
      | inr tag ↦ eqb-true (peek (run tag_cont (x ∷ xs)) (x ∷ xs)) 36 (and_parts (ident_start x) (eqb (peek (run tag_cont (x ∷ xs)) (x ∷ xs)) 36) tag).1
    ]

pub opener_within : (xs : List ℕ) → opens_dollar xs ≡ true → dollar_opener xs ≤ length xs
opener_within xs e = let h = within xs (run tag_cont xs) 35 (opens_sign xs e) in omega arith

-- over the tag and the `$` after it
pub opener_moved : {c d e : Spot} → opens_dollar (rest c) ≡ true → Moved c d (run tag_cont (rest c)) → Moved d e (next_len (rest d)) → Moved c e (dollar_opener (rest c))
opener_moved {c = c} {d = d} opens tag sign =
    let xs = rest c in
    let n = run tag_cont xs in
    let next : peek 0 (drop n xs) ≡ 36 = get_or-drop n xs 0 0 ∙ ap (λ k. get_or xs k 0) (omega arith) ∙ opens_sign xs opens in
    let one : next_len (rest d) ≡ 1 = ap next_len (moved_rest tag) ∙ next_one (drop n xs) 35 next in
    moved_trans tag (moved_by one sign)

module _ (delimiter : List ℕ) where
  pub delimited_within : (xs : List ℕ) → delimited delimiter xs ≤ length xs
  unfolding delimited_extent
  delimited_within [] = omega arith
  delimited_within (x ∷ xs) =
      let more = delimited_within xs in
      cond_both {A = Extent} (begins delimiter (x ∷ xs)) _ _ (λ e. e.len ≤ length (x ∷ xs)) (λ whole. begins_fits delimiter (x ∷ xs) whole) (λ _. omega arith)

  module _ (xs : List ℕ) (i : ℕ) where
    extent_here : i < length xs → delimited_extent delimiter (drop i xs) ≡ cond (begins delimiter (drop i xs)) (record { len = length delimiter; closed = true }) (further 1 (delimited_extent delimiter (drop (i + 1) xs)))
    unfolding delimited_extent
    extent_here h = ap (delimited_extent delimiter) (drop_more xs i 0 h) ∙ ap (λ l. cond (begins delimiter l) (record { len = length delimiter; closed = true }) (further 1 (delimited_extent delimiter (drop (i + 1) xs)))) (sym (drop_more xs i 0 h))

    -- where a delimiter stands, where another byte does, and past the end
    pub extent_found : i < length xs → begins delimiter (drop i xs) ≡ true → delimited_extent delimiter (drop i xs) ≡ record { len = length delimiter; closed = true }
    extent_found h e = extent_here h ∙ simp e

    pub extent_more : i < length xs → begins delimiter (drop i xs) ≡ false → delimited_extent delimiter (drop i xs) ≡ further 1 (delimited_extent delimiter (drop (i + 1) xs))
    extent_more h e = extent_here h ∙ simp e

    pub extent_end : length xs ≤ i → delimited_extent delimiter (drop i xs) ≡ record { len = 0; closed = false }
    unfolding delimited_extent
    extent_end h = ap (delimited_extent delimiter) (drop_all i xs h)

pub parameter_within : (xs : List ℕ) → parameter xs ≤ length xs
parameter_within xs = then_within identifier identifier_within (run decimal xs) xs (run_within decimal xs)

pub dollar_within : (xs : List ℕ) → dollar_len xs ≤ length xs
dollar_within xs =
    let n = dollar_opener xs in
    let left = length-drop n xs in
    let body = delimited_within (dollar_delimiter xs) (drop n xs) in
    elim (cases_Bool (opens_dollar xs)) [
      | inl opens ↦ let room = opener_within xs opens in simp opens (omega arith)
      | inr not ↦ simp not (parameter_within xs)
    ]
