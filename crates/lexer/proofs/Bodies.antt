-- The first quote that is neither doubled nor escaped closes a body, and is the only one that does.
use Rattle.std.proofs.Common.{◌≡◌, ℕ, ◌+◌, Bool, true, false, ◌&&◌, eqb, List, [], ◌∷◌, ◌++◌, length, take, sym, refl, ap, ◌∙◌, inl, inr, arith, eq-eqb, ne_eqb, eqb-true}
use Rattle.lexer.proofs.Extents.{long, shut}
use Rattle.lexer.specs.Class.{backslash}
use Rattle.lexer.specs.Cursor.{leads}
use Rattle.lexer.specs.Extent.{Extent, further}
use Rattle.lexer.specs.QuoteLaws.{Body, Closes, doubled, empty, escaped, plain}
use Rattle.lexer.specs.Quoted.{quoted_extent, quoted, quoted_closed}
use Rattle.std.proofs.lemmas.List.{take_at}
use Rattle.std.proofs.lemmas.Bool.{and_parts, cases_Bool}
use borrow.Author.Tests.{clash, eqb-false}

pub cons_same : {x y : ℕ} {xs ys : List ℕ} → x ≡ y → xs ≡ ys → x ∷ xs ≡ y ∷ ys
cons_same p s = cc

-- two extents that are closed, of one length
same : {m n : ℕ} → m ≡ n → ◌≡◌ {A = Extent} (record { len = m; closed = true }) (record { len = n; closed = true })
same h = ap (λ l. record { len = l; closed = true }) h

module _ (q : ℕ) (e : Bool) where
  unescaped : (b : ℕ) → (e ≡ true → b ≡ 92 → ⊥) → (e && backslash b) ≡ false
  unescaped b h =
      elim (cases_Bool (e && backslash b)) [
        | inl is ↦ let both = and_parts e (backslash b) is in absurd (h both.0 (eqb-true b 92 both.1))
        | inr no_such ↦ no_such
      ]

  -- one step over each kind of byte
  over_plain : (x : ℕ) (xs : List ℕ) → eqb x q ≡ false → (e && backslash x) ≡ false → quoted_extent q e (x ∷ xs) ≡ further 1 (quoted_extent q e xs)
  unfolding quoted_extent
  over_plain x [] other bare = simp other
  over_plain x (y ∷ xs) other bare = simp (other, bare)

  over_doubled : (x y : ℕ) (xs : List ℕ) → eqb x q ≡ true → eqb y q ≡ true → quoted_extent q e (x ∷ y ∷ xs) ≡ further 2 (quoted_extent q e xs)
  unfolding quoted_extent
  over_doubled x y xs is twice = simp (is, twice)

  over_escaped : (x y : ℕ) (xs : List ℕ) → eqb x q ≡ false → (e && backslash x) ≡ true → quoted_extent q e (x ∷ y ∷ xs) ≡ further 2 (quoted_extent q e xs)
  unfolding quoted_extent
  over_escaped x y xs other takes = simp (other, takes)

  over_close : (x : ℕ) (rest : List ℕ) → eqb x q ≡ true → leads (eqb q) rest ≡ false → quoted_extent q e (x ∷ rest) ≡ record { len = 1; closed = true }
  unfolding quoted_extent
  over_close x [] is alone = simp is
  over_close x (y ∷ ys) is alone = let other = ne_eqb y q (λ s. eqb-false q y alone (sym s)) in simp (is, other)

  -- a body ends where a quote closes it
  pub body_closes : (q ≡ 92 → ⊥) → {body : List ℕ} → Body q e body → (rest : List ℕ) → leads (eqb q) rest ≡ false → quoted_extent q e (body ++ (q ∷ rest)) ≡ record { len = length body + 1; closed = true }
  body_closes apart empty rest alone = over_close q rest (eq-eqb q q refl) alone
  body_closes apart (plain b xs other bare more) rest alone =
      over_plain b (xs ++ (q ∷ rest)) (ne_eqb b q other) (unescaped b bare) ∙ rw (body_closes apart more rest alone) (same (omega arith))
  body_closes apart (doubled xs more) rest alone =
      let is = eq-eqb q q refl in
      over_doubled q q (xs ++ (q ∷ rest)) is is ∙ rw (body_closes apart more rest alone) (same (omega arith))
  body_closes apart (escaped b xs escapes more) rest alone =
      over_escaped 92 b (xs ++ (q ∷ rest)) (ne_eqb 92 q (λ s. apart (sym s))) (simp escapes) ∙ rw (body_closes apart more rest alone) (same (omega arith))

  -- what is closed has a body
  pub closed_splits : (xs : List ℕ) → quoted_closed q e xs ≡ true → (body : List ℕ) × (rest : List ℕ) × Closes q e xs body rest × (quoted q e xs ≡ length body + 1)
  unfolding quoted_extent
  closed_splits [] h = absurd (clash h)
  closed_splits (x ∷ []) h = ([], [], record { split = cons_same (eqb-true x q h) refl; sound = empty; alone = refl }, refl)
  closed_splits (x ∷ y ∷ xs) h =
      elim (cases_Bool (eqb x q)) [
        | inl is ↦
            elim (cases_Bool (eqb y q)) [
              | inl twice ↦
                  let step = over_doubled x y xs is twice in
                  let more = closed_splits xs (sym (shut step) ∙ h) in (
                    q ∷ q ∷ more.0,
                    more.1,
                    record {
                      split = cons_same (eqb-true x q is) (cons_same (eqb-true y q twice) more.2.split);
                      sound = doubled more.0 more.2.sound;
                      alone = more.2.alone;
                    },
                    omega (arith, long step, more.3),
                  )
              | inr once ↦
                  let other = ne_eqb q y (λ s. eqb-false y q once (sym s)) in (
                    [],
                    y ∷ xs,
                    record { split = cons_same (eqb-true x q is) refl; sound = empty; alone = other },
                    long (over_close x (y ∷ xs) is other),
                  )
            ]
        | inr other ↦
            elim (cases_Bool (e && backslash x)) [
              | inl takes ↦
                  let both = and_parts e (backslash x) takes in
                  let step = over_escaped x y xs other takes in
                  let more = closed_splits xs (sym (shut step) ∙ h) in (
                    92 ∷ y ∷ more.0,
                    more.1,
                    record {
                      split = cons_same (eqb-true x 92 both.1) (cons_same refl more.2.split);
                      sound = escaped y more.0 both.0 more.2.sound;
                      alone = more.2.alone;
                    },
                    omega (arith, long step, more.3),
                  )
              | inr bare ↦
                  let step = over_plain x (y ∷ xs) other bare in
                  let more = closed_splits (y ∷ xs) (sym (shut step) ∙ h) in (
                    x ∷ more.0,
                    more.1,
                    record {
                      split = cons_same refl more.2.split;
                      sound = plain x more.0 (eqb-false x q other) (λ p s. absurd (clash (sym bare ∙ simp (p, eq-eqb x 92 s)))) more.2.sound;
                      alone = more.2.alone;
                    },
                    omega (arith, long step, more.3),
                  )
            ]
      ]

  -- what is not closed runs to the end
  pub open_runs : (xs : List ℕ) → quoted_closed q e xs ≡ false → quoted q e xs ≡ length xs
  unfolding quoted_extent
  open_runs [] h = refl
  open_runs (x ∷ []) h = refl
  open_runs (x ∷ y ∷ xs) h =
      elim (cases_Bool (eqb x q)) [
        | inl is ↦
            elim (cases_Bool (eqb y q)) [
              | inl twice ↦ let step = over_doubled x y xs is twice in omega (arith, long step, open_runs xs (sym (shut step) ∙ h))
              | inr once ↦ absurd (clash (sym h ∙ shut (over_close x (y ∷ xs) is (ne_eqb q y (λ s. eqb-false y q once (sym s))))))
            ]
        | inr other ↦
            elim (cases_Bool (e && backslash x)) [
              | inl takes ↦ let step = over_escaped x y xs other takes in omega (arith, long step, open_runs xs (sym (shut step) ∙ h))
              | inr bare ↦ let step = over_plain x (y ∷ xs) other bare in omega (arith, long step, open_runs (y ∷ xs) (sym (shut step) ∙ h))
            ]
      ]

  module _ (apart : q ≡ 92 → ⊥) (xs : List ℕ) where
    closes : (b r : List ℕ) → Closes q e xs b r → quoted_extent q e xs ≡ record { len = length b + 1; closed = true }
    closes b r c = ap (quoted_extent q e) c.split ∙ body_closes apart c.sound r c.alone

    pub closes_closed : (b r : List ℕ) → Closes q e xs b r → quoted_closed q e xs ≡ true
    closes_closed b r c = shut (closes b r c)

    pub closes_once : (b r c s : List ℕ) → Closes q e xs b r → Closes q e xs c s → b ≡ c
    closes_once b r c s one other =
        let m = long (closes b r one) in
        let n = long (closes c s other) in
        let even : length c ≡ length b = omega arith in
        sym (take_at b (q ∷ r) (length b) refl) ∙ ap (take (length b)) (sym one.split ∙ other.split) ∙ take_at c (q ∷ s) (length b) even
