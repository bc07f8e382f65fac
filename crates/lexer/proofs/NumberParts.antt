-- Digits, exponents and fractions are read to their end where what follows stops them.
use Rattle.std.proofs.Common.{◌≡◌, ℕ, suc, ◌+◌, Bool, true, false, ◌&&◌, eqb, ◌⊎◌, List, [], ◌∷◌, ◌++◌, length, None, sym, refl, ap, ◌∙◌, subst, inl, inr, arith}
use Rattle.lexer.proofs.Forms.{digit_more, digits_more}
use Rattle.lexer.proofs.NumberBytes.{Past, digit_unsigned, mark_no_point, mark_past, no_exponent_mark, stop_past}
use Rattle.lexer.proofs.Numbers.{no_exponent, not_empty, not_empty_digits, some_exponent, tail_plain, tail_signed}
use Rattle.lexer.specs.Class.{decimal, ident_start}
use Rattle.lexer.specs.Cursor.{digits, identifier, peek}
use Rattle.lexer.specs.Number.{empty_exponent, exponent, exponent_digits, exponent_mark, exponent_tail, fraction, fractional, fractional_len, numeric, numeric_len}
use Rattle.lexer.specs.TokenLaws.{Exponent, ExponentOrNone, Stops, grouped}
use Rattle.lexer.specs.TokenLaws.Exponent.{signed, unsigned}
use Rattle.lexer.specs.declared.token.LiteralKind.TheVariants.{Numeric}
use Rattle.std.proofs.lemmas.List.{drop_at}
use borrow.Author.Tests.{clash}

-- digits, read back
module _ (digit : ℕ → Bool) where
  stop_digits : (next : List ℕ) → digit (peek 0 next) ≡ false → eqb (peek 0 next) 95 ≡ false → digits digit next ≡ 0
  unfolding digits
  stop_digits [] d u = refl
  stop_digits (x ∷ xs) d u = grind arith

  pub no_group : grouped digit [] ≡ true → ⊥
  unfolding grouped
  no_group g = clash g

  pub group_head : (x : ℕ) (xs : List ℕ) → grouped digit (x ∷ xs) ≡ true → digit x ≡ true
  unfolding grouped
  group_head x [] g = g
  group_head x (y ∷ ys) g = grind arith

  pub group_leads : (ds ws : List ℕ) → grouped digit ds ≡ true → digit (peek 0 (ds ++ ws)) ≡ true
  group_leads [] ws g = absurd (no_group g)
  group_leads (x ∷ xs) ws g = group_head x xs g

  pub group_rest : (x y : ℕ) (ys : List ℕ) → grouped digit (x ∷ y ∷ ys) ≡ true
      → (grouped digit (y ∷ ys) ≡ true) ⊎ ((eqb y 95 && grouped digit ys) ≡ true)
  unfolding grouped
  group_rest x y ys g = grind arith

  module _ (next : List ℕ) (d : digit (peek 0 next) ≡ false) (u : eqb (peek 0 next) 95 ≡ false) where
    group_step : (x y z : ℕ) (zs : List ℕ) → grouped digit (x ∷ y ∷ z ∷ zs) ≡ true
        → (grouped digit (y ∷ z ∷ zs) ≡ true → digits digit (z ∷ zs ++ next) ≡ length (z ∷ zs))
        → (grouped digit (z ∷ zs) ≡ true → digits digit (zs ++ next) ≡ length zs)
        → digits digit (y ∷ z ∷ zs ++ next) ≡ length (y ∷ z ∷ zs)
    group_step x y z zs g one two =
        grind (
          arith,
          group_rest x y (z ∷ zs) g,
          group_head y (z ∷ zs),
          group_head z zs,
          digits_more digit y (z ∷ zs ++ next),
          digits_more digit z (zs ++ next),
        )

    pub group_back : (x : ℕ) (ys : List ℕ) → grouped digit (x ∷ ys) ≡ true → digits digit (ys ++ next) ≡ length ys
    unfolding digits grouped
    group_back x [] g = stop_digits next d u
    group_back x (y ∷ []) g = let end = stop_digits next d u in grind arith
    group_back x (y ∷ z ∷ zs) g = group_step x y z zs g (group_back y (z ∷ zs)) (group_back z zs)

    -- a whole group
    pub all_back : (ds : List ℕ) → grouped digit ds ≡ true → digits digit (ds ++ next) ≡ length ds
    all_back [] g = absurd (no_group g)
    all_back (x ∷ xs) g = digit_more digit x (xs ++ next) (group_head x xs g) ∙ ap suc (group_back x xs g)

pub no_junk : (next : List ℕ) → ident_start (peek 0 next) ≡ false → identifier next ≡ 0
no_junk [] i = refl
no_junk (x ∷ xs) i = simp i

-- an exponent, read back
module _ (next : List ℕ) (s : Stops next) where
  pub record Tail (es : List ℕ) : Type 0 where
    pub len : exponent (es ++ next) ≡ length es
    pub full : (at : ℕ) → empty_exponent at (es ++ next) ≡ None
    pub past : Past (peek 0 (es ++ next))
    pub pointless : eqb (peek 0 next) 46 ≡ false → eqb (peek 0 (es ++ next)) 46 ≡ false

  digits_back : (ds : List ℕ) → grouped decimal ds ≡ true → digits decimal (ds ++ next) ≡ length ds
  digits_back = all_back decimal next s.0 (stop_past (peek 0 next) s.1 s.0).no_underscore

  marked_back : (e : ℕ) (es : List ℕ) → exponent_mark e ≡ true → exponent_digits (es ++ next) ≡ true
      → exponent_tail (es ++ next) ≡ length es → Tail (e ∷ es)
  marked_back e es m has tail =
      let whole = some_exponent (e ∷ es ++ next) m in
      record {
        len = omega arith;
        full = λ at. not_empty_digits (e ∷ es ++ next) at m has;
        past = mark_past e m;
        pointless = λ _. mark_no_point e m;
      }

  pub exponent_back : {es : List ℕ} → Exponent es → Tail es
  exponent_back (unsigned e ds m g) =
      let ws = ds ++ next in
      let d = group_leads decimal ds next g in
      let u = digit_unsigned (peek 0 ws) d in
      let has : exponent_digits ws ≡ true = simp (u, d) in
      marked_back e ds m has (sym (tail_plain ws has u) ∙ digits_back ds g)
  exponent_back (signed e b ds m u g) =
      let ws = b ∷ ds ++ next in
      let has : exponent_digits ws ≡ true = simp u (group_leads decimal ds next g) in
      marked_back e (b ∷ ds) m has (omega (arith, tail_signed ws has u, digits_back ds g))

  no_exponent_back : Tail []
  no_exponent_back =
      let m = no_exponent_mark (peek 0 next) s.1 in
      record {
        len = no_exponent next m;
        full = λ at. not_empty next at m;
        past = stop_past (peek 0 next) s.1 s.0;
        pointless = λ p. p;
      }

  pub tail_back : (es : List ℕ) → ExponentOrNone es → Tail es
  tail_back es (inl e) = exponent_back e
  tail_back es (inr e) = subst Tail (sym e) no_exponent_back

  module _ (es : List ℕ) (t : Tail es) where
    pub numeric_back : (at : ℕ) → numeric at (es ++ next) ≡ Numeric None (at + length es)
    unfolding numeric
    numeric_back at = simp (t.full at, t.len)

    pub numeric_len_back : numeric_len (es ++ next) ≡ length es
    unfolding numeric_len
    numeric_len_back =
        let junk = ap identifier (drop_at es next (length es) refl) ∙ no_junk next s.1 in
        simp t.len (omega arith)

    -- a fraction of no digits, and one of some
    pub bare_back : (at : ℕ)
        → (fractional at (es ++ next) ≡ Numeric None (at + length es)) × (fractional_len (es ++ next) ≡ length es)
    unfolding fractional fractional_len
    bare_back at =
        let none : fraction (es ++ next) ≡ 0 = simp t.past.no_digit in
        let same : at + 0 + length es ≡ at + length es = omega arith in
        (simp none (numeric_back (at + 0) ∙ ap (Numeric None) same), simp none (omega (arith, numeric_len_back)))

    pub full_back : (at : ℕ) (fs : List ℕ) → grouped decimal fs ≡ true
        → (fractional at (fs ++ (es ++ next)) ≡ Numeric None (at + length fs + length es))
        × (fractional_len (fs ++ (es ++ next)) ≡ length fs + length es)
    unfolding fractional fractional_len
    full_back at fs g =
        let ws = es ++ next in
        let back = all_back decimal ws t.past.no_digit t.past.no_underscore fs g in
        let n : fraction (fs ++ ws) ≡ length fs = simp (group_leads decimal fs ws g, back) in
        let rest = drop_at fs ws (length fs) refl in
        (simp (n, rest) (numeric_back (at + length fs)), simp (n, rest) (omega (arith, numeric_len_back)))
