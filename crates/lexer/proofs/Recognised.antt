-- A number's form, where what follows does not go on with it, is read as that number.
use Rattle.std.proofs.Common.{◌≡◌, ℕ, suc, ◌+◌, ◌<◌, Bool, true, false, ◌&&◌, eqb, List, [], ◌∷◌, ◌++◌, length, drop, Some, None, sym, refl, ap, ◌∙◌, subst, inl, inr, arith}
use Rattle.lexer.proofs.Forms.{digits_more}
use Rattle.lexer.proofs.NumberBytes.{Past, Unlettered, binary_base, decimal_base, digit_no_mark, digit_no_point, digit_start, digit_unlettered, hexadecimal_base, mark_no_point, no_exponent_mark, no_hexadecimal, octal_base, point_start, stop_past, underscore_unlettered}
use Rattle.lexer.proofs.Numbers.{number_in, with_exponent, with_neither, with_point}
use Rattle.lexer.proofs.NumberParts.{no_group, group_head, group_leads, group_rest, group_back, all_back, no_junk, exponent_back, tail_back, numeric_back, numeric_len_back, bare_back, full_back}
use Rattle.lexer.proofs.TokenAt.{token_there}
use Rattle.lexer.specs.Class.{decimal, hexadecimal}
use Rattle.lexer.specs.Cursor.{digit_met, digits, identifier, peek}
use Rattle.lexer.specs.Lex.{kind_of, lex, rest_len, token_at, token_from}
use Rattle.lexer.specs.Number.{after_digits, after_digits_len, base_of, based, based_len, decimal_len, decimal_number, either_case, exponent_mark, fractional, fractional_len, has_point, in_base, in_base_len, number, number_len}
use Rattle.lexer.specs.TokenLaws.{Based, Exponent, Fractional, FractionalRead, Stops, Whole, WholeRead, grouped}
use Rattle.lexer.specs.TokenLaws.Based.{direct, underscored}
use Rattle.lexer.specs.TokenLaws.Exponent.{signed, unsigned}
use Rattle.lexer.specs.TokenLaws.Fractional.{no_point, point_first, point_last, point_within}
use Rattle.lexer.specs.declared.token.Base.{Base}
use Rattle.lexer.specs.declared.token.Base.TheVariants.{Binary, Octal, Decimal, Hexadecimal}
use Rattle.lexer.specs.declared.token.LiteralKind.{LiteralKind}
use Rattle.lexer.specs.declared.token.LiteralKind.TheVariants.{Int, Numeric}
use Rattle.lexer.specs.declared.token.Token.{Token}
use Rattle.lexer.specs.declared.token.TokenKind.TheVariants.{Literal}
use Rattle.std.proofs.lemmas.List.{append_assoc, drop_at, length-append}
use Rattle.std.proofs.lemmas.Bool.{and_parts, or_right}

-- a number from its first digit on, by what follows its digits
group_unlettered : (x : ℕ) (ys ws : List ℕ) → grouped decimal (x ∷ ys) ≡ true → Unlettered (peek 0 ws)
    → Unlettered (peek 0 (ys ++ ws))
group_unlettered x [] ws g u = u
group_unlettered x (y ∷ ys) ws g u =
    elim (group_rest decimal x y ys g) [
      | inl more ↦ digit_unlettered y (group_head decimal y ys more)
      | inr more ↦ underscore_unlettered y (and_parts (eqb y 95) (grouped decimal ys) more).0
    ]

abbrev literal : LiteralKind → ℕ → Token
literal kind len = record { kind = Literal kind; len = len }

digit_lex : (x : ℕ) (xs : List ℕ) → decimal x ≡ true → lex x xs ≡ literal (number x 1 xs) (1 + number_len x xs)
unfolding lex
digit_lex x xs d =
    ap (λ s. record { kind = kind_of s x xs; len = 1 + rest_len s x xs }) (digit_start x d (peek 0 xs) (peek 1 xs))

module _ (x : ℕ) (ys ws : List ℕ) (g : grouped decimal (x ∷ ys) ≡ true) (p : Past (peek 0 ws)) where
  decimal_back : (number x 1 (ys ++ ws) ≡ after_digits (1 + length ys) ws)
      × (number_len x (ys ++ ws) ≡ length ys + after_digits_len ws)
  unfolding number number_len decimal_number decimal_len
  decimal_back =
      let base = decimal_base x (peek 0 (ys ++ ws)) (group_unlettered x ys ws g p.unlettered) in
      let n = group_back decimal ws p.no_digit p.no_underscore x ys g in
      let behind = drop_at ys ws (length ys) refl in
      (simp (base, n, behind), simp (base, n, behind))

  decimal_lex : (k : LiteralKind) (n : ℕ) → after_digits (1 + length ys) ws ≡ k
      → 1 + (length ys + after_digits_len ws) ≡ n → lex x (ys ++ ws) ≡ literal k n
  decimal_lex k n e f =
      let back = decimal_back in
      digit_lex x (ys ++ ws) (group_head decimal x ys g) ∙ simp (back.0, back.1, e, f)

-- a token at the front of a list that starts with no byte-order mark
record Front (l : List ℕ) (t : Token) : Type 0 where
  pub token : token_from l ≡ t
  pub some : 0 < length l
  pub unmarked : eqb (peek 0 l) 239 ≡ false

token_is : (bs : List ℕ) (place : ℕ) (t : Token) → Front (drop place bs) t → token_at bs place ≡ Some t
token_is bs place t f = token_there bs place f.some f.unmarked ∙ ap Some f.token

decimal_front : (ds ws : List ℕ) → grouped decimal ds ≡ true → Past (peek 0 ws) → (k : LiteralKind) (n : ℕ)
    → ((at : ℕ) → at ≡ length ds → after_digits at ws ≡ k) → length ds + after_digits_len ws ≡ n
    → Front (ds ++ ws) (literal k n)
decimal_front [] ws g p k n e f = absurd (no_group decimal g)
decimal_front (x ∷ ys) ws g p k n e f =
    record {
      token = decimal_lex x ys ws g p k n (e (1 + length ys) (omega arith)) (omega arith);
      some = omega arith;
      unmarked = digit_no_mark x (group_head decimal x ys g);
    }

-- a number in a base
based_back : (base : Base) (digit : ℕ → Bool) (zs : List ℕ) (n : ℕ) → digits digit zs ≡ n → digit_met digit zs ≡ true
    → identifier (drop n zs) ≡ 0 → (based base digit 2 zs ≡ Int base false (2 + n)) × (based_len digit zs ≡ n)
unfolding based based_len
based_back base digit zs n e m j = (simp (e, m), simp (e, j) (omega arith))

met_digit : (digit : ℕ → Bool) (x : ℕ) (xs : List ℕ) → digit x ≡ true → digit_met digit (x ∷ xs) ≡ true
unfolding digit_met
met_digit digit x xs d = simp d

met_underscore : (digit : ℕ → Bool) (x : ℕ) (xs : List ℕ) → digit x ≡ true → digit_met digit (95 ∷ x ∷ xs) ≡ true
unfolding digit_met
met_underscore digit x xs d = grind arith

module _ (base : Base) (letter : ℕ) (digit : ℕ → Bool) (next : List ℕ) (s : Stops next)
    (d : digit (peek 0 next) ≡ false)
    (that_base : (mark : ℕ) → either_case letter mark ≡ true → base ≡ base_of 48 mark)
    (that_kind : (xs : List ℕ) → in_base base 1 xs ≡ based base digit 2 (drop 1 xs))
    (that_len : (xs : List ℕ) → in_base_len base xs ≡ 1 + based_len digit (drop 1 xs)) where
  prefix_front : (mark : ℕ) (zs : List ℕ) (n : ℕ) → either_case letter mark ≡ true → digits digit zs ≡ n
      → digit_met digit zs ≡ true → drop n zs ≡ next
      → Front (48 ∷ mark ∷ zs) (literal (Int base false (suc (suc n))) (suc (suc n)))
  prefix_front mark zs n l e m r =
      let xs = mark ∷ zs in
      let whole = number_in 48 1 xs base (that_base mark l) in
      let back = based_back base digit zs n e m (ap identifier r ∙ no_junk next s.1) in
      let two : 2 + n ≡ suc (suc n) = omega arith in
      let kind : number 48 1 xs ≡ Int base false (suc (suc n)) =
      sym whole.0 ∙ that_kind xs ∙ back.0 ∙ ap (Int base false) two in
      let len : 1 + number_len 48 xs ≡ suc (suc n) = omega (arith, that_len xs) in
      record { token = digit_lex 48 xs refl ∙ simp (kind, len); some = omega arith; unmarked = refl }

  based_front : {xs : List ℕ} → Based letter digit xs
      → Front (xs ++ next) (literal (Int base false (length xs)) (length xs))
  based_front (direct mark [] l g) = absurd (no_group digit g)
  based_front (direct mark (x ∷ xs) l g) =
      let ds = x ∷ xs in
      let back = all_back digit next d (stop_past (peek 0 next) s.1 s.0).no_underscore ds g in
      let met = met_digit digit x (xs ++ next) (group_head digit x xs g) in
      prefix_front mark (ds ++ next) (length ds) l back met (drop_at ds next (length ds) refl)
  based_front (underscored mark [] l g) = absurd (no_group digit g)
  based_front (underscored mark (x ∷ xs) l g) =
      let ds = x ∷ xs in
      let h = group_head digit x xs g in
      let one = digits_more digit 95 (ds ++ next) (or_right (digit 95) (true && digit x) h) in
      let back = one ∙ ap suc (all_back digit next d (stop_past (peek 0 next) s.1 s.0).no_underscore ds g) in
      prefix_front mark (95 ∷ ds ++ next) (suc (length ds)) l back (met_underscore digit x (xs ++ next) h)
      (drop_at ds next (length ds) refl)

whole_front : (base : Base) (xs next : List ℕ) → Whole base xs → Stops next → has_point next ≡ false
    → Front (xs ++ next) (literal (Int base false (length xs)) (length xs))
whole_front Binary xs next w s p = based_front Binary 98 decimal next s s.0 binary_base (λ _. refl) (λ _. refl) w
whole_front Octal xs next w s p = based_front Octal 111 decimal next s s.0 octal_base (λ _. refl) (λ _. refl) w
whole_front Decimal xs next w s p =
    let m = no_exponent_mark (peek 0 next) s.1 in
    let none = sym (with_neither 0 next p m).1 ∙ no_junk next s.1 in
    let kind = λ (at : ℕ) (e : at ≡ length xs). sym (with_neither at next p m).0 ∙ ap (Int Decimal false) e in
    decimal_front xs next w (stop_past (peek 0 next) s.1 s.0) (Int Decimal false (length xs)) (length xs) kind
    (omega arith)
whole_front Hexadecimal xs next w s p =
    let other = no_hexadecimal (peek 0 next) s.1 s.0 in
    based_front Hexadecimal 120 hexadecimal next s other hexadecimal_base (λ _. refl) (λ _. refl) w

pub whole_read : WholeRead
whole_read bs place base xs next e w s p =
    let t = literal (Int base false (length xs)) (length xs) in
    token_is bs place t (subst (λ l. Front l t) (sym e) (whole_front base xs next w s p))

-- a point after digits
point_past : Past 46
point_past = record { no_digit = refl; no_underscore = refl; unlettered = (refl, refl, refl) }

point_lex : (zs : List ℕ) → decimal (peek 0 zs) ≡ true → lex 46 zs ≡ literal (fractional 1 zs) (1 + fractional_len zs)
unfolding lex
point_lex zs d =
    ap (λ t. record { kind = kind_of t 46 zs; len = 1 + rest_len t 46 zs }) (point_start (peek 0 zs) d (peek 1 zs))

module _ (next : List ℕ) (s : Stops next) (p : eqb (peek 0 next) 46 ≡ false) where
  -- digits, a point and a fraction that is read as so many bytes
  point_front : (ds zs : List ℕ) (m n : ℕ) → grouped decimal ds ≡ true → eqb (peek 0 zs) 46 ≡ false
      → ((at : ℕ) → fractional at zs ≡ Numeric None (at + m)) → fractional_len zs ≡ m → n ≡ length ds + suc m
      → Front (ds ++ 46 ∷ zs) (literal (Numeric None n) n)
  point_front ds zs m n g q kind len e =
      let has : has_point (46 ∷ zs) ≡ true = simp q in
      let behind = (with_point 0 (46 ∷ zs) has).1 in
      decimal_front ds (46 ∷ zs) g point_past (Numeric None n) n
      (λ at a. sym (with_point at (46 ∷ zs) has).0 ∙ kind (at + 1) ∙ ap (Numeric None) (omega arith)) (omega arith)

  exponent_leads : {es : List ℕ} → Exponent es → exponent_mark (peek 0 (es ++ next)) ≡ true
  exponent_leads (unsigned e ds m g) = m
  exponent_leads (signed e b ds m u g) = m

  fractional_front : {xs : List ℕ} → Fractional xs → Front (xs ++ next) (literal (Numeric None (length xs)) (length xs))
  fractional_front (point_last ds es g o) =
      let xs = ds ++ 46 ∷ es in
      let t = tail_back next s es o in
      let len = length-append ds (46 ∷ es) in
      subst (λ l. Front l (literal (Numeric None (length xs)) (length xs))) (sym (append_assoc ds (46 ∷ es) next))
      (point_front ds (es ++ next) (length es) (length xs) g (t.pointless p) (λ at. (bare_back next s es t at).0)
      (bare_back next s es t 0).1 (omega arith))
  fractional_front (point_within ds fs es g f o) =
      let xs = ds ++ 46 ∷ (fs ++ es) in
      let t = tail_back next s es o in
      let zs = fs ++ (es ++ next) in
      let len = length-append ds (46 ∷ (fs ++ es)) in
      let part = length-append fs es in
      let same : xs ++ next ≡ ds ++ 46 ∷ zs =
      append_assoc ds (46 ∷ (fs ++ es)) next ∙ ap (λ l. ds ++ 46 ∷ l) (append_assoc fs es next) in
      let pointless = digit_no_point (peek 0 zs) (group_leads decimal fs (es ++ next) f) in
      subst (λ l. Front l (literal (Numeric None (length xs)) (length xs))) (sym same)
      (point_front ds zs (length fs + length es) (length xs) g pointless
      (λ at. (full_back next s es t at fs f).0 ∙ ap (Numeric None) (omega arith)) (full_back next s es t 0 fs f).1
      (omega arith))
  fractional_front (point_first fs es f o) =
      let xs = 46 ∷ (fs ++ es) in
      let t = tail_back next s es o in
      let zs = fs ++ (es ++ next) in
      let part = length-append fs es in
      let back = full_back next s es t 1 fs f in
      let kind : 1 + length fs + length es ≡ length xs = omega arith in
      let len : 1 + fractional_len zs ≡ length xs = omega arith in
      let token : lex 46 zs ≡ literal (Numeric None (length xs)) (length xs) =
      point_lex zs (group_leads decimal fs (es ++ next) f) ∙ simp (back.0 ∙ ap (Numeric None) kind, len) in
      subst (λ l. Front (46 ∷ l) (literal (Numeric None (length xs)) (length xs))) (sym (append_assoc fs es next))
      record { token = token; some = omega arith; unmarked = refl }
  fractional_front (no_point ds es g x) =
      let xs = ds ++ es in
      let ws = es ++ next in
      let t = exponent_back next s x in
      let m = exponent_leads x in
      let len = length-append ds es in
      let none = mark_no_point (peek 0 ws) m in
      let bare : has_point ws ≡ false = simp none in
      let behind = (with_exponent 0 ws bare m).1 in
      let size = numeric_len_back next s es t in
      subst (λ l. Front l (literal (Numeric None (length xs)) (length xs))) (sym (append_assoc ds es next))
      (decimal_front ds ws g t.past (Numeric None (length xs)) (length xs)
      (λ at a. sym (with_exponent at ws bare m).0 ∙ numeric_back next s es t at ∙ ap (Numeric None) (omega arith))
      (omega arith))

pub fractional_read : FractionalRead
fractional_read bs place xs next e f s p =
    let t = literal (Numeric None (length xs)) (length xs) in
    token_is bs place t (subst (λ l. Front l t) (sym e) (fractional_front next s p f))
