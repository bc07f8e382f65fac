-- The table's sequences are the encodings of the scalar values, no more and no fewer.
use Rattle.std.proofs.Common.{◌≡◌, ℕ, suc, ◌+◌, ◌/◌, ◌<◌, ◌≤◌, Bool, true, false, cond, ◌&&◌, ◌⊎◌, List, [], ◌∷◌, ◌++◌, length, take, IsUtf8, refl, subst, inl, inr, arith, rules}
use lib.Utf8.{encode, scalar, next, scalar_cases}
use Rattle.std.proofs.lemmas.Bool.{false≢true}
use Rattle.std.proofs.lemmas.Bool.Decides.{nat_tests}
use Rattle.std.proofs.str.Laws.{Scalar, Follows, both, order, one, two, three, four}
use Rattle.std.proofs.str.Valid.{of_one, of_two, of_three, of_four}
use Rattle.text.specs.Utf8.{Row, Range, tail, table, holds, matches, matched, sequence}

-- a second byte of a sequence of three bytes, and of one of four
pub record Second3 (x y : ℕ) : Type 0 where
  pub low : 224 ≤ x
  pub high : x < 240
  pub follows : Follows y
  pub after_e0 : x ≡ 224 → 160 ≤ y
  pub after_ed : x ≡ 237 → y < 160

pub record Second4 (x y : ℕ) : Type 0 where
  pub low : 240 ≤ x
  pub high : x < 245
  pub follows : Follows y
  pub after_f0 : x ≡ 240 → 144 ≤ y
  pub after_f4 : x ≡ 244 → y < 144

-- bytes in those ranges match a row
sequence-1 : (x : ℕ) (bs : List ℕ) → x < 128 → sequence (x ∷ bs) ≡ 1
unfolding sequence
sequence-1 x bs h = grind (arith, nat_tests)

sequence-2 : (x y : ℕ) (bs : List ℕ) → 194 ≤ x → x < 224 → Follows y → sequence (x ∷ y ∷ bs) ≡ 2
unfolding sequence
sequence-2 x y bs l h f = grind (arith, nat_tests)

sequence-3 : (x y z : ℕ) (bs : List ℕ) → Second3 x y → Follows z → sequence (x ∷ y ∷ z ∷ bs) ≡ 3
unfolding sequence
sequence-3 x y z bs s f = grind (arith, nat_tests)

sequence-4 : (x y z w : ℕ) (bs : List ℕ) → Second4 x y → Follows z → Follows w → sequence (x ∷ y ∷ z ∷ w ∷ bs) ≡ 4
unfolding sequence
sequence-4 x y z w bs s f g = grind (arith, nat_tests)

sequence_scalar : (c : ℕ) (bs : List ℕ) → Scalar c → (c < 128) ⊎ (128 ≤ c) → (c < 2048) ⊎ (2048 ≤ c) → (c < 65536) ⊎ (65536 ≤ c) → sequence (encode c ++ bs) ≡ length (encode c)
sequence_scalar c bs s (inl h) _ _ = rw (one c h) (sequence-1 c bs h)
sequence_scalar c bs s (inr l) (inl h) _ = rw (two c l h) (sequence-2 (192 + c / 64) (next c) bs (omega arith) (omega arith) (omega arith, omega arith))
sequence_scalar c bs s (inr _) (inr l) (inl h) =
    rw (three c l h)
    (sequence-3 (224 + c / 4096) (next (c / 64)) (next c) bs
    (record {
      low = omega arith;
      high = omega arith;
      follows = (omega arith, omega arith);
      after_e0 = λ e. omega arith;
      after_ed = λ e. omega arith;
    })
    (omega arith, omega arith))
sequence_scalar c bs s (inr _) (inr _) (inr l) =
    rw (four c l)
    (sequence-4 (240 + c / 262144) (next (c / 4096)) (next (c / 64)) (next c) bs
    (record {
      low = omega arith;
      high = omega arith;
      follows = (omega arith, omega arith);
      after_f0 = λ e. omega arith;
      after_f4 = λ e. omega arith;
    })
    (omega arith, omega arith) (omega arith, omega arith))

-- an encoded scalar value is a sequence
pub sequence-encode : (c : ℕ) (bs : List ℕ) → scalar c ≡ true → sequence (encode c ++ bs) ≡ length (encode c)
sequence-encode c bs s = sequence_scalar c bs (scalar_cases c s) (order c 128) (order c 2048) (order c 65536)

-- bytes in those ranges are encoded
utf8_3 : (x y z : ℕ) (bs : List ℕ) → Second3 x y → Follows z → (x < 237) ⊎ (237 ≤ x) → (x < 238) ⊎ (238 ≤ x) → (x < 225) ⊎ (225 ≤ x) → IsUtf8 (take 3 (x ∷ y ∷ z ∷ bs))
utf8_3 x y z bs s f (inl h) _ (inl k) =
    let g = s.after_e0 (omega arith) in
    of_three (x ∷ y ∷ z ∷ bs) 0 (omega arith) (s.low, s.high) s.follows f (omega arith) (inl (omega arith))
utf8_3 x y z bs s f (inl h) _ (inr k) = of_three (x ∷ y ∷ z ∷ bs) 0 (omega arith) (s.low, s.high) s.follows f (omega arith) (inl (omega arith))
utf8_3 x y z bs s f (inr h) (inl k) _ =
    let g = s.after_ed (omega arith) in
    of_three (x ∷ y ∷ z ∷ bs) 0 (omega arith) (s.low, s.high) s.follows f (omega arith) (inl (omega arith))
utf8_3 x y z bs s f (inr h) (inr k) _ = of_three (x ∷ y ∷ z ∷ bs) 0 (omega arith) (s.low, s.high) s.follows f (omega arith) (inr (omega arith))

utf8_4 : (x y z w : ℕ) (bs : List ℕ) → Second4 x y → Follows z → Follows w → (x < 241) ⊎ (241 ≤ x) → (x < 244) ⊎ (244 ≤ x) → IsUtf8 (take 4 (x ∷ y ∷ z ∷ w ∷ bs))
utf8_4 x y z w bs s f g (inl h) _ =
    let k = s.after_f0 (omega arith) in
    of_four (x ∷ y ∷ z ∷ w ∷ bs) 0 (omega arith) s.low s.follows f g (omega arith, omega arith)
utf8_4 x y z w bs s f g (inr h) (inl l) = of_four (x ∷ y ∷ z ∷ w ∷ bs) 0 (omega arith) s.low s.follows f g (omega arith, omega arith)
utf8_4 x y z w bs s f g (inr h) (inr l) =
    let k = s.after_f4 (omega arith) in
    of_four (x ∷ y ∷ z ∷ w ∷ bs) 0 (omega arith) s.low s.follows f g (omega arith, omega arith)

-- a row that is matched is an encoding
pub never : {X : Type 0} → false ≡ true → X
never e = absurd (false≢true e)

utf8_row_1 : (bs : List ℕ) → matches ((0x00, 0x7F) ∷ []) bs ≡ true → IsUtf8 (take 1 bs)
utf8_row_1 [] e = never e
utf8_row_1 (x ∷ bs) e = of_one (x ∷ bs) 0 (omega arith) (grind (arith, nat_tests))

utf8_row_2 : (bs : List ℕ) → matches ((0xC2, 0xDF) ∷ tail ∷ []) bs ≡ true → IsUtf8 (take 2 bs)
utf8_row_2 [] e = never e
utf8_row_2 (x ∷ []) e = never (both (holds (0xC2, 0xDF) x) false e).1
utf8_row_2 (x ∷ y ∷ bs) e = of_two (x ∷ y ∷ bs) 0 (omega arith) (grind (arith, nat_tests), grind (arith, nat_tests)) (grind (arith, nat_tests), grind (arith, nat_tests))

module _ (r s : Range) (second : (x y : ℕ) → holds r x ≡ true → holds s y ≡ true → Second3 x y) where
  utf8_row_3 : (bs : List ℕ) → matches (r ∷ s ∷ tail ∷ []) bs ≡ true → IsUtf8 (take 3 bs)
  utf8_row_3 [] e = never e
  utf8_row_3 (x ∷ []) e = never (both (holds r x) false e).1
  utf8_row_3 (x ∷ y ∷ []) e = never (both (holds s y) false (both (holds r x) (holds s y && false) e).1).1
  utf8_row_3 (x ∷ y ∷ z ∷ bs) e =
      let p = both (holds r x) (holds s y && (holds tail z && true)) e in
      let q = both (holds s y) (holds tail z && true) p.1 in
      let f : Follows z = (grind (arith, nat_tests), grind (arith, nat_tests)) in
      utf8_3 x y z bs (second x y p.0 q.0) f (order x 237) (order x 238) (order x 225)

module _ (r s : Range) (second : (x y : ℕ) → holds r x ≡ true → holds s y ≡ true → Second4 x y) where
  utf8_row_4 : (bs : List ℕ) → matches (r ∷ s ∷ tail ∷ tail ∷ []) bs ≡ true → IsUtf8 (take 4 bs)
  utf8_row_4 [] e = never e
  utf8_row_4 (x ∷ []) e = never (both (holds r x) false e).1
  utf8_row_4 (x ∷ y ∷ []) e = never (both (holds s y) false (both (holds r x) (holds s y && false) e).1).1
  utf8_row_4 (x ∷ y ∷ z ∷ []) e =
      let p = both (holds r x) (holds s y && (holds tail z && false)) e in
      let q = both (holds s y) (holds tail z && false) p.1 in
      never (both (holds tail z) false q.1).1
  utf8_row_4 (x ∷ y ∷ z ∷ w ∷ bs) e =
      let p = both (holds r x) (holds s y && (holds tail z && (holds tail w && true))) e in
      let q = both (holds s y) (holds tail z && (holds tail w && true)) p.1 in
      let f : Follows z = (grind (arith, nat_tests), grind (arith, nat_tests)) in
      let g : Follows w = (grind (arith, nat_tests), grind (arith, nat_tests)) in
      utf8_4 x y z w bs (second x y p.0 q.0) f g (order x 241) (order x 244)

-- what each row gives, the row that is matched gives
abbrev Each : (Row → Type 0) → List Row → Type 0
Each P [] = Unit {0}
Each P (row ∷ rows) = P row × Each P rows

matched_gives : (P : ℕ → Type 0) (bs : List ℕ) (rows : List Row) → Each (λ row. matches row bs ≡ true → P (length row)) rows → (n : ℕ) → matched rows bs ≡ suc n → P (suc n)
matched_gives P bs [] each n e = absurd (omega arith)
matched_gives P bs (row ∷ rows) each n e = by (matches row bs) refl e (matched_gives P bs rows each.1 n)
  where
    by : (t : Bool) → matches row bs ≡ t → cond t (length row) (matched rows bs) ≡ suc n → (matched rows bs ≡ suc n → P (suc n)) → P (suc n)
    by true m l later = subst P l (each.0 m)
    by false m l later = later l

matches_within : (row : Row) (bs : List ℕ) → matches row bs ≡ true → length row ≤ length bs
matches_within [] bs e = omega arith
matches_within (r ∷ row) [] e = never e
matches_within (r ∷ row) (b ∷ bs) e = let h = matches_within row bs (both (holds r b) (matches row bs) e).1 in omega arith

all_rows : (P : Row → Type 0) → ((row : Row) → P row) → (rows : List Row) → Each P rows
all_rows P f [] = tt
all_rows P f (row ∷ rows) = (f row, all_rows P f rows)

pub sequence_within : (bs : List ℕ) (n : ℕ) → sequence bs ≡ suc n → suc n ≤ length bs
unfolding sequence
sequence_within bs n e =
    matched_gives (λ k. k ≤ length bs) bs table
    (all_rows (λ row. matches row bs ≡ true → length row ≤ length bs) (λ row. matches_within row bs) table)
    n e

-- a sequence is an encoding
pub utf8_sequence : (bs : List ℕ) (n : ℕ) → sequence bs ≡ suc n → IsUtf8 (take (suc n) bs)
unfolding sequence
utf8_sequence bs n e =
    matched_gives (λ k. IsUtf8 (take k bs)) bs table (
      utf8_row_1 bs,
      (
        utf8_row_2 bs,
        (
          utf8_row_3 (0xE0, 0xE0) (0xA0, 0xBF) (λ x y h k. search (rules, nat_tests)) bs,
          (
            utf8_row_3 (0xE1, 0xEC) tail (λ x y h k. search (rules, nat_tests)) bs,
            (
              utf8_row_3 (0xED, 0xED) (0x80, 0x9F) (λ x y h k. search (rules, nat_tests)) bs,
              (
                utf8_row_3 (0xEE, 0xEF) tail (λ x y h k. search (rules, nat_tests)) bs,
                (
                  utf8_row_4 (0xF0, 0xF0) (0x90, 0xBF) (λ x y h k. search (rules, nat_tests)) bs,
                  (
                    utf8_row_4 (0xF1, 0xF3) tail (λ x y h k. search (rules, nat_tests)) bs,
                    (
                      utf8_row_4 (0xF4, 0xF4) (0x80, 0x8F) (λ x y h k. search (rules, nat_tests)) bs,
                      tt,
                    ),
                  ),
                ),
              ),
            ),
          ),
        ),
      ),
    )
    n e
