-- The well-formed front of a list is its longest front that is UTF-8.
use Rattle.std.proofs.Common.{◌≡◌, ℕ, zero, suc, ◌+◌, ◌<◌, ◌≤◌, true, List, [], ◌∷◌, ◌++◌, length, take, drop, IsUtf8, Result, sym, refl, ap, ◌∙◌, subst, zero-add, arith, length-append, length-drop}
use lib.Utf8.{encode, encodes, scalars, scalar}
use Rattle.std.specs.Str.{StartsWithNoChar, IsValidUpTo}
use Rattle.std.proofs.lemmas.List.{drop-drop, drop_at}
use Rattle.std.proofs.lemmas.Str.{IsUtf8-nil, length-encode, len_utf8_bounds}
use Rattle.std.proofs.str.Faults.{valid_to}
use Rattle.std.proofs.str.Laws.{both}
use Rattle.std.proofs.str.Valid.{longer, whole}
use Rattle.std.proofs.lemmas.Bool.Decides.{nat_tests as tests}
use Rattle.text.specs.Clip.{longest}
use Rattle.text.specs.Fit.{checked, TableIsUtf8, Tells}
use Rattle.text.specs.declared.fault.TextFault.{TextFault}
use Rattle.text.specs.Utf8.{sequence, sound, sound_after, WellFormed}
use Rattle.text.proofs.Encoded.{sequence-encode, sequence_within, utf8_sequence}
use Rattle.text.proofs.Found.{sound_none, sound_one}

pub sound_pass : (n : ℕ) (bs : List ℕ) → n ≤ length bs → sound_after n bs ≡ n + sound (drop n bs)
unfolding sound_after
sound_pass zero bs h = sym (zero-add (sound bs))
sound_pass (suc n) [] h = absurd (omega arith)
sound_pass (suc n) (b ∷ bs) h = let e = sound_pass n bs (omega arith) in omega arith

-- a sequence, and the rest
pub sound-sequence : (bs : List ℕ) (n : ℕ) → sequence bs ≡ suc n → sound bs ≡ suc n + sound (drop (suc n) bs)
sound-sequence [] n e = let h = sequence_within [] n e in absurd (omega arith)
sound-sequence (b ∷ bs) n e =
    let h = sequence_within (b ∷ bs) n e in
    let p = sound_pass n bs (omega arith) in
    let q = sound_one b n bs e in
    omega arith

pub record Front (bs : List ℕ) : Type 0 where
  pub within : sound bs ≤ length bs
  pub text : IsUtf8 (take (sound bs) bs)
  pub stop : sound bs < length bs → sequence (drop (sound bs) bs) ≡ 0

front_below : (m : ℕ) (bs : List ℕ) → length bs ≤ m → Front bs
unfolding sound_after
front_below m [] h = record { within = omega arith; text = IsUtf8-nil; stop = λ l. absurd (omega arith) }
front_below zero (b ∷ bs) h = absurd (omega arith)
front_below (suc m) (b ∷ bs) h = by (sequence (b ∷ bs)) refl (λ n. front_below m (drop n bs))
  where
    by : (k : ℕ) → sequence (b ∷ bs) ≡ k → ((n : ℕ) → length (drop n bs) ≤ m → Front (drop n bs)) → Front (b ∷ bs)
    by zero e rest =
        let z = sound_none b bs e in
        record {
          within = omega arith;
          text = subst (λ k. IsUtf8 (take k (b ∷ bs))) (sym z) IsUtf8-nil;
          stop = λ l. subst (λ k. sequence (drop k (b ∷ bs)) ≡ 0) (sym z) e;
        }
    by (suc n) e rest =
        let f = rest n (omega (arith, length-drop n bs)) in
        let s = sound-sequence (b ∷ bs) n e in
        let w = sequence_within (b ∷ bs) n e in
        record {
          within = omega (arith, length-drop n bs, f.within);
          text = subst (λ k. IsUtf8 (take k (b ∷ bs))) (sym s) (longer (b ∷ bs) (suc n) (sound (drop n bs)) (utf8_sequence (b ∷ bs) n e) f.text);
          stop = λ l. ap sequence (ap (λ k. drop k (b ∷ bs)) s ∙ sym (drop-drop (sound (drop n bs)) (suc n) (b ∷ bs))) ∙ f.stop (omega (arith, length-drop n bs));
        }

pub front : (bs : List ℕ) → Front bs
front bs = front_below (length bs) bs (omega arith)

-- the table and the encodings agree
pub utf8_from_well : (bs : List ℕ) → WellFormed bs → IsUtf8 bs
utf8_from_well bs e = whole bs (sound bs) (omega arith) (front bs).text

sound_char : (c k : ℕ) (bs : List ℕ) → scalar c ≡ true → length (encode c) ≡ k → sound bs ≡ length bs → sound (encode c ++ bs) ≡ length (encode c ++ bs)
sound_char c zero bs s l e = absurd (omega (arith, length-encode c, len_utf8_bounds c))
sound_char c (suc n) bs s l e =
    let q = sound-sequence (encode c ++ bs) n (sequence-encode c bs s ∙ l) in
    let d = ap sound (drop_at (encode c) bs (suc n) l) in
    omega (arith, length-append (encode c) bs)

sound-encodes : (cs : List ℕ) → scalars cs ≡ true → sound (encodes cs) ≡ length (encodes cs)
unfolding sound_after
sound-encodes [] s = refl
sound-encodes (c ∷ cs) s =
    let p = both (scalar c) (scalars cs) s in
    sound_char c (length (encode c)) (encodes cs) p.0 refl (sound-encodes cs p.1)

pub well_from_utf8 : (bs : List ℕ) → IsUtf8 bs → WellFormed bs
well_from_utf8 bs u = subst WellFormed u.1.1 (sound-encodes u.0 u.1.0)

pub valid_to_fault : (bs : List ℕ) → sound bs < length bs → IsValidUpTo bs (sound bs)
valid_to_fault bs h =
    let f = front bs in
    let none : StartsWithNoChar (drop (sound bs) bs) = λ c rest s e.
    let z = f.stop h in
    let k = sym (ap sequence e) ∙ z in
    let q = sequence-encode c rest s in
    absurd (omega (arith, length-encode c, len_utf8_bounds c)) in
    valid_to bs (sound bs) h f.text none

pub table_is_utf8 : TableIsUtf8
table_is_utf8 bs = (utf8_from_well bs, well_from_utf8 bs)

-- an answer that is as defined tells of the characters
pub tells : (bs : List ℕ) (r : Result (Unit {0}) TextFault) → r ≡ checked bs → Tells bs r
tells bs r e = record {
  passes = λ h u. let w = well_from_utf8 bs u in grind (arith, tests);
  passed = λ o.
      let l : length bs ≤ longest = grind (arith, tests) in
      let w : WellFormed bs = grind (arith, tests) in
      (l, utf8_from_well bs w);
  faulty = λ p f.
      let l : length bs ≤ longest = grind (arith, tests) in
      let q : sound bs ≡ p = grind (arith, tests) in
      let within = (front bs).within in
      let h : sound bs < length bs = grind (arith, tests) in
      (l, subst (IsValidUpTo bs) q (valid_to_fault bs h));
}

pub ruleset told = (tells, table_is_utf8)
