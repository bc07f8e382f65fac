-- Decoding two digits at a time.
use Rattle.std.proofs.Common.{◌≡◌, ℕ, suc, ◌-◌, ◌<◌, ◌≤◌, List, [], ◌∷◌, ◌++◌, length, get_or, take, drop, Some, None, Option, refl, sym, ap, append_assoc, arith}
use Rattle.records.specs.Hex.{before, decoded, digit_value, pair_value}
use Rattle.std.proofs.lemmas.List.{take_all}
use Rattle.std.specs.Option.{option_map}

-- bytes that stand before others, if there are others
abbrev pub bytes_before : List ℕ → Option (List ℕ) → Option (List ℕ)
bytes_before bytes rest = option_map (λ more. bytes ++ more) rest

-- the rest behind two digits, as a slice pattern gives it
abbrev pub behind : List ℕ → List ℕ
behind xs = take (length xs - 2) (drop 2 xs)

pub decoded_pair : (xs : List ℕ) → 2 ≤ length xs → decoded xs ≡ before (pair_value (digit_value (get_or xs 0 0)) (digit_value (get_or xs 1 0))) (decoded (behind xs))
unfolding decoded
decoded_pair [] h = absurd (omega arith)
decoded_pair (x ∷ []) h = absurd (omega arith)
decoded_pair (x ∷ y ∷ xs) h = ap (λ l. before (pair_value (digit_value x) (digit_value y)) (decoded l)) (sym (take_all (suc (suc (length xs)) - 2) xs (omega arith)))

pub decoded_none : (xs : List ℕ) → length xs ≡ 0 → decoded xs ≡ Some []
unfolding decoded
decoded_none [] h = refl
decoded_none (x ∷ xs) h = absurd (omega arith)

pub decoded_one : (xs : List ℕ) → length xs < 2 → 0 < length xs → decoded xs ≡ None
unfolding decoded
decoded_one [] h some = absurd (omega arith)
decoded_one (x ∷ []) h some = refl
decoded_one (x ∷ y ∷ xs) h some = absurd (omega arith)

-- one byte moves from the rest to the front
pub bytes_before_push : (bytes : List ℕ) (b : ℕ) (rest : Option (List ℕ)) → bytes_before (bytes ++ b ∷ []) rest ≡ bytes_before bytes (before (Some b) rest)
bytes_before_push bytes b None = refl
bytes_before_push bytes b (Some more) = ap Some (append_assoc bytes (b ∷ []) more)
