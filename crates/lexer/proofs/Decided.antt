-- What is read of a list goes by the bytes that it covers and the two after them: how such readings are joined.
use Rattle.std.proofs.Common.{◌≡◌, ℕ, ◌+◌, ◌≤◌, Bool, true, false, cond, List, [], ◌∷◌, ◌++◌, length, take, drop, sym, refl, ap, ◌∙◌, arith}
use Rattle.lexer.specs.Cursor.{peek}
use Rattle.std.proofs.lemmas.List.{drop-append-le, length-drop, take-append-le}

-- where `f` counts bytes at the front of a list, `g` of the list goes by these and the two after them: what follows a
-- front `p` that holds them all may be changed
abbrev pub Decided : {Y : Type 0} → (List ℕ → ℕ) → (List ℕ → Y) → Type 0
Decided f g = (p s t : List ℕ) → f (p ++ s) + 2 ≤ length p → g (p ++ t) ≡ g (p ++ s)

-- a test that comes out alike, and what is chosen by it
pub alike : {Y : Type 0} (b : Bool) (n m : ℕ) {l : ℕ} {y z u v : Y} → (n + 2 ≤ l → y ≡ u) → (m + 2 ≤ l → z ≡ v)
    → cond b n m + 2 ≤ l → cond b y z ≡ cond b u v
alike true n m f g h = f h
alike false n m f g h = g h

module _ {Y : Type 0} where
  -- what goes by the first two bytes only
  pub seen : (f : List ℕ → ℕ) (g : ℕ → ℕ → Y) → Decided f (λ xs. g (peek 0 xs) (peek 1 xs))
  seen f g [] s t h = absurd (omega arith)
  seen f g (x ∷ []) s t h = absurd (omega arith)
  seen f g (x ∷ y ∷ p) s t h = refl

  -- what goes by fewer bytes
  pub wider : (f e : List ℕ → ℕ) (g : List ℕ → Y) → ((xs : List ℕ) → f xs ≤ e xs) → Decided f g → Decided e g
  wider f e g le d p s t h = let less = le (p ++ s) in d p s t (omega arith)

  pub chosen : (b : List ℕ → Bool) (f e : List ℕ → ℕ) (g h : List ℕ → Y) → Decided (λ xs. cond (b xs) (f xs) (e xs)) b
      → Decided f g → Decided e h → Decided (λ xs. cond (b xs) (f xs) (e xs)) (λ xs. cond (b xs) (g xs) (h xs))
  chosen b f e g h same first second p s t room =
      ap (λ c. cond c (g (p ++ t)) (h (p ++ t))) (same p s t room)
      ∙ alike (b (p ++ s)) (f (p ++ s)) (e (p ++ s)) (first p s t) (second p s t) room

  -- what goes by the first two bytes, and by more as these say
  pub by_front : {K : Type 0} (k : ℕ → ℕ → K) (f : K → List ℕ → ℕ) (g : K → List ℕ → Y)
      → ((j : K) → Decided (f j) (g j))
      → Decided (λ xs. f (k (peek 0 xs) (peek 1 xs)) xs) (λ xs. g (k (peek 0 xs) (peek 1 xs)) xs)
  by_front k f g d [] s t h = absurd (omega arith)
  by_front k f g d (x ∷ []) s t h = absurd (omega arith)
  by_front k f g d (x ∷ y ∷ p) s t h = d (k x y) (x ∷ y ∷ p) s t h

  -- one thing, and another that follows it and may go by what the first is
  module _ (f : List ℕ → ℕ) (e : ℕ → List ℕ → List ℕ → ℕ) (g : ℕ → List ℕ → List ℕ → Y) (front : Decided f f)
      (behind : (n : ℕ) (w : List ℕ) → Decided (e n w) (g n w)) where
    pub in_turn : Decided (λ xs. f xs + e (f xs) (take (f xs) xs) (drop (f xs) xs))
        (λ xs. g (f xs) (take (f xs) xs) (drop (f xs) xs))
    in_turn p s t h =
        let n = f (p ++ s) in
        let w = take n p in
        let room : n ≤ length p = omega arith in
        let same = front p s t (omega arith) in
        let split : (u : List ℕ) → g n (take n (p ++ u)) (drop n (p ++ u)) ≡ g n w (drop n p ++ u) =
        λ u. ap (λ l. g n l (drop n (p ++ u))) (take-append-le n p u room) ∙ ap (g n w) (drop-append-le n p u room)
        in
        let count : e n (take n (p ++ s)) (drop n (p ++ s)) ≡ e n w (drop n p ++ s) =
        ap (λ l. e n l (drop n (p ++ s))) (take-append-le n p s room) ∙ ap (e n w) (drop-append-le n p s room)
        in
        let left = length-drop n p in
        ap (λ m. g m (take m (p ++ t)) (drop m (p ++ t))) same ∙ split t ∙ behind n w (drop n p) s t (omega arith)
        ∙ sym (split s)

-- the length of both
pub both_counted : (f e : List ℕ → ℕ) → Decided f f → Decided e e
    → Decided (λ xs. f xs + e (drop (f xs) xs)) (λ xs. f xs + e (drop (f xs) xs))
both_counted f e front behind =
    in_turn f (λ _ _ xs. e xs) (λ n _ xs. n + e xs) front (λ n _ p s t h. ap (λ m. n + m) (behind p s t h))

-- one length or another
pub chosen_counted : (b : List ℕ → Bool) (f e : List ℕ → ℕ) → Decided (λ xs. cond (b xs) (f xs) (e xs)) b → Decided f f
    → Decided e e → Decided (λ xs. cond (b xs) (f xs) (e xs)) (λ xs. cond (b xs) (f xs) (e xs))
chosen_counted b f e same first second = chosen b f e f e same first second

-- the same after so many bytes
pub past : {Y : Type 0} (n : ℕ) (f : List ℕ → ℕ) (g : List ℕ → Y) → Decided f g
    → Decided (λ xs. n + f (drop n xs)) (λ xs. g (drop n xs))
past n f g d = in_turn (λ _. n) (λ _ _ xs. f xs) (λ _ _ xs. g xs) (λ _ _ _ _. refl) (λ _ _. d)

pub past_counted : (n : ℕ) (f : List ℕ → ℕ) → Decided f f → Decided (λ xs. n + f (drop n xs)) (λ xs. n + f (drop n xs))
past_counted n f d = both_counted (λ _. n) f (λ _ _ _ _. refl) d

-- what the first of two goes by, both go by
pub first_of : {Y : Type 0} (f e : List ℕ → ℕ) (g : List ℕ → Y) → Decided f g
    → Decided (λ xs. f xs + e (drop (f xs) xs)) g
first_of f e g d = wider f (λ xs. f xs + e (drop (f xs) xs)) g (λ xs. omega arith) d
