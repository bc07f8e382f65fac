-- How moves of the cursor join.
use Rattle.std.proofs.Common.{◌≡◌, ℕ, suc, ◌+◌, Bool, true, false, List, [], ◌∷◌, drop, sym, refl, ap, ◌∙◌, subst, arith}
use Rattle.lexer.specs.Cursor.{Moved, Spot, next_len, peek, rest}
use Rattle.std.proofs.lemmas.Bool.{false≢true}
use Rattle.std.proofs.lemmas.List.{drop-drop}

-- where a byte other than 0 is next, it is one byte
pub next_one : (xs : List ℕ) (b : ℕ) → peek 0 xs ≡ suc b → next_len xs ≡ 1
next_one [] b e = absurd (omega arith)
next_one (x ∷ xs) b e = refl

-- the same where it is in a class that does not hold 0
pub next_in_lem : (class : ℕ → Bool) (xs : List ℕ) → class 0 ≡ false → class (peek 0 xs) ≡ true → next_len xs ≡ 1
next_in_lem class [] lacks e = absurd (false≢true (sym lacks ∙ e))
next_in_lem class (x ∷ xs) lacks e = refl

-- a cursor that stays
pub stayed : (c : Spot) → Moved c c 0
stayed c = record { text = refl; place = omega arith; eaten = omega arith }

-- the same move, its end said otherwise
pub moved_into : {c d e : Spot} {n : ℕ} → e ≡ d → Moved c d n → Moved c e n
moved_into {c = c} {n = n} q p = subst (λ (x : Spot). Moved c x n) (sym q) p

-- the same move, its length said otherwise
pub moved_by : {c d : Spot} {m n : ℕ} → m ≡ n → Moved c d m → Moved c d n
moved_by {c = c} {d = d} e p = subst (λ (k : ℕ). Moved c d k) e p

pub moved_trans : {c d e : Spot} {m n : ℕ} → Moved c d m → Moved d e n → Moved c e (m + n)
moved_trans p q =
    let place = p.place in
    let eaten = p.eaten in
    let then = q.place in
    let more = q.eaten in
    record { text = q.text ∙ p.text; place = omega arith; eaten = omega arith }

-- what follows after a move
pub moved_rest : {c d : Spot} {n : ℕ} → Moved c d n → rest d ≡ drop n (rest c)
moved_rest {c = c} {d = d} {n = n} p = ap (drop d.place) p.text ∙ ap (λ k. drop k c.text) p.place ∙ sym (drop-drop n c.place c.text)

-- a move by what follows after another
pub moved_then : (f : List ℕ → ℕ) {c d e : Spot} {n : ℕ} → Moved c d n → Moved d e (f (rest d)) → Moved c e (n + f (drop n (rest c)))
moved_then f {n = n} p q = moved_by (ap (λ l. n + f l) (moved_rest p)) (moved_trans p q)

-- how many bytes of the token are eaten after a further move
pub eaten_then : (f : List ℕ → ℕ) {c d : Spot} {ys : List ℕ} {p q : ℕ}
    → Moved c d (f (rest c)) → rest c ≡ ys → p ≡ c.eaten → q ≡ d.eaten → q ≡ p + f ys
eaten_then f {c = c} {ys = ys} {p = p} m e a b = b ∙ m.eaten ∙ ap (λ l. c.eaten + f l) e ∙ ap (λ k. k + f ys) (sym a)

-- what is said of the cursor after a move, said of it before
pub said_then : {K : Type 0} (k : ℕ → List ℕ → K) {c d : Spot} {n : ℕ} {r : K}
    → Moved c d n → r ≡ k d.eaten (rest d) → r ≡ k (c.eaten + n) (drop n (rest c))
said_then k {c = c} {d = d} {n = n} m e = e ∙ ap (λ p. k p (rest d)) m.eaten ∙ ap (k (c.eaten + n)) (moved_rest m)
