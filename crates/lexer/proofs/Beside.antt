-- The parts of a token end beside an ASCII byte, or at the end of the text.
use Rattle.std.proofs.Common.{◌≡◌, ℕ, zero, suc, ◌+◌, ◌<◌, Bool, true, ◌&&◌, ◌||◌, eqb, ◌⊎◌, List, [], ◌∷◌, length, get_or, take, drop, sym, refl, ap, ◌∙◌, subst, inl, inr, arith}
use Rattle.lexer.proofs.Dollars.{opener_within, opens_sign}
use Rattle.lexer.proofs.Stopped.{at_later, command_stopped, parameter_stopped}
use Rattle.lexer.specs.Class.{backslash, tag_cont, whitespace}
use Rattle.lexer.specs.Comment.{closes, comment, comment_extent, opens}
use Rattle.lexer.specs.Extent.{Extent}
use Rattle.lexer.specs.Cursor.{peek, run}
use Rattle.lexer.specs.Dollar.{begins, delimited, delimited_extent, dollar_delimiter, dollar_len, dollar_opener, dollar_quoted, opens_dollar}
use Rattle.lexer.specs.Psql.{psql_len}
use Rattle.lexer.specs.Quoted.{quoted_extent, quoted}
use Rattle.std.proofs.lemmas.List.{get_or-drop, get_or-take, length-take-le}
use Rattle.std.proofs.lemmas.Bool.{and_parts, cond_both, eqb-true}
use Rattle.std.proofs.lemmas.Bool.Decides.{nat_tests}
use borrow.Author.Tests.{clash}

-- a byte and a list that follows it: the byte before the place n of the list is ASCII, or the one at n, which is 0 past
-- the end
abbrev pub Beside : ℕ → List ℕ → ℕ → Type 0
Beside b xs n = (get_or (b ∷ xs) n 0 < 128) ⊎ (get_or xs n 0 < 128)

-- one byte later, and two
later : (b x : ℕ) (xs : List ℕ) (n : ℕ) → Beside x xs n → Beside b (x ∷ xs) (1 + n)
later b x xs n (inl h) = inl (at_later (b ∷ x ∷ xs) 1 n h)
later b x xs n (inr h) = inr (at_later (x ∷ xs) 1 n h)

two_later : (b x y : ℕ) (xs : List ℕ) (n : ℕ) → Beside y xs n → Beside b (x ∷ y ∷ xs) (2 + n)
two_later b x y xs n h =
    let e : 1 + (1 + n) ≡ 2 + n = omega arith in
    subst (λ (m : ℕ). Beside b (x ∷ y ∷ xs) m) e (later b x (y ∷ xs) (1 + n) (later x y xs n h))

-- after any bytes, where what stands before what follows them does not matter
pub after_any : (n b : ℕ) (xs : List ℕ) (m : ℕ) → ((a : ℕ) → Beside a (drop n xs) m) → Beside b xs (n + m)
after_any zero b xs m f = let e : m ≡ 0 + m = omega arith in subst (λ (k : ℕ). Beside b xs k) e (f b)
after_any (suc n) b [] m f = inr (omega arith)
after_any (suc n) b (x ∷ xs) m f =
    let e : 1 + (n + m) ≡ suc n + m = omega arith in
    subst (λ (k : ℕ). Beside b (x ∷ xs) k) e (later b x xs (n + m) (after_any n x xs m f))

pub quoted_beside : (quote : ℕ) (escapes : Bool) → quote < 128 → (b : ℕ) (xs : List ℕ) → Beside b xs (quoted quote escapes xs)
unfolding quoted_extent
quoted_beside q e low b [] = inr (omega arith)
quoted_beside q e low b (x ∷ []) = inr (omega arith)
quoted_beside q e low b (x ∷ y ∷ xs) =
    let bs = x ∷ y ∷ xs in
    let two : Beside b bs (2 + quoted q e xs) = two_later b x y xs (quoted q e xs) (quoted_beside q e low y xs) in
    let one : Beside b bs (1 + quoted q e (y ∷ xs)) = later b x (y ∷ xs) (quoted q e (y ∷ xs)) (quoted_beside q e low x (y ∷ xs)) in
    cond_both {A = Extent} (eqb x q && eqb y q) _ _ (λ r. Beside b bs r.len) (λ _. two)
    (λ _. cond_both {A = Extent} (eqb x q) _ _ (λ r. Beside b bs r.len) (λ is. inl (omega (arith, eqb-true x q is)))
    (λ _. cond_both {A = Extent} (e && backslash x) _ _ (λ r. Beside b bs r.len) (λ _. two) (λ _. one)))

-- a comment that is closed ends with `/`
pub comment_beside : (d b : ℕ) → (d ≡ 0 → b < 128) → (xs : List ℕ) → Beside b xs (comment d xs)
unfolding comment_extent
comment_beside zero b low xs = inl (low refl)
comment_beside (suc d) b low [] = inr (omega arith)
comment_beside (suc d) b low (x ∷ []) = inr (omega arith)
comment_beside (suc d) b low (x ∷ y ∷ xs) =
    let bs = x ∷ y ∷ xs in
    cond_both {A = Extent} (opens x y) _ _ (λ e. Beside b bs e.len)
    (λ _. two_later b x y xs (comment (suc (suc d)) xs) (comment_beside (suc (suc d)) y (λ z. absurd (omega (arith, z))) xs))
    (λ _. cond_both {A = Extent} (closes x y) _ _ (λ e. Beside b bs e.len)
    (λ shut. two_later b x y xs (comment d xs) (comment_beside d y (λ _. omega (arith, eqb-true y 47 (and_parts (eqb x 42) (eqb y 47) shut).1)) xs))
    (λ _. later b x (y ∷ xs) (comment (suc d) (y ∷ xs)) (comment_beside (suc d) x (λ z. absurd (omega (arith, z))) (y ∷ xs))))

begins_byte : (ds xs : List ℕ) → begins ds xs ≡ true → (k : ℕ) → k < length ds → get_or xs k 0 ≡ get_or ds k 0
unfolding begins
begins_byte [] xs e k h = absurd (omega arith)
begins_byte (d ∷ ds) [] e k h = absurd (clash e)
begins_byte (d ∷ ds) (x ∷ xs) e zero h = sym (eqb-true d x (and_parts (eqb d x) (begins ds xs) e).0)
begins_byte (d ∷ ds) (x ∷ xs) e (suc k) h = begins_byte ds xs (and_parts (eqb d x) (begins ds xs) e).1 k (omega arith)

-- a delimiter whose last byte is ASCII
delimited_beside : (d : ℕ) (ds : List ℕ) → get_or (d ∷ ds) (length ds) 0 < 128 → (b : ℕ) (xs : List ℕ) → Beside b xs (delimited (d ∷ ds) xs)
unfolding delimited_extent
delimited_beside d ds low b [] = inr (omega arith)
delimited_beside d ds low b (x ∷ xs) =
    cond_both {A = Extent} (begins (d ∷ ds) (x ∷ xs)) _ _ (λ e. Beside b (x ∷ xs) e.len)
    (λ whole. inl (let last = begins_byte (d ∷ ds) (x ∷ xs) whole (length ds) (omega arith) in omega arith))
    (λ _. later b x xs (delimited (d ∷ ds) xs) (delimited_beside d ds low x xs))

-- the last byte of a dollar quote's delimiter is `$`
delimiter_sign : (xs : List ℕ) → opens_dollar xs ≡ true → get_or (dollar_delimiter xs) (length (take (dollar_opener xs) xs)) 0 ≡ 36
delimiter_sign xs e =
    let n = run tag_cont xs in
    let w = take (n + 1) xs in
    let size = length-take-le (n + 1) xs (opener_within xs e) in
    let last : length w ≡ 1 + n = omega arith in
    ap (λ k. get_or (36 ∷ w) k 0) last ∙ sym (get_or-drop 1 (36 ∷ w) n 0) ∙ get_or-take (n + 1) xs n 0 (omega arith) ∙ opens_sign xs e

string_beside : (b : ℕ) (xs : List ℕ) → opens_dollar xs ≡ true → Beside b xs (dollar_quoted xs)
string_beside b xs e =
    let n = dollar_opener xs in
    let sign = delimiter_sign xs e in
    after_any n b xs (delimited (dollar_delimiter xs) (drop n xs)) (λ a. delimited_beside 36 (take n xs) (omega arith) a (drop n xs))

pub dollar_beside : (b : ℕ) (xs : List ℕ) → Beside b xs (dollar_len xs)
dollar_beside b xs = cond_both (opens_dollar xs) _ _ (Beside b xs) (string_beside b xs) (λ _. inr (parameter_stopped xs))

alone_ascii : (b : ℕ) → (eqb b 92 || (eqb b 59 || eqb b 58)) ≡ true → b < 128
alone_ascii b h = grind (arith, nat_tests)

-- the first byte of a list, if an ASCII byte is asked for
pub one_beside : (b : ℕ) (xs : List ℕ) → peek 0 xs < 128 → Beside b xs 1
one_beside b xs low = inl low

pub psql_beside : (b : ℕ) (xs : List ℕ) → Beside b xs (psql_len xs)
psql_beside b xs =
    cond_both (eqb (peek 0 xs) 92 || (eqb (peek 0 xs) 59 || eqb (peek 0 xs) 58)) _ _ (Beside b xs) (λ h. one_beside b xs (alone_ascii (peek 0 xs) h)) (λ _. inr (command_stopped xs))

pub blank_ascii : (b : ℕ) → whitespace b ≡ true → b < 128
blank_ascii b h = grind (arith, nat_tests)

pub blanks_beside : (b : ℕ) → b < 128 → (xs : List ℕ) → Beside b xs (run whitespace xs)
unfolding run
blanks_beside b low [] = inl low
blanks_beside b low (x ∷ xs) =
    cond_both (whitespace x) _ _ (Beside b (x ∷ xs)) (λ blank. later b x xs (run whitespace xs) (blanks_beside x (blank_ascii x blank) xs)) (λ _. inl low)
