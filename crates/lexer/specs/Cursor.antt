-- What the cursor finds in the bytes that follow its place.
use Rattle.std.specs.Prelude.{◌≡◌, ℕ, ◌+◌, ◌-◌, ◌<◌, Bool, true, false, if◌then◌else◌, ◌&&◌, ◌||◌, List, [], ◌∷◌, drop, ◌==◌, slice_index}
use Rattle.lexer.specs.Byte.{byte}
use Rattle.lexer.specs.Class.{ident_cont, ident_start}

-- the byte n places on, or 0 past the end
abbrev pub peek : ℕ → List ℕ → ℕ
peek n xs = slice_index xs n

-- whether nothing follows
abbrev pub at_end : List ℕ → Bool
at_end [] = true
at_end (x ∷ xs) = false

-- how many bytes the next byte is: one, or none past the end
abbrev pub next_len : List ℕ → ℕ
next_len [] = 0
next_len (x ∷ xs) = 1

-- how many bytes at the front belong to a class: the longest such run
unfoldable pub run : (ℕ → Bool) → List ℕ → ℕ
run class [] = 0
run class (x ∷ xs) = if class x then 1 + run class xs else 0

-- whether a byte of the class stands at the front
abbrev pub leads : (ℕ → Bool) → List ℕ → Bool
leads class [] = false
leads class (x ∷ xs) = class x

-- an identifier at the front: a starting byte and those that go on with it, or nothing
abbrev pub identifier : List ℕ → ℕ
identifier xs = if leads ident_start xs then run ident_cont xs else 0

-- the digits at the front, with each underscore that a digit follows
unfoldable pub digits : (ℕ → Bool) → List ℕ → ℕ
digits digit [] = 0
digits digit (x ∷ xs) =
    if digit x || (x == byte "_" && leads digit xs) then 1 + digits digit xs
    else 0

-- whether there is a digit among them
unfoldable pub digit_met : (ℕ → Bool) → List ℕ → Bool
digit_met digit [] = false
digit_met digit (x ∷ xs) =
    if digit x then true
    else if x == byte "_" && leads digit xs then digit_met digit xs
    else false

-- a cursor, as callers see it: the bytes of its text, its place, and how many bytes of the token it has eaten
pub record Spot : Type 0 where
  pub text : List ℕ
  pub place : ℕ
  pub eaten : ℕ

-- a cursor at a place where a token begins
abbrev pub opened : List ℕ → ℕ → Spot
opened bytes place = record { text = bytes; place = place; eaten = 0 }

-- the bytes from its place on
abbrev pub rest : Spot → List ℕ
rest c = drop c.place c.text

-- it has eaten the first byte of a token, and that is the given one
pub record Begun (first : ℕ) (c : Spot) : Type 0 where
  pub one : c.eaten ≡ 1
  pub some : 0 < c.place
  pub byte : slice_index c.text (c.place - 1) ≡ first

-- it moved on by n bytes, in the same token of the same text
pub record Moved (c d : Spot) (n : ℕ) : Type 0 where
  pub text : d.text ≡ c.text
  pub place : d.place ≡ c.place + n
  pub eaten : d.eaten ≡ c.eaten + n

-- it moved over what `f` tells of the bytes that follow
abbrev pub Eats : (List ℕ → ℕ) → Spot → Spot → Type 0
Eats f c d = Moved c d (f (rest c))
