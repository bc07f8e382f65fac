-- What PostgreSQL's chapter "Lexical Structure" says of tokens: comments, identifiers, whitespace,
-- parameters and numbers.
use Rattle.std.specs.Prelude.{codes, ◌≡◌, ℕ, ◌+◌, ◌<◌, ◌≤◌, Bool, true, false, if◌then◌else◌, ◌&&◌, ◌||◌, ◌⊎◌, List, [], ◌∷◌, ◌++◌, length, take, drop, Some, None, Option, ◌==◌}
use Rattle.lexer.specs.Byte.{byte}
use Rattle.lexer.specs.Class.{all_but, decimal, hexadecimal, ident_cont, ident_start, whitespace}
use Rattle.lexer.specs.Comment.{closes, opens}
use Rattle.lexer.specs.Cursor.{leads, peek}
use Rattle.lexer.specs.Lex.{token_at}
use Rattle.lexer.specs.Number.{either_case, exponent_mark, has_point, sign}
use Rattle.lexer.specs.declared.token.Base.TheVariants.{Binary, Octal, Decimal, Hexadecimal}
use Rattle.lexer.specs.declared.token.Base.{Base}
use Rattle.lexer.specs.declared.token.LiteralKind.TheVariants.{Int, Numeric}
use Rattle.lexer.specs.declared.token.Token.{Token}
use Rattle.lexer.specs.declared.token.TokenKind.TheVariants.{BlockComment, Ident, LineComment, Literal, PositionalParam, Whitespace}

-- what holds of every token at every place of every text: of the token, its bytes, and the bytes
-- that follow it
abbrev pub Always : (Token → List ℕ → List ℕ → Type 0) → Type 0
Always P =
    (bs : List ℕ) (place : ℕ) (t : Token) → token_at bs place ≡ Some t
    → P t (take t.len (drop place bs)) (drop (place + t.len) bs)

-- how many `/*` a list holds, and how many `*/`: the marks are read from left to right, and no two
-- share a byte
unfoldable pub openers : List ℕ → ℕ
openers [] = 0
openers (a ∷ []) = 0
openers (a ∷ b ∷ xs) =
    if opens a b then 1 + openers xs
    else if closes a b then openers xs
    else openers (b ∷ xs)

unfoldable pub closers : List ℕ → ℕ
closers [] = 0
closers (a ∷ []) = 0
closers (a ∷ b ∷ xs) =
    if opens a b then closers xs
    else if closes a b then 1 + closers xs
    else closers (b ∷ xs)

-- a closed block comment begins with `/*` and has as many `*/`; each shorter front with that first
-- mark has fewer
pub record Closed (token : List ℕ) : Type 0 where
  pub begins : take 2 token ≡ codes "/*"
  pub even : closers token ≡ openers token
  pub before : (n : ℕ) → 1 < n → n < length token → closers (take n token) < openers (take n token)

abbrev pub ClosedComments : Type 0
ClosedComments = Always (λ t token next. t.kind ≡ BlockComment true → Closed token)

-- one that is not closed runs to the end of the text, and all its fronts with the first mark have
-- fewer
pub record Unclosed (token next : List ℕ) : Type 0 where
  pub begins : take 2 token ≡ codes "/*"
  pub to_end : next ≡ []
  pub before : (n : ℕ) → 1 < n → closers (take n token) < openers (take n token)

abbrev pub UnclosedComments : Type 0
UnclosedComments = Always (λ t token next. t.kind ≡ BlockComment false → Unclosed token next)

-- each byte is of a class
unfoldable pub every : (ℕ → Bool) → List ℕ → Bool
every class [] = true
every class (x ∷ xs) = class x && every class xs

-- bytes of a class, as many as there are: the byte that follows them, if there is one, is not of it
pub record Longest (class : ℕ → Bool) (bytes next : List ℕ) : Type 0 where
  pub all : every class bytes ≡ true
  pub ends : leads class next ≡ false

-- a line comment is `--` and all that follows it before a line feed, a carriage return or the end
-- of the text
abbrev pub LineComments : Type 0
LineComments =
    Always (λ t token next. t.kind ≡ LineComment
    → (take 2 token ≡ codes "--") × Longest (all_but 10 13) token next)

-- a name or key word without quotes: a byte that starts one, and all bytes that go on with it
pub record Name (bytes next : List ℕ) : Type 0 where
  pub starts : leads ident_start bytes ≡ true
  pub goes_on : Longest ident_cont bytes next

abbrev pub Identifiers : Type 0
Identifiers = Always (λ t token next. t.kind ≡ Ident → Name token next)

-- blanks: one byte of whitespace, and all that follow it
pub record Blank (bytes next : List ℕ) : Type 0 where
  pub starts : leads whitespace bytes ≡ true
  pub goes_on : Longest whitespace bytes next

-- whitespace is blanks, or a byte-order mark at the very start of the text
abbrev pub Whitespaces : Type 0
Whitespaces =
    (bs : List ℕ) (place : ℕ) (t : Token) → token_at bs place ≡ Some t → t.kind ≡ Whitespace
    → Blank (take t.len (drop place bs)) (drop (place + t.len) bs)
    ⊎ ((place ≡ 0) × (take t.len bs ≡ 239 ∷ 187 ∷ 191 ∷ []))

-- junk stands after a number or a parameter without a break: a name, or nothing where none starts
abbrev pub Junk : List ℕ → List ℕ → Type 0
Junk bytes next = Name bytes next ⊎ ((bytes ≡ []) × (leads ident_start next ≡ false))

-- the junk of a token, from an offset to its end
pub record JunkFrom (offset : ℕ) (token next : List ℕ) : Type 0 where
  pub inside : offset ≤ length token
  pub junk : Junk (drop offset token) next

abbrev pub JunkOfInts : Type 0
JunkOfInts =
    Always (λ t token next. (base : Base) (empty : Bool) (offset : ℕ)
    → t.kind ≡ Literal (Int base empty offset) → JunkFrom offset token next)

abbrev pub JunkOfNumerics : Type 0
JunkOfNumerics =
    Always (λ t token next. (empty : Option ℕ) (offset : ℕ)
    → t.kind ≡ Literal (Numeric empty offset) → JunkFrom offset token next)

-- a parameter is `$`, all decimal digits that follow it, and junk
pub record Parameter (offset : ℕ) (token next : List ℕ) : Type 0 where
  pub begins : take 1 token ≡ codes "$"
  pub number : Longest decimal (drop 1 (take offset token)) (drop offset token ++ next)
  pub after : JunkFrom offset token next

abbrev pub Parameters : Type 0
Parameters =
    Always (λ t token next. (offset : ℕ) → t.kind ≡ PositionalParam offset
    → Parameter offset token next)

-- digits, with a single underscore or none between two of them
unfoldable pub grouped : (ℕ → Bool) → List ℕ → Bool
grouped digit [] = false
grouped digit (x ∷ []) = digit x
grouped digit (x ∷ y ∷ xs) =
    digit x && (grouped digit (y ∷ xs) || (y == byte "_" && grouped digit xs))

-- `0`, a letter in either case, an underscore or none, and digits
pub data Based (letter : ℕ) (digit : ℕ → Bool) : List ℕ → Type 0 where
  direct : (mark : ℕ) (ds : List ℕ) → either_case letter mark ≡ true → grouped digit ds ≡ true
      → Based letter digit (byte "0" ∷ mark ∷ ds)
  underscored : (mark : ℕ) (ds : List ℕ) → either_case letter mark ≡ true → grouped digit ds ≡ true
      → Based letter digit (byte "0" ∷ mark ∷ byte "_" ∷ ds)

-- a whole number is decimal digits, or has a prefix: `0x` and hexadecimal digits, or `0b` or `0o`
-- and decimal digits, since a digit too high for its base is no end of the number
abbrev pub Whole : Base → List ℕ → Type 0
Whole Binary xs = Based (byte "b") decimal xs
Whole Octal xs = Based (byte "o") decimal xs
Whole Decimal xs = grouped decimal xs ≡ true
Whole Hexadecimal xs = Based (byte "x") hexadecimal xs

-- an exponent is `e`, a sign or none, and digits
pub data Exponent : List ℕ → Type 0 where
  unsigned : (e : ℕ) (ds : List ℕ) → exponent_mark e ≡ true → grouped decimal ds ≡ true
      → Exponent (e ∷ ds)
  signed : (e s : ℕ) (ds : List ℕ) → exponent_mark e ≡ true → sign s ≡ true
      → grouped decimal ds ≡ true → Exponent (e ∷ s ∷ ds)

abbrev pub ExponentOrNone : List ℕ → Type 0
ExponentOrNone xs = Exponent xs ⊎ (xs ≡ [])

-- a number with a point or an exponent: `4.`, `3.5` and `.001`, each with an exponent or none, and
-- `5e2`
pub data Fractional : List ℕ → Type 0 where
  point_last : (ds es : List ℕ) → grouped decimal ds ≡ true → ExponentOrNone es
      → Fractional (ds ++ byte "." ∷ es)
  point_within : (ds fs es : List ℕ) → grouped decimal ds ≡ true → grouped decimal fs ≡ true
      → ExponentOrNone es → Fractional (ds ++ byte "." ∷ (fs ++ es))
  point_first : (fs es : List ℕ) → grouped decimal fs ≡ true → ExponentOrNone es
      → Fractional (byte "." ∷ (fs ++ es))
  no_point : (ds es : List ℕ) → grouped decimal ds ≡ true → Exponent es → Fractional (ds ++ es)

-- a number without junk, not empty and without an empty exponent, is of one of these forms
abbrev pub WholeNumbers : Type 0
WholeNumbers =
    Always (λ t token next. (base : Base) → t.kind ≡ Literal (Int base false t.len)
    → Whole base token)

abbrev pub FractionalNumbers : Type 0
FractionalNumbers =
    Always (λ t token next. t.kind ≡ Literal (Numeric None t.len) → Fractional token)

-- what follows a number does not go on with it: its first byte, 0 past the end, is no digit and
-- starts no name
abbrev pub Stops : List ℕ → Type 0
Stops next = (decimal (peek 0 next) ≡ false) × (ident_start (peek 0 next) ≡ false)

-- conversely, each form is read as that number: a whole number before what stops it and is no
-- point, unless there are two
abbrev pub WholeRead : Type 0
WholeRead =
    (bs : List ℕ) (place : ℕ) (base : Base) (xs next : List ℕ) → drop place bs ≡ xs ++ next
    → Whole base xs → Stops next → has_point next ≡ false
    → token_at bs place
    ≡ Some record { kind = Literal (Int base false (length xs)); len = length xs }

-- and one with a point or an exponent before what stops it and is no point
abbrev pub FractionalRead : Type 0
FractionalRead =
    (bs : List ℕ) (place : ℕ) (xs next : List ℕ) → drop place bs ≡ xs ++ next → Fractional xs
    → Stops next → (peek 0 next == byte ".") ≡ false
    → token_at bs place
    ≡ Some record { kind = Literal (Numeric None (length xs)); len = length xs }

-- all of these
pub record TokenLaws : Type 0 where
  pub closed_comments : ClosedComments
  pub unclosed_comments : UnclosedComments
  pub line_comments : LineComments
  pub identifiers : Identifiers
  pub whitespaces : Whitespaces
  pub junk_of_ints : JunkOfInts
  pub junk_of_numerics : JunkOfNumerics
  pub parameters : Parameters
  pub whole_numbers : WholeNumbers
  pub fractional_numbers : FractionalNumbers
  pub whole_read : WholeRead
  pub fractional_read : FractionalRead
