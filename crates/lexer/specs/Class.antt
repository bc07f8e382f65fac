-- Classes of characters, each as a test on a byte. A byte from 128 on stands for a character beyond ASCII.
use Rattle.std.specs.Prelude.{ℕ, Bool, not, ◌&&◌, ◌||◌, ◌==◌, nat_le}
use Rattle.lexer.specs.Byte.{byte}

-- the bytes from `low` to `high`
abbrev pub between : ℕ → ℕ → ℕ → Bool
between low high b = nat_le low b && nat_le b high

-- space, tab, line feed, vertical tab, form feed, carriage return
abbrev pub whitespace : ℕ → Bool
whitespace b = b == 32 || between 9 13 b

-- line feed and carriage return end a line
abbrev pub line_end : ℕ → Bool
line_end b = b == 10 || b == 13

abbrev pub line_blank : ℕ → Bool
line_blank b = whitespace b && not (line_end b)

abbrev pub backslash : ℕ → Bool
backslash b = b == byte "\\"

-- what the word of a psql command is made of
abbrev pub command_letter : ℕ → Bool
command_letter b = not (whitespace b) && not (backslash b)

abbrev pub letter : ℕ → Bool
letter b = between (byte "a") (byte "z") b || between (byte "A") (byte "Z") b

-- 0 to 9
abbrev pub decimal : ℕ → Bool
decimal b = between (byte "0") (byte "9") b

-- 0 to 9, a to f, A to F
abbrev pub hexadecimal : ℕ → Bool
hexadecimal b = decimal b || (between (byte "a") (byte "f") b || between (byte "A") (byte "F") b)

-- a letter, a digit, `_`, `$` or a character beyond ASCII goes on with an identifier
abbrev pub ident_cont : ℕ → Bool
ident_cont b = letter b || (decimal b || (b == byte "_" || (b == byte "$" || nat_le 128 b)))

-- an identifier starts with any of these but a digit and `$`
abbrev pub ident_start : ℕ → Bool
ident_start b = ident_cont b && (not (decimal b) && not (b == byte "$"))

-- a dollar quote's tag is made of these but `$`
abbrev pub tag_cont : ℕ → Bool
tag_cont b = ident_cont b && not (b == byte "$")

-- one of two bytes, and any other byte
abbrev pub one_of : ℕ → ℕ → ℕ → Bool
one_of x y b = b == x || b == y

abbrev pub all_but : ℕ → ℕ → ℕ → Bool
all_but x y b = not (one_of x y b)
