-- The arguments of psql commands: how a reader of them goes from byte to byte, and where they end.
use Rattle.std.specs.Prelude.{ℕ, ◌+◌, ◌-◌, ◌*◌, ◌%◌, ◌==◌, nat_lt, Bool, true, false, if◌then◌else◌}
use Rattle.std.specs.Prelude.{◌&&◌, ◌||◌, List, [], ◌∷◌, Option, Some, None}
use Rattle.lexer.specs.Byte.{byte}
use Rattle.lexer.specs.Class.{backslash, between, decimal, hexadecimal, line_blank, line_end}
use Rattle.lexer.specs.Cursor.{run}
use Rattle.lexer.specs.declared.psql_arg.ArgState.{ArgState}
use Rattle.lexer.specs.declared.psql_arg.ArgState.TheVariants.{Outside, Closing, Quoted, Escape}
use Rattle.lexer.specs.declared.psql_arg.ArgState.TheVariants.{OneOctalDigit, TwoOctalDigits}
use Rattle.lexer.specs.declared.psql_arg.ArgState.TheVariants.{HexMark, OneHexDigit}
use Rattle.lexer.specs.declared.psql_arg.ArgState.TheVariants.{DoubleQuoted, Backquoted}

-- 0 to 7
abbrev pub octal : ℕ → Bool
octal b = between (byte "0") (byte "7") b

-- what a hexadecimal digit counts
abbrev pub hex_value : ℕ → ℕ
hex_value b =
    if decimal b then b - byte "0"
    else if nat_lt b (byte "a") then b + 10 - byte "A"
    else b - byte "a" + 10

-- outside all quotes; a single quote that closes may still turn out to be the first of two that
-- stand for one
abbrev pub outside : ArgState → Bool
outside Outside = true
outside Closing = true
outside Quoted = false
outside Escape = false
outside OneOctalDigit = false
outside TwoOctalDigits = false
outside HexMark = false
outside OneHexDigit = false
outside DoubleQuoted = false
outside Backquoted = false

-- the arguments end before a line end, quoted or not, and before a backslash outside quotes
abbrev pub stops : ArgState → ℕ → Bool
stops state b = line_end b || (outside state && backslash b)

-- a blank outside quotes stands between two arguments
abbrev pub separates : ArgState → ℕ → Bool
separates state b = outside state && line_blank b

-- outside quotes: each of the three quotes opens its own
abbrev pub after_outside : ℕ → ArgState
after_outside b =
    if b == byte "'" then Quoted
    else if b == byte "\"" then DoubleQuoted
    else if b == byte "`" then Backquoted
    else Outside

-- within single quotes: a quote closes, a backslash takes the next character
abbrev pub after_quoted : ℕ → ArgState
after_quoted b = if b == byte "'" then Closing else if backslash b then Escape else Quoted

-- after that backslash: octal digits or an `x` with hexadecimal ones follow, or the character
-- stands for itself
abbrev pub after_escape : ℕ → ArgState
after_escape b = if octal b then OneOctalDigit else if b == byte "x" then HexMark else Quoted

-- the state after one more byte; an octal escape has up to three digits, a hexadecimal one up to
-- two
abbrev pub after : ArgState → ℕ → ArgState
after Outside b = after_outside b
after Closing b = after_outside b
after Quoted b = after_quoted b
after Escape b = after_escape b
after OneOctalDigit b = if octal b then TwoOctalDigits else after_quoted b
after TwoOctalDigits b = if octal b then Quoted else after_quoted b
after HexMark b = if hexadecimal b then OneHexDigit else after_quoted b
after OneHexDigit b = if hexadecimal b then Quoted else after_quoted b
after DoubleQuoted b = if b == byte "\"" then Outside else DoubleQuoted
after Backquoted b = if b == byte "`" then Outside else Backquoted

-- within single quotes a closing quote and a backslash stand for nothing yet
abbrev pub last_quoted : Option ℕ → ℕ → Option ℕ
last_quoted last b = if b == byte "'" then last else if backslash b then last else Some b

-- a character so far, with one more digit in a base; where there is none, the digit is the first
abbrev pub with_digit : Option ℕ → ℕ → ℕ → Option ℕ
with_digit None base digit = Some digit
with_digit (Some so_far) base digit = Some ((so_far * base + digit) % 256)

-- the last character of the argument's value after one more byte: digits of an escape count as the
-- character that they stand for so far, other escapes as their letter (a control character is no
-- parenthesis either), two single quotes as one, an opening or closing single quote as nothing, a
-- double quote as itself, and a command in backticks leaves none
abbrev pub last_after : ArgState → Option ℕ → ℕ → Option ℕ
last_after Outside last b = if b == byte "'" then last else Some b
last_after Closing last b = Some b
last_after Quoted last b = last_quoted last b
last_after Escape last b = if octal b then Some (b - byte "0") else Some b
last_after OneOctalDigit last b =
    if octal b then with_digit last 8 (b - byte "0")
    else last_quoted last b
last_after TwoOctalDigits last b =
    if octal b then with_digit last 8 (b - byte "0")
    else last_quoted last b
last_after HexMark last b = if hexadecimal b then Some (hex_value b) else last_quoted last b
last_after OneHexDigit last b =
    if hexadecimal b then with_digit last 16 (hex_value b)
    else last_quoted last b
last_after DoubleQuoted last b = Some b
last_after Backquoted last b = None

-- whether the last character is a closing parenthesis
abbrev pub is_parenthesis : Option ℕ → Bool
is_parenthesis None = false
is_parenthesis (Some b) = b == byte ")"

-- the bytes of the arguments from a state on
unfoldable pub arguments : ArgState → List ℕ → ℕ
arguments state [] = 0
arguments state (x ∷ xs) = if stops state x then 0 else 1 + arguments (after state x) xs

-- the bytes of the options of `\g (`: all arguments up to the first whose value ends with `)`, and
-- the blanks after it
unfoldable pub options : ArgState → Option ℕ → List ℕ → ℕ
options state last [] = 0
options state last (x ∷ xs) =
    if stops state x then 0
    else if separates state x && is_parenthesis last then run line_blank (x ∷ xs)
    else if separates state x then 1 + options Outside None xs
    else 1 + options (after state x) (last_after state last x) xs
