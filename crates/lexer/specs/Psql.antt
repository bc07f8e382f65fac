-- psql commands: the word after the backslash, what it does, and how far the command reaches.
use Rattle.std.specs.Prelude.{ℕ, ◌+◌, ◌==◌, Bool, true, false, if◌then◌else◌, ◌&&◌, ◌||◌}
use Rattle.std.specs.Prelude.{List, [], ◌∷◌, take, drop, codes, None}
use Rattle.lexer.specs.Byte.{byte}
use Rattle.lexer.specs.Class.{all_but, command_letter, line_blank}
use Rattle.lexer.specs.Cursor.{peek, run}
use Rattle.lexer.specs.PsqlArg.{arguments, options}
use Rattle.lexer.specs.declared.psql.Command.{Command}
use Rattle.lexer.specs.declared.psql.Command.TheVariants.{Nothing, EndsQuery, SendsQuery}
use Rattle.lexer.specs.declared.psql.Command.TheVariants.{TakesPipe, ReadsLine}
use Rattle.lexer.specs.declared.psql.LetterCase.{LetterCase}
use Rattle.lexer.specs.declared.psql.LetterCase.TheVariants.{Any, Exact}
use Rattle.lexer.specs.declared.psql_arg.ArgState.TheVariants.{Outside}
use Rattle.lexer.specs.declared.token.TokenKind.{TokenKind}
use Rattle.lexer.specs.declared.token.TokenKind.TheVariants.{Colon, PsqlCommand, Semi}
use Rattle.std.proofs.Common.{Bor}
use Rattle.std.specs.Char.{to_ascii_lowercase}

-- a letter in any case counts as the small one, or as it is
abbrev pub fold : LetterCase → ℕ → ℕ
fold Exact b = b
fold Any b = to_ascii_lowercase b

-- whether the second list, each byte folded, is the first
abbrev pub spelt : (ℕ → ℕ) → List ℕ → List ℕ → Bool
spelt f [] [] = true
spelt f [] (y ∷ ys) = false
spelt f (x ∷ xs) [] = false
spelt f (x ∷ xs) (y ∷ ys) = x == f y && spelt f xs ys

-- whether a word ends the query before it
abbrev pub ends_query : Command → Bool
ends_query EndsQuery = true
ends_query SendsQuery = true
ends_query other = false

-- whether a pipe to a program may follow it
abbrev pub takes_pipe : Command → Bool
takes_pipe SendsQuery = true
takes_pipe TakesPipe = true
takes_pipe other = false

-- whether it takes the rest of its line
abbrev pub reads_line : Command → Bool
reads_line ReadsLine = true
reads_line other = false

-- the words that do something
abbrev pub words : List (List ℕ × LetterCase × Command)
words =
    (codes "g", Exact, SendsQuery)
    ∷ (codes "gx", Exact, SendsQuery)
    ∷ (codes "gdesc", Exact, EndsQuery)
    ∷ (codes "gexec", Exact, EndsQuery)
    ∷ (codes "gset", Exact, EndsQuery)
    ∷ (codes "getresults", Exact, EndsQuery)
    ∷ (codes "crosstabview", Exact, EndsQuery)
    ∷ (codes "watch", Exact, EndsQuery)
    ∷ (codes "parse", Exact, EndsQuery)
    ∷ (codes "close_prepared", Exact, EndsQuery)
    ∷ (codes "sendpipeline", Exact, EndsQuery)
    ∷ (codes "startpipeline", Exact, EndsQuery)
    ∷ (codes "syncpipeline", Exact, EndsQuery)
    ∷ (codes "endpipeline", Exact, EndsQuery)
    ∷ (codes "flush", Exact, EndsQuery)
    ∷ (codes "flushrequest", Exact, EndsQuery)
    ∷ (codes "r", Exact, EndsQuery)
    ∷ (codes "reset", Exact, EndsQuery)
    ∷ (codes "o", Exact, TakesPipe)
    ∷ (codes "out", Exact, TakesPipe)
    ∷ (codes "w", Exact, TakesPipe)
    ∷ (codes "write", Exact, TakesPipe)
    ∷ (codes "!", Exact, ReadsLine)
    ∷ (codes "ef", Exact, ReadsLine)
    ∷ (codes "ev", Exact, ReadsLine)
    ∷ (codes "sf", Exact, ReadsLine)
    ∷ (codes "sf+", Exact, ReadsLine)
    ∷ (codes "sv", Exact, ReadsLine)
    ∷ (codes "sv+", Exact, ReadsLine)
    ∷ (codes "h", Exact, ReadsLine)
    ∷ (codes "help", Exact, ReadsLine)
    ∷ (codes "copy", Any, ReadsLine)
    ∷ []

-- a row as the program has it
abbrev pub row : Bor (List ℕ) × LetterCase × Command → List ℕ × LetterCase × Command
row r = (r.0.now, r.1, r.2)

-- what a word does by a list of words
abbrev pub found : List (List ℕ × LetterCase × Command) → List ℕ → Command
found [] w = Nothing
found (row ∷ rows) w = if spelt (fold row.1) row.0 w then row.2 else found rows w

-- what a word does
unfoldable pub meaning : List ℕ → Command
meaning w = found words w

-- the bytes of one thing, and those of another that follows it
abbrev pub followed : (List ℕ → ℕ) → (List ℕ → ℕ) → List ℕ → ℕ
followed f g xs = f xs + g (drop (f xs) xs)

-- the options of `\g`, if a parenthesis opens them
abbrev pub opened_options : List ℕ → ℕ
opened_options xs = if peek 0 xs == byte "(" then options Outside None xs else 0

-- before a pipe is looked for: the blanks, and the options of a word that sends the query
abbrev pub before_pipe : Command → List ℕ → ℕ
before_pipe SendsQuery xs = followed (run line_blank) opened_options xs
before_pipe TakesPipe xs = run line_blank xs
before_pipe other xs = 0

-- the rest of the line for a word that reads it, or from a pipe on; else arguments
abbrev pub what_follows : Command → List ℕ → ℕ
what_follows command xs =
    if reads_line command || (takes_pipe command && peek 0 xs == byte "|")
    then run (all_but 10 13) xs
    else arguments Outside xs

-- the word at the front: the longest run of command letters
abbrev pub command_word : List ℕ → List ℕ
command_word xs = take (run command_letter xs) xs

-- what it does
abbrev pub command : List ℕ → Command
command xs = meaning (command_word xs)

-- the bytes of the word and of what belongs to it
abbrev pub command_len : List ℕ → ℕ
command_len xs =
    followed (run command_letter)
    (followed (before_pipe (command xs)) (what_follows (command xs))) xs

-- after the backslash: `\`, `;` and `:` stand alone, and else a command follows
abbrev pub psql_kind : List ℕ → TokenKind
psql_kind xs =
    if peek 0 xs == byte "\\" then PsqlCommand false
    else if peek 0 xs == byte ";" then Semi
    else if peek 0 xs == byte ":" then Colon
    else PsqlCommand (ends_query (command xs))

-- the bytes after the backslash that belong to the token
abbrev pub psql_len : List ℕ → ℕ
psql_len xs =
    if peek 0 xs == byte "\\" || (peek 0 xs == byte ";" || peek 0 xs == byte ":") then 1
    else command_len xs
