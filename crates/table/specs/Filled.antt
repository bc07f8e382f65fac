-- What the table call answers, and what the table holds after it.
use Rattle.std.specs.Prelude.{ℕ, if◌then◌else◌, List, ◌++◌, length, drop, Ok, Err, Result, nat_lt}
use Rattle.lexer.specs.Cut.{cut}
use Rattle.lexer.specs.declared.token.Token.{Token}
use Rattle.table.specs.declared.fault.TableFault.TheVariants.{InText, TooFewEntries}
use Rattle.table.specs.declared.fault.TableFault.{TableFault}
use Rattle.text.specs.Fit.{checked}
use Rattle.text.specs.declared.fault.TextFault.{TextFault}

-- the fault that the check of a text met, or else an answer
abbrev pub if_fit : {A E : Type 0}
    → (TextFault → E) → Result (Unit {0}) TextFault → Result A E → Result A E
if_fit in_text (Ok fit) answer = answer
if_fit in_text (Err fault) answer = Err (in_text fault)

-- so many tokens, if as many entries have room for them
abbrev pub room_for : ℕ → ℕ → Result ℕ TableFault
room_for tokens entries = if nat_lt entries tokens then Err (TooFewEntries tokens) else Ok tokens

-- the token count, or why the table is not filled: the text is looked at first
abbrev pub fill_answer : List ℕ → List Token → Result ℕ TableFault
fill_answer bs table = if_fit InText (checked bs) (room_for (length (cut bs)) (length table))

-- the tokens stand in the first entries and the later ones are untouched; on a fault all are
abbrev pub filled : Result ℕ TableFault → List Token → List Token → List Token
filled (Ok count) tokens table = tokens ++ drop count table
filled (Err fault) tokens table = table
