-- What the program writes for an input.
use Rattle.std.specs.Prelude.{◌≡◌, ℕ, ◌+◌, if◌then◌else◌, List, [], ◌∷◌, ◌++◌, length, take, drop, Ok, Err, string_bytes, Result, nat_lt}
use Rattle.text.specs.Fit.{checked}
use Rattle.text.specs.declared.fault.TextFault.{TextFault}
use Rattle.lexer.specs.Cut.{cut, lengths}
use Rattle.lexer.specs.declared.token.Token.{Token}
use Rattle.statement.specs.declared.Statement.{Statement}
use Rattle.statement.specs.Ends.{first_state}
use Rattle.statement.specs.Statements.{statements}
use Rattle.listing.specs.declared.Listing.{Listing}
use Rattle.listing.specs.declared.Listing.TheVariants.{Listed, Refused}
use Rattle.listing.specs.declared.fault.ProgramFault.{ProgramFault}
use Rattle.listing.specs.declared.fault.ProgramFault.TheVariants.{InText, InputTooLong}
use Rattle.listing.specs.Faults.{longest_input, program_fault}
use Rattle.listing.specs.Lines.{token_bytes, end_bytes, total_bytes, refused_bytes}

-- the lines of tokens that lie one after another from a place on
abbrev pub token_lines : ℕ → List Token → List ℕ
token_lines place [] = []
token_lines place (t ∷ ts) =
    token_bytes (record { place = place; token = t }) ++ token_lines (place + t.len) ts

-- the lines of statements from a place on: those of a statement's tokens, and after them its end's
abbrev pub statement_lines : ℕ → List Token → List Statement → List ℕ
statement_lines place ts [] = []
statement_lines place ts (s ∷ ss) =
    let own = take s.tokens ts in
    let len = lengths own in
    token_lines place own
    ++ (end_bytes (record {
      start = place;
      len = len;
      cause = s.cause;
      tokens = s.tokens;
      solid = s.solid;
    })
    ++ statement_lines (place + len) (drop s.tokens ts) ss)

-- the lines of a text that has these tokens
abbrev pub listed : List Token → List ℕ
listed ts =
    let ss = statements first_state ts in
    statement_lines 0 ts ss
    ++ total_bytes (record { bytes = lengths ts; tokens = length ts; ends = length ss })

-- what is written, whichever it is
abbrev pub text_of : Listing → List ℕ
text_of (Listed lines) = string_bytes lines
text_of (Refused line) = string_bytes line

-- a fit text is listed by the lines of its cut, and another is refused by the one line that tells the fault
abbrev pub Answers : List ℕ → Result (Unit {0}) ProgramFault → Listing → Type 0
Answers bs (Ok done) (Listed lines) = string_bytes lines ≡ listed (cut bs)
Answers bs (Ok done) (Refused line) = ⊥
Answers bs (Err fault) (Listed lines) = ⊥
Answers bs (Err fault) (Refused line) = string_bytes line ≡ refused_bytes (program_fault fault)

-- a text's fault is one of the program's
abbrev pub in_text : Result (Unit {0}) TextFault → Result (Unit {0}) ProgramFault
in_text (Ok done) = Ok done
in_text (Err fault) = Err (InText fault)

-- the length of an input is looked at first
abbrev pub admitted : List ℕ → Result (Unit {0}) ProgramFault
admitted bs = if nat_lt longest_input (length bs) then Err InputTooLong else in_text (checked bs)
