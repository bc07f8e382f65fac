-- The lines that the program writes, byte by byte.
use Rattle.std.specs.Prelude.{ℕ, List, [], ◌∷◌, ◌++◌, codes, decimal}
use Rattle.text.specs.declared.fault.Fault.{Fault}
use Rattle.statement.specs.Causes.{cause_number}
use Rattle.listing.specs.declared.lines.EndLine.{EndLine}
use Rattle.listing.specs.declared.lines.TokenLine.{TokenLine}
use Rattle.listing.specs.declared.lines.TotalLine.{TotalLine}
use Rattle.listing.specs.Kinds.{kind_bytes}

-- words with a blank between them, and a line end
abbrev pub line : List (List ℕ) → List ℕ
line [] = 10 ∷ []
line (word ∷ []) = word ++ (10 ∷ [])
line (word ∷ next ∷ words) = word ++ (codes " " ++ line (next ∷ words))

-- token PLACE LENGTH KIND FIELDS..
abbrev pub token_bytes : TokenLine → List ℕ
token_bytes l =
    line (codes "token" ∷ decimal l.place ∷ decimal l.token.len ∷ kind_bytes l.token.kind ∷ [])

-- end START LENGTH CAUSE TOKENS SOLID
abbrev pub end_bytes : EndLine → List ℕ
end_bytes l =
    line (codes "end" ∷ decimal l.start ∷ decimal l.len ∷ decimal (cause_number l.cause)
    ∷ decimal l.tokens ∷ decimal l.solid ∷ [])

-- total BYTES TOKENS ENDS
abbrev pub total_bytes : TotalLine → List ℕ
total_bytes l = line (codes "total" ∷ decimal l.bytes ∷ decimal l.tokens ∷ decimal l.ends ∷ [])

-- refused NUMBER PLACE
abbrev pub refused_words : Fault → List ℕ
refused_words fault = codes "refused " ++ decimal fault.number ++ codes " " ++ decimal fault.place

abbrev pub refused_bytes : Fault → List ℕ
refused_bytes fault = refused_words fault ++ (10 ∷ [])
