-- Where strings, quoted names and dollar-quoted strings end, in the words of SQL's lexical rules.
use Rattle.std.specs.Prelude.{◌≡◌, ℕ, ◌+◌, ◌≤◌, Bool, true, false, if◌then◌else◌, List, [], ◌∷◌, ◌++◌, map, length, take, drop, Some, codes, ◌≢◌, nat_eq}
use Rattle.lexer.specs.Byte.{byte}
use Rattle.lexer.specs.Class.{between, ident_start, tag_cont}
use Rattle.lexer.specs.Cursor.{leads}
use Rattle.lexer.specs.Lex.{token_at}
use Rattle.lexer.specs.declared.token.LiteralKind.TheVariants.{BitStr, ByteStr, DollarQuotedString, EscStr, NationalStr, Str, UnicodeEscStr}
use Rattle.lexer.specs.declared.token.Token.{Token}
use Rattle.lexer.specs.declared.token.TokenKind.TheVariants.{Literal, QuotedIdent}
use Rattle.lexer.specs.declared.token.TokenKind.{TokenKind}

-- how a kind of token is quoted: its opener with letters in lower case, its quote, whether
-- backslashes escape, and whether it is terminated
pub data Quoting : TokenKind → List ℕ → ℕ → Bool → Bool → Type 0 where
  string : (terminated : Bool)
      → Quoting (Literal (Str terminated)) (codes "'") (byte "'") false terminated
  escape_string : (terminated : Bool)
      → Quoting (Literal (EscStr terminated)) (codes "e'") (byte "'") true terminated
  bit_string : (terminated : Bool)
      → Quoting (Literal (BitStr terminated)) (codes "b'") (byte "'") false terminated
  byte_string : (terminated : Bool)
      → Quoting (Literal (ByteStr terminated)) (codes "x'") (byte "'") false terminated
  national_string : (terminated : Bool)
      → Quoting (Literal (NationalStr terminated)) (codes "n'") (byte "'") false terminated
  unicode_string : (terminated : Bool)
      → Quoting (Literal (UnicodeEscStr terminated)) (codes "u&'") (byte "'") false terminated
  name : (terminated : Bool)
      → Quoting (QuotedIdent terminated false) (codes "\"") (byte "\"") false terminated
  unicode_name : (terminated : Bool)
      → Quoting (QuotedIdent terminated true) (codes "u&\"") (byte "\"") false terminated

-- what may stand between the quotes: a quote only if doubled, and where backslashes escape, a
-- backslash only with the byte that it takes
pub data Body (quote : ℕ) (escapes : Bool) : List ℕ → Type 0 where
  empty : Body quote escapes []
  plain : (b : ℕ) (xs : List ℕ) → (b ≢ quote) → (escapes ≡ true → b ≢ byte "\\")
      → Body quote escapes xs → Body quote escapes (b ∷ xs)
  doubled : (xs : List ℕ) → Body quote escapes xs → Body quote escapes (quote ∷ quote ∷ xs)
  escaped : (b : ℕ) (xs : List ℕ) → escapes ≡ true → Body quote escapes xs
      → Body quote escapes (byte "\\" ∷ b ∷ xs)

-- bytes split into a body, the quote that closes it, and a rest that does not begin with a quote
pub record Closes (quote : ℕ) (escapes : Bool) (xs body rest : List ℕ) : Type 0 where
  pub split : xs ≡ body ++ (quote ∷ rest)
  pub sound : Body quote escapes body
  pub alone : leads (nat_eq quote) rest ≡ false

-- a letter in lower case, and any other byte as it is
abbrev pub lower : ℕ → ℕ
lower b = if between (byte "A") (byte "Z") b then b + 32 else b

-- a quoted token begins with its opener, in letters of either case
abbrev pub QuotedOpens : Type 0
QuotedOpens =
    (bs : List ℕ) (place : ℕ) (t : Token) (opener : List ℕ) (quote : ℕ) (escapes terminated : Bool)
    → token_at bs place ≡ Some t → Quoting t.kind opener quote escapes terminated
    → map lower (take (length opener) (drop place bs)) ≡ opener

-- and where a text goes on with an opener, the token there is quoted so
abbrev pub QuotedFound : Type 0
QuotedFound =
    (bs : List ℕ) (place : ℕ) (kind : TokenKind) (opener : List ℕ) (quote : ℕ)
    (escapes terminated : Bool) → Quoting kind opener quote escapes terminated
    → map lower (take (length opener) (drop place bs)) ≡ opener
    → (t : Token) × (closed : Bool) × (token_at bs place ≡ Some t)
    × Quoting t.kind opener quote escapes closed

-- a terminated one goes on with a body and the quote that closes it; there is no other way to read
-- what follows its opener so
abbrev pub QuotedCloses : Type 0
QuotedCloses =
    (bs : List ℕ) (place : ℕ) (t : Token) (opener : List ℕ) (quote : ℕ) (escapes : Bool)
    → token_at bs place ≡ Some t → Quoting t.kind opener quote escapes true
    → (body : List ℕ) × (rest : List ℕ)
    × Closes quote escapes (drop (place + length opener) bs) body rest
    × (t.len ≡ length opener + length body + 1)
    × ((b r : List ℕ) → Closes quote escapes (drop (place + length opener) bs) b r → b ≡ body)

-- one that is not terminated has no quote that closes it, and runs to the end of the text
abbrev pub QuotedRuns : Type 0
QuotedRuns =
    (bs : List ℕ) (place : ℕ) (t : Token) (opener : List ℕ) (quote : ℕ) (escapes : Bool)
    → token_at bs place ≡ Some t → Quoting t.kind opener quote escapes false
    → ((b r : List ℕ) → Closes quote escapes (drop (place + length opener) bs) b r → ⊥)
    × (place + t.len ≡ length bs)

-- each byte may go on with a tag
abbrev pub TagRest : List ℕ → Type 0
TagRest [] = Unit {0}
TagRest (x ∷ xs) = (tag_cont x ≡ true) × TagRest xs

-- a tag is empty, or an identifier without `$`
abbrev pub Tag : List ℕ → Type 0
Tag [] = Unit {0}
Tag (x ∷ xs) = (ident_start x ≡ true) × TagRest xs

-- a tag's delimiter: the tag between two `$`
abbrev pub delimiter : List ℕ → List ℕ
delimiter tag = byte "$" ∷ (tag ++ (codes "$"))

-- a terminated dollar-quoted string is a delimiter, a body and the delimiter again: the first one
-- after the opening one
abbrev pub DollarCloses : Type 0
DollarCloses =
    (bs : List ℕ) (place : ℕ) (t : Token) → token_at bs place ≡ Some t
    → t.kind ≡ Literal (DollarQuotedString true)
    → (tag : List ℕ) × (body : List ℕ) × (rest : List ℕ) × Tag tag
    × (drop place bs ≡ delimiter tag ++ (body ++ (delimiter tag ++ rest)))
    × (t.len ≡ length (delimiter tag) + length body + length (delimiter tag))
    × ((front back : List ℕ) → body ++ (delimiter tag ++ rest) ≡ front ++ (delimiter tag ++ back)
    → length body ≤ length front)

-- one that is not terminated has no second delimiter, and runs to the end of the text
abbrev pub DollarRuns : Type 0
DollarRuns =
    (bs : List ℕ) (place : ℕ) (t : Token) → token_at bs place ≡ Some t
    → t.kind ≡ Literal (DollarQuotedString false)
    → (tag : List ℕ) × (after : List ℕ) × Tag tag × (drop place bs ≡ delimiter tag ++ after)
    × ((front back : List ℕ) → after ≢ front ++ (delimiter tag ++ back))
    × (place + t.len ≡ length bs)

-- where a text goes on with a delimiter, a dollar-quoted string begins
abbrev pub DollarFound : Type 0
DollarFound =
    (bs : List ℕ) (place : ℕ) (tag after : List ℕ) → Tag tag
    → drop place bs ≡ delimiter tag ++ after
    → (t : Token) × (closed : Bool) × (token_at bs place ≡ Some t)
    × (t.kind ≡ Literal (DollarQuotedString closed))

-- all of these
pub record QuoteLaws : Type 0 where
  pub quoted_opens : QuotedOpens
  pub quoted_found : QuotedFound
  pub quoted_closes : QuotedCloses
  pub quoted_runs : QuotedRuns
  pub dollar_found : DollarFound
  pub dollar_closes : DollarCloses
  pub dollar_runs : DollarRuns
