-- What the start of a token says of its first bytes.
use Rattle.std.proofs.Common.{◌≡◌, ℕ, true, false, ◌&&◌, eqb, arith, eqb-true}
use Rattle.lexer.specs.Class.{decimal, ident_start, whitespace}
use Rattle.lexer.specs.Number.{either_case}
use Rattle.lexer.specs.Start.{plain_start, quoted_start, start_of, symbol, unicode_start}
use Rattle.lexer.specs.declared.quoted.Prefix.TheVariants.{Esc, Bit, Byte, National, UnicodeEsc}
use Rattle.lexer.specs.declared.quoted.Prefix.{Prefix}
use Rattle.lexer.specs.declared.start.Start.TheVariants.{Blanks, Line, Block, Prefixed, UnicodeStr, UnicodeIdent, Word, Digit, Point, TwoDots, Dollar, Command, Quote, DoubleQuote, Symbol}
use Rattle.lexer.specs.declared.start.Start.{Start}
use Rattle.std.proofs.lemmas.Bool.{and_parts, cond_both}
use Rattle.std.proofs.lemmas.Bool.Decides.{nat_tests}

-- whether a byte is the letter of a prefix, directly before the quote: `U&` is no such letter
abbrev pub IsLed : Prefix → ℕ → Type 0
IsLed Esc b = either_case 101 b ≡ true
IsLed Bit b = either_case 98 b ≡ true
IsLed Byte b = either_case 120 b ≡ true
IsLed National b = either_case 110 b ≡ true
IsLed UnicodeEsc b = ⊥

-- what a start says of the first byte and the two after it
abbrev pub Begins : Start → ℕ → ℕ → ℕ → Type 0
Begins Blanks first next after = whitespace first ≡ true
Begins Line first next after = (first ≡ 45) × (next ≡ 45)
Begins Block first next after = (first ≡ 47) × (next ≡ 42)
Begins (Prefixed prefix) first next after = IsLed prefix first × (next ≡ 39)
Begins UnicodeStr first next after = (either_case 117 first ≡ true) × (next ≡ 38) × (after ≡ 39)
Begins UnicodeIdent first next after = (either_case 117 first ≡ true) × (next ≡ 38) × (after ≡ 34)
Begins Word first next after = ident_start first ≡ true
Begins Digit first next after = decimal first ≡ true
Begins Point first next after = (first ≡ 46) × (decimal next ≡ true)
Begins TwoDots first next after = (first ≡ 46) × (next ≡ 46)
Begins Dollar first next after = first ≡ 36
Begins Command first next after = first ≡ 92
Begins Quote first next after = first ≡ 39
Begins DoubleQuote first next after = first ≡ 34
Begins (Symbol kind) first next after = (ident_start first ≡ false) × (kind ≡ symbol first)

module _ (first next after : ℕ) where
  plain : Begins (plain_start first) first next after
  unfolding plain_start
  plain = grind (arith, nat_tests)

  before_quote : next ≡ 39 → Begins (quoted_start first) first next after
  before_quote quote = let direct = plain in grind (arith, nat_tests)

  before_ampersand : either_case 117 first ≡ true → next ≡ 38 → Begins (unicode_start after) first next after
  before_ampersand letter ampersand = grind (arith, nat_tests)

  -- the start that is found says so of them
  pub begun : Begins (start_of first next after) first next after
  begun =
      let P : Start → Type 0 = λ s. Begins s first next after in
      cond_both (eqb first 47 && eqb next 42) _ _ P (λ h. grind (arith, nat_tests)) (λ _.
      cond_both (eqb first 45 && eqb next 45) _ _ P (λ h. grind (arith, nat_tests)) (λ _.
      cond_both (eqb first 46 && eqb next 46) _ _ P (λ h. grind (arith, nat_tests)) (λ _.
      cond_both (eqb first 46 && decimal next) _ _ P (λ h. grind (arith, nat_tests)) (λ _.
      cond_both (either_case 117 first && eqb next 38) _ _ P
      (λ h.
      let both = and_parts (either_case 117 first) (eqb next 38) h in
      before_ampersand both.0 (eqb-true next 38 both.1)) (λ _.
      cond_both (eqb next 39) _ _ P (λ h. before_quote (eqb-true next 39 h)) (λ _. plain))))))
