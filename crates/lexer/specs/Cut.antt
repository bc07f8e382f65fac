-- The cut of a text: its tokens in order.
use Rattle.std.specs.Prelude.{ℕ, zero, suc, ◌+◌, ◌-◌, if◌then◌else◌, List, [], ◌∷◌}
use Rattle.lexer.specs.Lex.{lex, marked}
use Rattle.lexer.specs.declared.token.Token.{Token}
use Rattle.lexer.specs.declared.token.TokenKind.TheVariants.{Whitespace}

-- the tokens of a list, where the token before them still covers so many of its bytes
unfoldable pub cut_after : ℕ → List ℕ → List Token
cut_after covered [] = []
cut_after zero (x ∷ xs) = lex x xs ∷ cut_after ((lex x xs).len - 1) xs
cut_after (suc covered) (x ∷ xs) = cut_after covered xs

-- a byte-order mark is whitespace of its own
abbrev pub mark : Token
mark = record { kind = Whitespace; len = 3 }

-- the tokens of a text; a byte-order mark is looked for once, at the very start
abbrev pub cut : List ℕ → List Token
cut xs = if marked xs then mark ∷ cut_after 3 xs else cut_after 0 xs

-- how many bytes tokens cover
abbrev pub lengths : List Token → ℕ
lengths [] = 0
lengths (t ∷ ts) = t.len + lengths ts
