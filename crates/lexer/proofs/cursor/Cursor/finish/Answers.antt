use Rattle.std.proofs.Common.{◌≡◌, ℕ, ◌+◌, true, false, List, drop, sym, refl, ap, ◌∙◌, subst, arith}
use Rattle.lexer.proofs.Moves.{moved_by, moved_rest, moved_then, moved_trans, next_one}
use Rattle.lexer.proofs.Starts.{Begins, begun}
use Rattle.lexer.proofs.cursor.Cursor.finish.Goals as goal
use Rattle.lexer.specs.Class.{all_but}
use Rattle.lexer.specs.Comment.{comment, comment_closed}
use Rattle.lexer.specs.Cursor.{Begun, Moved, Spot, peek, rest, run}
use Rattle.lexer.specs.Lex.{kind_of, rest_len, start_with}
use Rattle.lexer.specs.Quoted.{quoted, quoted_closed}
use Rattle.lexer.specs.declared.start.Start.{Start}
use Rattle.lexer.specs.declared.token.LiteralKind.TheVariants.{UnicodeEscStr}
use Rattle.lexer.specs.declared.token.TokenKind.TheVariants.{BlockComment, Literal, QuotedIdent}
use Rattle.lexer.specs.declared.token.TokenKind.{TokenKind}
use Rattle.std.proofs.lemmas.List.{drop-drop, get_or-drop}

-- where a start is `s`, the first bytes, the kind and the length are those of `s`
module _ (first : ℕ) (xs : List ℕ) {start s : Start} (is : start ≡ s) where
  first_bytes : start ≡ start_with first xs → Begins s first (peek 0 xs) (peek 1 xs)
  first_bytes found = subst (λ t. Begins t first (peek 0 xs) (peek 1 xs)) (sym found ∙ is) (begun first (peek 0 xs) (peek 1 xs))

  kind_said : {k : TokenKind} → k ≡ kind_of s first xs → k ≡ kind_of start first xs
  kind_said e = e ∙ ap (λ t. kind_of t first xs) (sym is)

  moved_on : {c d : Spot} → Moved c d (rest_len s first xs) → Moved c d (rest_len start first xs)
  moved_on m = moved_by (ap (λ t. rest_len t first xs) (sym is)) m

pub prefixed_string-requires : goal.prefixed_string-requires
prefixed_string-requires g c = (first_bytes c.args.first_char (rest c.args.self.now) c.in-Prefixed.is c.requires.begun).1

-- the second byte that follows is the first after a move by one
second : {c d : Spot} → Moved c d 1 → peek 0 (rest d) ≡ peek 1 (rest c)
second {c = c} m = ap (peek 0) (moved_rest m) ∙ get_or-drop 1 (rest c) 0 0

pub prefixed_string-requires-in-UnicodeStr : goal.prefixed_string-requires-in-UnicodeStr
prefixed_string-requires-in-UnicodeStr g c =
    let xs = rest c.args.self.now in
    let asked = first_bytes c.args.first_char xs c.in-UnicodeStr.is c.requires.begun in
    let one = moved_by (next_one xs 37 asked.1) c.bump-in-UnicodeStr.ensures.moved in
    second one ∙ asked.2

pub dollar-requires : goal.dollar-requires
dollar-requires g c =
    let sign = first_bytes c.args.first_char (rest c.args.self.now) c.in-Dollar.is c.requires.begun in
    record { sign = subst (λ (b : ℕ). Begun b c.args.self.now) sign c.requires.first }

pub returns-in-Line : goal.returns-in-Line
returns-in-Line g c =
    let xs = rest c.args.self.now in
    let asked = first_bytes c.args.first_char xs c.in-Line.is c.requires.begun in
    let one = moved_by (next_one xs 44 asked.1) c.bump.ensures.moved in
    record {
      kind = kind_said c.args.first_char xs c.in-Line.is c.line_comment.ensures.kind;
      moved = moved_on c.args.first_char xs c.in-Line.is (moved_then (run (all_but 10 13)) one c.line_comment.ensures.moved);
    }

pub returns-in-Block : goal.returns-in-Block
returns-in-Block g c =
    let xs = rest c.args.self.now in
    let asked = first_bytes c.args.first_char xs c.in-Block.is c.requires.begun in
    let one = moved_by (next_one xs 41 asked.1) c.bump-in-Block.ensures.moved in
    record {
      kind = kind_said c.args.first_char xs c.in-Block.is (c.block_comment.ensures.kind ∙ ap (λ l. BlockComment (comment_closed 1 l)) (moved_rest one));
      moved = moved_on c.args.first_char xs c.in-Block.is (moved_then (comment 1) one c.block_comment.ensures.moved);
    }

pub returns-in-UnicodeStr : goal.returns-in-UnicodeStr
returns-in-UnicodeStr g c =
    let xs = rest c.args.self.now in
    let asked = first_bytes c.args.first_char xs c.in-UnicodeStr.is c.requires.begun in
    let one = moved_by (next_one xs 37 asked.1) c.bump-in-UnicodeStr.ensures.moved in
    let body = ap (drop 1) (moved_rest one) ∙ drop-drop 1 1 xs in
    let len : 1 + (1 + quoted 39 false (drop 1 (drop 1 xs))) ≡ 2 + quoted 39 false (drop 2 xs) = omega (arith, ap (quoted 39 false) (drop-drop 1 1 xs)) in
    record {
      kind = kind_said c.args.first_char xs c.in-UnicodeStr.is (c.prefixed_string-in-UnicodeStr.ensures.kind ∙ ap (λ l. Literal (UnicodeEscStr (quoted_closed 39 false l))) body);
      moved = moved_on c.args.first_char xs c.in-UnicodeStr.is (moved_by len (moved_then (λ l. 1 + quoted 39 false (drop 1 l)) one c.prefixed_string-in-UnicodeStr.ensures.moved));
    }

pub returns-in-UnicodeIdent : goal.returns-in-UnicodeIdent
returns-in-UnicodeIdent g c =
    let xs = rest c.args.self.now in
    let asked = first_bytes c.args.first_char xs c.in-UnicodeIdent.is c.requires.begun in
    let one = moved_by (next_one xs 37 asked.1) c.bump-in-UnicodeIdent.ensures.moved in
    let quote = second one ∙ asked.2 in
    let two = moved_trans one (moved_by (next_one _ 33 quote) c.bump-in-UnicodeIdent-2.ensures.moved) in
    record {
      kind = kind_said c.args.first_char xs c.in-UnicodeIdent.is (c.quoted_ident.ensures.kind ∙ ap (λ l. QuotedIdent (quoted_closed 34 false l) true) (moved_rest two));
      moved = moved_on c.args.first_char xs c.in-UnicodeIdent.is (moved_then (quoted 34 false) two c.quoted_ident.ensures.moved);
    }

pub returns-in-TwoDots : goal.returns-in-TwoDots
returns-in-TwoDots g c =
    let xs = rest c.args.self.now in
    let asked = first_bytes c.args.first_char xs c.in-TwoDots.is c.requires.begun in
    record {
      kind = kind_said c.args.first_char xs c.in-TwoDots.is refl;
      moved = moved_on c.args.first_char xs c.in-TwoDots.is (moved_by (next_one xs 45 asked.1) c.bump-in-TwoDots.ensures.moved);
    }
