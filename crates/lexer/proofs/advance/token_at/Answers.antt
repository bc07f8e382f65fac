use Rattle.std.proofs.Common.{◌<◌, ◌&&◌, eqb, length, sym, refl, ap, ◌∙◌, subst, arith, rules, eqb-true}
use Rattle.lexer.proofs.AllLaws.{all_laws}
use Rattle.lexer.proofs.Rest.{within}
use Rattle.lexer.proofs.Within.{Stands, token_stands}
use Rattle.lexer.proofs.advance.token_at.Goals as goal
use Rattle.lexer.specs.Cursor.{peek, rest}
use Rattle.lexer.specs.Lex.{token_from}
use Rattle.lexer.specs.declared.token.Token.{Token}
use Rattle.std.proofs.lemmas.Bool.{and_parts}

pub returns-then-starts_with_mark : goal.returns-then-starts_with_mark
returns-then-starts_with_mark g c =
    let xs = g.T.Text.bytes c.args.text.now in
    let marks = and_parts (eqb (peek 0 xs) 239) (eqb (peek 1 xs) 187 && eqb (peek 2 xs) 191) (sym c.if-starts_with_mark.ensures) in
    let last = and_parts (eqb (peek 1 xs) 187) (eqb (peek 2 xs) 191) marks.1 in
    let three = within xs 2 190 (eqb-true (peek 2 xs) 191 last.1) in
    record { value = search rules; inside = (omega arith, omega arith); laws = all_laws; real = refl }

pub returns : goal.returns
returns g c =
    let xs = g.T.Text.bytes c.args.text.now in
    let h : c.args.place < length xs = omega arith in
    let is = c.advance_token.ensures ∙ ap (λ s. token_from (rest s)) c.new.ensures in
    let stands = subst (λ (t : Token). Stands xs c.args.place t) (sym is) (token_stands xs c.args.place h) in
    record { value = search rules; inside = stands.inside; laws = all_laws; real = stands.real }

pub returns-then-place-len : goal.returns-then-place-len
returns-then-place-len g c = record { value = search rules; inside = search rules; laws = all_laws; real = tt }
