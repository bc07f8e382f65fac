use Rattle.std.proofs.Common.{◌≡◌, ◌+◌, ◌-◌, ◌∷◌, length, take, drop, sym, ap, ◌∙◌, arith}
use Rattle.lexer.proofs.Moves.{moved_by, moved_trans}
use Rattle.lexer.proofs.Dollars.{opener_bytes, opener_moved, opener_within}
use Rattle.lexer.proofs.cursor.Cursor.dollar_quoted_string.Goals as goal
use Rattle.lexer.specs.Cursor.{rest}
use Rattle.lexer.specs.Dollar.{delimited_extent, dollar_delimiter, dollar_opener}
use Rattle.lexer.specs.Extent.{Extent}
use Rattle.lexer.specs.Piece.{part}
use Rattle.std.proofs.lemmas.List.{drop-drop, length-drop}

pub invariant_of-delimiter : goal.invariant_of-delimiter
invariant_of-delimiter g c =
    let self = c.args.self.now in
    let opened = opener_moved c.requires.opens c.eat_while.ensures c.bump.ensures.moved in
    let place = opened.place in
    let same = ap length (c.text.ensures ∙ opened.text) in
    let room = opener_within (rest self) c.requires.opens in
    let left = length-drop self.place self.text in
    record { inside = omega arith }

pub dollar_end-requires : goal.dollar_end-requires
dollar_end-requires g c =
    let self = c.args.self.now in
    let opened = opener_moved c.requires.opens c.eat_while.ensures c.bump.ensures.moved in
    let place = opened.place in
    let same = ap length (c.text-2.ensures ∙ opened.text) in
    let room = opener_within (rest self) c.requires.opens in
    let left = length-drop self.place self.text in
    omega arith

pub returns : goal.returns
returns g c =
    let self = c.args.self.now in
    let bs = self.text in
    let xs = rest self in
    let n = dollar_opener xs in
    let opened = opener_moved c.requires.opens c.eat_while.ensures c.bump.ensures.moved in
    let place = opened.place in
    let from = c.place-opener.result - 1 in
    let len = c.place.result - from in
    let sign = c.requires.sign in
    let at : from ≡ self.place - 1 = omega (arith, sign.some) in
    let long : len ≡ n + 1 = omega arith in
    let delimiter : part from len (g.T.Text.bytes c.text.result.now) ≡ dollar_delimiter xs = ap (part from len) (c.text.ensures ∙ opened.text) ∙ ap (λ k. part from k bs) long ∙ ap (λ k. part k (n + 1) bs) at ∙ opener_bytes bs (self.place - 1) n sign.byte ∙ ap (λ k. 36 ∷ take n (drop k bs)) (omega (arith, sign.some)) in
    let body : drop c.place-2.result (g.T.Text.bytes c.text-2.result.now) ≡ drop n xs = ap (drop c.place-2.result) (c.text-2.ensures ∙ opened.text) ∙ ap (λ k. drop k bs) (omega arith) ∙ sym (drop-drop n self.place bs) in
    let end = c.dollar_end.ensures.end in
    let found = ap (λ l. delimited_extent l (drop c.place-2.result (g.T.Text.bytes c.text-2.result.now))) delimiter ∙ ap (delimited_extent (dollar_delimiter xs)) body in
    let reach = ap (λ (e : Extent). e.len) found in
    let moved = c.pass.ensures.moved in
    record {
      closed = c.pass.ensures.closed ∙ c.dollar_end.ensures.closed ∙ ap (λ (e : Extent). e.closed) found;
      moved = moved_by (omega arith) (moved_trans opened moved);
    }
