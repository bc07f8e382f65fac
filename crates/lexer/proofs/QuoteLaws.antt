-- Strings, quoted names and dollar-quoted strings end where the laws say.
use Rattle.std.proofs.Common.{◌≡◌, ℕ, ◌+◌, ◌≤◌, Bool, true, false, List, ◌++◌, length, drop, Some, sym, ap, ◌∙◌, subst, arith}
use Rattle.lexer.proofs.Bodies.{closed_splits, closes_closed, closes_once, open_runs}
use Rattle.lexer.proofs.Delimiters.{delimited_runs, delimited_splits, delimiter_is, opener_length, opener_split, tag_of, tag_stands}
use Rattle.lexer.proofs.Found.{dollar_found, quoted_found}
use Rattle.lexer.proofs.Openers.{DollarFront, Front, QuotedFront, quoting_front, token_front}
use Rattle.lexer.specs.Dollar.{delimited, delimited_closed, dollar_opener}
use Rattle.lexer.specs.Lex.{token_at}
use Rattle.lexer.specs.QuoteLaws.{Closes, DollarCloses, DollarRuns, QuoteLaws, QuotedCloses, QuotedOpens, QuotedRuns, Quoting, Tag, delimiter}
use Rattle.lexer.specs.Quoted.{quoted, quoted_closed}
use Rattle.lexer.specs.declared.token.LiteralKind.TheVariants.{DollarQuotedString}
use Rattle.lexer.specs.declared.token.Token.{Token}
use Rattle.lexer.specs.declared.token.TokenKind.TheVariants.{Literal}
use Rattle.std.proofs.lemmas.List.{drop-drop, length-append, length-drop, length-map, length-take}
use borrow.Author.Tests.{clash}

module _ (bs : List ℕ) (place : ℕ) (t : Token) (opener : List ℕ) (q : ℕ) (e c : Bool) (at : token_at bs place ≡ Some t)
    (kind : Quoting t.kind opener q e c) where
  quoted_front : QuotedFront opener q e c (drop place bs) t.len
  quoted_front = quoting_front kind (drop place bs) t.len (token_front bs place t at)

  -- what follows the opener
  past_opener : drop (length opener) (drop place bs) ≡ drop (place + length opener) bs
  past_opener = drop-drop (length opener) place bs

  opener_closed : quoted_closed q e (drop (place + length opener) bs) ≡ c
  opener_closed = ap (quoted_closed q e) (sym past_opener) ∙ sym quoted_front.closed

  opener_reach : t.len ≡ length opener + quoted q e (drop (place + length opener) bs)
  opener_reach = quoted_front.reach ∙ ap (λ l. length opener + quoted q e l) past_opener

  opener_inside : place + length opener ≤ length bs
  opener_inside =
      let some = quoted_front.some in
      let same = simp (length-map, length-take, length-drop) at (ap length quoted_front.opens) in
      omega arith

pub quoted_opens : QuotedOpens
quoted_opens bs place t opener quote escapes terminated at kind =
    (quoted_front bs place t opener quote escapes terminated at kind).opens

pub quoted_closes : QuotedCloses
quoted_closes bs place t opener quote escapes at kind =
    let xs = drop (place + length opener) bs in
    let split = closed_splits quote escapes xs (opener_closed bs place t opener quote escapes true at kind) in
    let apart = (quoted_front bs place t opener quote escapes true at kind).apart in
    let reach = opener_reach bs place t opener quote escapes true at kind in
    let body = split.3 in
    let once = λ (b r : List ℕ) (other : Closes quote escapes xs b r).
    closes_once quote escapes apart xs b r split.0 split.1 other split.2 in
    (split.0, split.1, split.2, omega arith, once)

pub quoted_runs : QuotedRuns
quoted_runs bs place t opener quote escapes at kind =
    let xs = drop (place + length opener) bs in
    let unclosed = opener_closed bs place t opener quote escapes false at kind in
    let apart = (quoted_front bs place t opener quote escapes false at kind).apart in
    let reach = opener_reach bs place t opener quote escapes false at kind in
    let inside = opener_inside bs place t opener quote escapes false at kind in
    let all = open_runs quote escapes xs unclosed in
    let left = length-drop (place + length opener) bs in
    (λ b r c. clash (sym unclosed ∙ closes_closed quote escapes apart xs b r c), omega arith)

module _ (bs : List ℕ) (place : ℕ) (t : Token) (c : Bool) (at : token_at bs place ≡ Some t)
    (kind : t.kind ≡ Literal (DollarQuotedString c)) where
  dollar_front : DollarFront c (drop place bs) t.len
  dollar_front = subst (λ k. Front k (drop place bs) t.len) kind (token_front bs place t at)

  -- what follows the first `$`, the tag, and what follows the opening delimiter
  abbrev sign_on : List ℕ
  sign_on = dollar_front.after

  abbrev front_tag : List ℕ
  front_tag = tag_of sign_on dollar_front.opens

  abbrev opened : List ℕ
  opened = drop (dollar_opener sign_on) sign_on

  dollar_split : drop place bs ≡ delimiter front_tag ++ opened
  dollar_split = dollar_front.sign ∙ opener_split sign_on dollar_front.opens

  dollar_tag : Tag front_tag
  dollar_tag = tag_stands sign_on dollar_front.opens

  dollar_closed_so : delimited_closed (delimiter front_tag) opened ≡ c
  dollar_closed_so =
      ap (λ d. delimited_closed d opened) (sym (delimiter_is sign_on dollar_front.opens)) ∙ sym dollar_front.closed

  dollar_reach : t.len ≡ length (delimiter front_tag) + delimited (delimiter front_tag) opened
  dollar_reach =
      let reach =
      dollar_front.reach
      ∙ ap (λ d. 1 + (dollar_opener sign_on + delimited d opened)) (delimiter_is sign_on dollar_front.opens) in
      let long = opener_length sign_on dollar_front.opens in
      omega arith

pub dollar_closes : DollarCloses
dollar_closes bs place t at kind =
    let tag = front_tag bs place t true at kind in
    let xs = opened bs place t true at kind in
    let split = delimited_splits (delimiter tag) xs (dollar_closed_so bs place t true at kind) in
    let reach = dollar_reach bs place t true at kind in
    let body = split.3 in (
      tag,
      split.0,
      split.1,
      dollar_tag bs place t true at kind,
      dollar_split bs place t true at kind ∙ ap (λ l. delimiter tag ++ l) split.2,
      omega arith,
      λ front back e. split.4 front back (split.2 ∙ e),
    )

pub dollar_runs : DollarRuns
dollar_runs bs place t at kind =
    let tag = front_tag bs place t false at kind in
    let xs = opened bs place t false at kind in
    let none = delimited_runs (delimiter tag) (omega arith) xs (dollar_closed_so bs place t false at kind) in
    let reach = dollar_reach bs place t false at kind in
    let all = none.0 in
    let whole = ap length (dollar_split bs place t false at kind) ∙ length-append (delimiter tag) xs in
    let left = length-drop place bs in
    (tag, xs, dollar_tag bs place t false at kind, dollar_split bs place t false at kind, none.1, omega arith)

pub quote_laws : QuoteLaws
quote_laws =
    assumption (quoted_opens, quoted_found, quoted_closes, quoted_runs, dollar_found, dollar_closes, dollar_runs)
