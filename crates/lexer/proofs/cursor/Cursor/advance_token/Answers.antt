use Rattle.std.proofs.Common.{◌≡◌, ℕ, ◌+◌, ◌-◌, get_or, sym, ap, ◌∙◌, arith}
use Rattle.lexer.proofs.Moves.{moved_by, moved_rest}
use Rattle.lexer.proofs.Rest.{front, peek_some}
use Rattle.lexer.proofs.cursor.Cursor.advance_token.Given as given
use Rattle.lexer.proofs.cursor.Cursor.advance_token.Goals as goal
use Rattle.lexer.proofs.cursor.Cursor.advance_token.Goals.{After-start_of-start, In-Some}
use Rattle.lexer.specs.Cursor.{Moved, next_len, peek, rest}
use Rattle.lexer.specs.Lex.{kind_of, lex, rest_len, start_with, token_from}
use Rattle.lexer.specs.Start.{start_of}
use Rattle.lexer.specs.declared.token.Token.{Token}
use Rattle.lexer.specs.declared.token.TokenKind.{TokenKind}
use Rattle.std.proofs.lemmas.List.{get_or-drop}

-- the first character was there, so one byte was eaten
one : (g : given.Over) (c : In-Some g) → Moved c.args.self.now c.bump.new.self 1
one g c = moved_by (ap next_len (front (rest c.args.self.now) c.in-Some.first_char c.in-Some.ensures.value)) c.bump.ensures.moved

-- how the token starts, by the bytes that follow its first
begins : (g : given.Over) (c : After-start_of-start g) → c.start_of-start.result ≡ start_with c.in-Some.first_char (rest c.bump.new.self)
begins g c =
    c.start_of-start.ensures ∙ ap (λ n. start_of c.in-Some.first_char n c.second.result) c.first.ensures
    ∙ ap (start_of c.in-Some.first_char (peek 0 (rest c.bump.new.self))) c.second.ensures

-- tokens are equal where their kinds and lengths are
token_is : {k l : TokenKind} {m n : ℕ} → k ≡ l → m ≡ n → ◌≡◌ {A = Token} record { kind = k; len = m } record { kind = l; len = n }
token_is {k = k} {n = n} p q = ap (λ x. record { kind = k; len = x }) q ∙ ap (λ x. record { kind = x; len = n }) p

pub finish-kind-requires-clause-first : goal.finish-kind-requires-clause-first
finish-kind-requires-clause-first g c =
    let b = c.in-Some.first_char in
    let old = c.args.self.now in
    let new = c.bump.new.self in
    let m = one g (goal.at.finish-kind-requires-clause-first g c).In-Some in
    let before : new.place - 1 ≡ old.place + 0 = omega (arith, m.place) in
    record {
      one = omega (arith, m.eaten, c.requires);
      some = omega (arith, m.place);
      byte = ap (λ t. get_or t (new.place - 1) 0) m.text ∙ ap (λ k. get_or old.text k 0) before ∙ sym (get_or-drop old.place old.text 0 0) ∙ sym (peek_some (rest old) 0 b c.in-Some.ensures.value);
    }

pub returns : goal.returns
unfolding lex
returns g c =
    let b = c.in-Some.first_char in
    let m = one g (goal.at.returns g c).In-Some in
    let ys = rest c.bump.new.self in
    let s = begins g (goal.at.returns g c).After-start_of-start in
    let eaten = m.eaten in
    let then = c.finish-kind.ensures.moved.eaten in
    let len = ap (λ x. rest_len x b ys) s in
    let all : c.pos_within_token.result ≡ 1 + rest_len (start_with b ys) b ys = omega (arith, c.requires, c.pos_within_token.ensures, len) in
    token_is (c.finish-kind.ensures.kind ∙ ap (λ x. kind_of x b ys) s) all ∙ ap (lex b) (moved_rest m) ∙ sym (ap token_from (front (rest c.args.self.now) b c.in-Some.ensures.value))
