-- What a walk writes, one token more.
use Rattle.std.proofs.Common.{◌≡◌, ℕ, ◌+◌, ◌<◌, List, [], ◌∷◌, ◌++◌, Some, None, Option, sym, refl, ap, ◌∙◌, append_assoc, append-nil, arith}
use Rattle.std.specs.Option.{option_map}
use Rattle.lexer.specs.declared.token.Token.{Token}
use Rattle.statement.specs.declared.Cause.{Cause}
use Rattle.listing.specs.declared.lines.EndLine.{EndLine}
use Rattle.listing.specs.Lines.{end_bytes, total_bytes}
use Rattle.listing.specs.Walk.{Walked, at_front, end_line, end_there, past, lines_of_end, lines_of_token, total_line}
use Rattle.lexer.proofs.Readings.{Reads}
use Rattle.lexer.specs.Cut.{lengths}
use Rattle.lexer.specs.Laws.{NoneEmpty}
use Rattle.lexer.specs.Lex.{token_at}

-- one piece of writing after another
pub written_twice : (before mid after a b c : List ℕ) → mid ≡ before ++ a → after ≡ mid ++ b → b ≡ c → after ≡ before ++ (a ++ c)
written_twice before mid after a b c first second same =
    second ∙ ap (λ l. l ++ b) first ∙ append_assoc before a b ∙ ap (λ l. before ++ (a ++ l)) same

-- the line of an end, where a statement ends
pub lines_of_end_some : (w : Walked) (t : Token) (end : Option Cause) (l : EndLine) → option_map (end_line w t) end ≡ Some l → lines_of_end w t end ≡ end_bytes l
lines_of_end_some w t None l e = let z : ◌≡◌ {A = ℕ} 0 1 = cc in absurd (omega arith)
lines_of_end_some w t (Some cause) l e = let same : end_line w t cause ≡ l = cc in ap end_bytes same

-- a walk over a list of tokens, and the lines that it writes before the total
abbrev pub walked : ℕ → Walked → List Token → Walked
walked size w [] = w
walked size w (t ∷ ts) = walked size (past w t (end_there size w t)) ts

abbrev pub lines_on : ℕ → Walked → List Token → List ℕ
lines_on size w [] = []
lines_on size w (t ∷ ts) = lines_of_token size w t ++ lines_on size (past w t (end_there size w t)) ts

module _ (size : ℕ) where
  pub walked_push : (w : Walked) (ts : List Token) (t : Token) → walked size w (ts ++ t ∷ []) ≡ past (walked size w ts) t (end_there size (walked size w ts) t)
  walked_push w [] t = refl
  walked_push w (u ∷ ts) t = walked_push (past w u (end_there size w u)) ts t

  pub lines_push : (w : Walked) (ts : List Token) (t : Token) → lines_on size w (ts ++ t ∷ []) ≡ lines_on size w ts ++ lines_of_token size (walked size w ts) t
  lines_push w [] t = append-nil (lines_of_token size w t)
  lines_push w (u ∷ ts) t =
      ap (λ l. lines_of_token size w u ++ l) (lines_push (past w u (end_there size w u)) ts t)
      ∙ sym (append_assoc (lines_of_token size w u) (lines_on size (past w u (end_there size w u)) ts) (lines_of_token size (walked size (past w u (end_there size w u)) ts) t))

pub lengths_push : (ts : List Token) (t : Token) → lengths (ts ++ t ∷ []) ≡ lengths ts + t.len
lengths_push [] t = omega arith
lengths_push (u ∷ ts) t = omega (arith, lengths_push ts t)

pub none_empty_push : (ts : List Token) (t : Token) → NoneEmpty ts → 0 < t.len → NoneEmpty (ts ++ t ∷ [])
none_empty_push [] t h p = (p, tt)
none_empty_push (u ∷ ts) t h p = (h.0, none_empty_push ts t h.1 p)

pub place-past : (w : Walked) (t : Token) (end : Option Cause) → (past w t end).place ≡ w.place + t.len
place-past w t None = refl
place-past w t (Some cause) = refl

-- a walk has passed the bytes of its tokens
pub place-walked : (size : ℕ) (w : Walked) (ts : List Token) → (walked size w ts).place ≡ w.place + lengths ts
place-walked size w [] = omega arith
place-walked size w (t ∷ ts) =
    omega (arith, place-walked size (past w t (end_there size w t)) ts, place-past w t (end_there size w t))

pub reads_push : (bs : List ℕ) (place : ℕ) (ts : List Token) (t : Token) → Reads bs place ts → token_at bs (place + lengths ts) ≡ Some t → Reads bs place (ts ++ t ∷ [])
reads_push bs place [] t r there = (ap (token_at bs) (let e : place ≡ place + 0 = omega arith in e) ∙ there, tt)
reads_push bs place (u ∷ ts) t r there =
    (r.0, reads_push bs (place + u.len) ts t r.1 (ap (token_at bs) (let e : place + u.len + lengths ts ≡ place + (u.len + lengths ts) = omega arith in e) ∙ there))

-- a walk has passed some tokens, and their lines are written
pub record Walking (bs : List ℕ) (size : ℕ) (w : Walked) (out : List ℕ) : Type 0 where
  pub tokens : List Token
  pub reads : Reads bs 0 tokens
  pub none_empty : NoneEmpty tokens
  pub walk : w ≡ walked size at_front tokens
  pub lines : out ≡ lines_on size at_front tokens

pub walking_none : (bs : List ℕ) (size : ℕ) → Walking bs size at_front []
walking_none bs size = record { tokens = []; reads = tt; none_empty = tt; walk = refl; lines = refl }

module _ (bs : List ℕ) (size : ℕ) (w : Walked) (out : List ℕ) (so : Walking bs size w out) where
  passed : w.place ≡ lengths so.tokens
  passed = omega (arith, ap (λ u. u.place) so.walk, place-walked size at_front so.tokens)

  pub walking_more : (v : Walked) (more : List ℕ) (t : Token) → token_at bs w.place ≡ Some t → 0 < t.len → v ≡ past w t (end_there size w t) → more ≡ out ++ lines_of_token size w t → Walking bs size v more
  walking_more v more t there some onward written =
      record {
        tokens = so.tokens ++ t ∷ [];
        reads = reads_push bs 0 so.tokens t so.reads (ap (token_at bs) (let e : 0 + lengths so.tokens ≡ w.place = omega (arith, passed) in e) ∙ there);
        none_empty = none_empty_push so.tokens t so.none_empty some;
        walk = onward ∙ ap (λ u. past u t (end_there size u t)) so.walk ∙ sym (walked_push size at_front so.tokens t);
        lines = written ∙ ap (λ l. l ++ lines_of_token size w t) so.lines ∙ ap (λ u. lines_on size at_front so.tokens ++ lines_of_token size u t) so.walk ∙ sym (lines_push size at_front so.tokens t);
      }

  pub walking_cover : w.place ≡ size → lengths so.tokens ≡ size
  walking_cover e = omega (arith, passed)

  pub walking_all : (more : List ℕ) → more ≡ out ++ total_bytes (total_line w) → more ≡ lines_on size at_front so.tokens ++ total_bytes (total_line (walked size at_front so.tokens))
  walking_all more written =
      written ∙ ap (λ l. l ++ total_bytes (total_line w)) so.lines ∙ ap (λ u. lines_on size at_front so.tokens ++ total_bytes (total_line u)) so.walk
