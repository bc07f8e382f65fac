-- To read a text token by token is to go along its cut.
use Rattle.std.proofs.Common.{◌≡◌, ℕ, ◌+◌, ◌<◌, ◌≤◌, List, [], ◌∷◌, ◌++◌, length, take, set, Some, None, Option, sym, refl, ap, ◌∙◌, arith}
use Rattle.lexer.specs.Cut.{cut, lengths}
use Rattle.lexer.specs.AllLaws.{AllLaws}
use Rattle.lexer.specs.Laws.{border}
use Rattle.lexer.specs.Lex.{token_at}
use Rattle.lexer.specs.declared.token.Token.{Token}
use Rattle.std.proofs.lemmas.List.{take_more, take_more_set}
use Rattle.std.proofs.lemmas.Option.{gets, slice_get_within, get_or_from_slice_get}
use Rattle.std.specs.List.{slice_get}

pub some_none : {X : Type 0} (o : Option X) (x : X) → o ≡ Some x → o ≡ None → ⊥
some_none o x p q = let z : ◌≡◌ {A = ℕ} 0 1 = cc in omega arith

pub some_value : {X : Type 0} (o : Option X) (x y : X) → o ≡ Some x → o ≡ Some y → x ≡ y
some_value o x y p q = cc

-- a front of one list, with one item more written after it, is a front of another
pub take_written : {X : Type 0} (xs ys : List X) (i : ℕ) (y : X) → i < length xs → slice_get ys i ≡ Some y → take i xs ≡ take i ys → take (i + 1) (set xs i y) ≡ take (i + 1) ys
take_written xs ys i y room e front =
    take_more_set xs i y room ∙ ap (λ l. l ++ y ∷ []) front ∙ ap (λ z. take i ys ++ z ∷ []) (sym (get_or_from_slice_get ys i y y e)) ∙ sym (take_more ys i y (slice_get_within ys i y e))

lengths_joined : (ts us : List Token) → lengths (ts ++ us) ≡ lengths ts + lengths us
lengths_joined [] us = omega arith
lengths_joined (t ∷ ts) us = let more = lengths_joined ts us in omega arith

lengths_more : (ts : List Token) (i : ℕ) (t : Token) → slice_get ts i ≡ Some t → lengths (take (i + 1) ts) ≡ lengths (take i ts) + t.len
lengths_more ts i t e =
    ap lengths (take_more ts i t (slice_get_within ts i t e) ∙ ap (λ u. take i ts ++ u ∷ []) (get_or_from_slice_get ts i t t e))
    ∙ lengths_joined (take i ts) (t ∷ [])
    ∙ (let one : t.len + 0 ≡ t.len = omega arith in ap (λ n. lengths (take i ts) + n) one)

-- a reading stands at the border after so many tokens of the cut
pub record Reading (bs : List ℕ) (place count : ℕ) : Type 0 where
  pub few : count ≤ place
  pub inside : place ≤ length bs
  pub there : place ≡ border bs count
  pub within : count ≤ length (cut bs)

pub reading_start : (bs : List ℕ) → Reading bs 0 0
reading_start bs = record { few = omega arith; inside = omega arith; there = refl; within = omega arith }

module _ (laws : AllLaws) (bs : List ℕ) (place count : ℕ) (so : Reading bs place count) where
  -- the token at its place is the next of the cut
  pub reading_next : token_at bs place ≡ slice_get (cut bs) count
  reading_next = ap (token_at bs) so.there ∙ laws.reads_cut bs count

  pub reading_more : (t : Token) → token_at bs place ≡ Some t → 0 < t.len → place + t.len ≤ length bs → Reading bs (place + t.len) (count + 1)
  reading_more t e some fits =
      let next = sym reading_next ∙ e in
      let below = slice_get_within (cut bs) count t next in
      let on = lengths_more (cut bs) count t next in
      let few = so.few in
      record { few = omega arith; inside = fits; there = ap (λ n. n + t.len) so.there ∙ sym on; within = omega arith }

  -- where there is no token, the cut is read
  pub reading_all : token_at bs place ≡ None → length (cut bs) ≡ count
  reading_all e =
      let within = so.within in
      let none = sym reading_next ∙ e in
      let beyond : length (cut bs) ≤ count = grind (arith, gets) in
      omega arith
