-- Derived equality decides whether two tokens are equal.
use Rattle.std.proofs.Common.{◌≡◌, ℕ, Bool, true, false, ◌↔◌, IsTrue, List, [], ◌∷◌, ap, refl, sym, subst, ◌∙◌, ◌==◌, rules}
use Rattle.std.proofs.lemmas.Bool.{and_parts, eqb-true, false≢true}
use Rattle.lexer.specs.declared.token.LiteralKind.{LiteralKind}
use Rattle.lexer.specs.declared.token.TokenKind.{TokenKind}
use Rattle.lexer.specs.declared.token.Token.{Token}
use Rattle.lexer.specs.contracts.token.TokenKind as token_kind
use Rattle.lexer.specs.contracts.token.LiteralKindPartialEq.TheImpl as literal_kind
use Rattle.lexer.specs.contracts.token.TokenKindPartialEq.TheImpl as kind
use Rattle.lexer.specs.contracts.token.TokenEq.TheImpl.Laws as laws
use Rattle.table.specs.Same.{same}
use denote.Enum.Compared.{Each, by}
use denote.Enum.Declared.{Choice}
use denote.Struct.Field.{Field}
use denote.Struct.Values.{Values}
use mathlib.Core.Logic.{inl, inr}

-- in each variant the fields are compared by a test that tells their equality
abbrev Told : (Fss : List (List Field)) → Each Bool Fss → Type 0
Told [] each = Unit {0}
Told (Fs ∷ Fss) each = ((x y : Values Fs) → each.0 x y ≡ true → x ≡ y) × Told Fss each.1

same_choice : (Fss : List (List Field)) (each : Each Bool Fss) (c d : Choice Fss) → by false false Fss each c d ≡ true → Told Fss each → c ≡ d
same_choice [] each c d h told = absurd c
same_choice (Fs ∷ Fss) each (inl x) (inl y) h told = ap inl (told.0 x y h)
same_choice (Fs ∷ Fss) each (inl x) (inr d) h told = absurd (false≢true h)
same_choice (Fs ∷ Fss) each (inr c) (inl y) h told = absurd (false≢true h)
same_choice (Fs ∷ Fss) each (inr c) (inr d) h told = ap inr (same_choice Fss each.1 c d h told.1)

literals : (a b : LiteralKind) → (literal_kind.ghosts).eq a b ≡ true → a ≡ b
literals a b h = search rules

-- no fields, one or two
alone : (x y : Unit {0}) → true ≡ true → x ≡ y
alone x y h = refl

pub kinds : (a b : TokenKind) → (kind.ghosts).eq a b ≡ true → a ≡ b
kinds a b h =
    let chosen : token_kind.as_values a ≡ token_kind.as_values b =
    same_choice token_kind.the_parts _ (token_kind.as_values a) (token_kind.as_values b) h (
      alone,
      (
        (λ x y h. ap (λ k. (k, tt)) (literals x.0 y.0 h)),
        (
          alone,
          (
            alone,
            (
              (λ x y h. search rules),
              (
                alone,
                (
                  alone,
                  (
                    alone,
                    (
                      alone,
                      (
                        (λ x y h. search rules),
                        (
                          alone,
                          (
                            alone,
                            (
                              alone,
                              (
                                alone,
                                (
                                  alone,
                                  (
                                    alone,
                                    (
                                      alone,
                                      (
                                        alone,
                                        (
                                          alone,
                                          (
                                            alone,
                                            (
                                              alone,
                                              (
                                                alone,
                                                (
                                                  alone,
                                                  (
                                                    alone,
                                                    (
                                                      alone,
                                                      (
                                                        alone,
                                                        (
                                                          alone,
                                                          (
                                                            alone,
                                                            (
                                                              alone,
                                                              (
                                                                alone,
                                                                (
                                                                  alone,
                                                                  (
                                                                    alone,
                                                                    (
                                                                      alone,
                                                                      (
                                                                        alone,
                                                                        (
                                                                          alone,
                                                                          (alone, ((λ x y h. search rules), ((λ x y h. search rules), tt))),
                                                                        ),
                                                                      ),
                                                                    ),
                                                                  ),
                                                                ),
                                                              ),
                                                            ),
                                                          ),
                                                        ),
                                                      ),
                                                    ),
                                                  ),
                                                ),
                                              ),
                                            ),
                                          ),
                                        ),
                                      ),
                                    ),
                                  ),
                                ),
                              ),
                            ),
                          ),
                        ),
                      ),
                    ),
                  ),
                ),
              ),
            ),
          ),
        ),
      ),
    ) in
    sym (token_kind.the_eta a)
    ∙ ap token_kind.the_make {x = token_kind.as_values a} {y = token_kind.as_values b} chosen
    ∙ token_kind.the_eta b

tokens : (a b : Token) → same a b ≡ true → a ≡ b
unfolding same
tokens a b h =
    let both = and_parts ((kind.ghosts).eq a.kind b.kind) (a.len == b.len) h in
    let with : TokenKind → ℕ → Token = λ k n. record { kind = k; len = n } in
    ap (λ k. with k a.len) (kinds a.kind b.kind both.0) ∙ ap (with b.kind) (eqb-true a.len b.len both.1)

itself : (a : Token) → same a a ≡ true
unfolding same
itself a = (laws.laws-law).refl a

pub same_decides : (a b : Token) → IsTrue (same a b) ↔ (a ≡ b)
same_decides a b = (tokens a b, (λ e. subst (λ t. same a t ≡ true) e (itself a)))
