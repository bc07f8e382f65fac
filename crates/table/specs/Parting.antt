-- Where two lists of tokens part.
use Rattle.std.specs.Prelude.{◌≡◌, ℕ, ◌+◌, if◌then◌else◌, List, [], ◌∷◌, take, Some, None, Option, ◌≢◌}
use Rattle.lexer.specs.declared.token.Token.{Token}
use Rattle.std.specs.List.{slice_get}
use Rattle.table.specs.Same.{same}

-- the first index where two lists part, of which the first entries have the index given: entries differ there, or one
-- list has an entry and the other none
unfoldable pub parting_from : ℕ → List Token → List Token → Option ℕ
parting_from index [] [] = None
parting_from index [] (u ∷ us) = Some index
parting_from index (t ∷ ts) [] = Some index
parting_from index (t ∷ ts) (u ∷ us) =
    if same t u then parting_from (index + 1) ts us
    else Some index

abbrev pub parting : List Token → List Token → Option ℕ
parting ts us = parting_from 0 ts us

-- so none means that the lists are equal, and an index that they are equal before it and not at it
abbrev pub Tells : List Token → List Token → Option ℕ → Type 0
Tells ts us None = ts ≡ us
Tells ts us (Some index) =
    (take index ts ≡ take index us) × (slice_get ts index ≢ slice_get us index)
