-- An input that is not too long is a flat text as it stands.
use Rattle.std.proofs.Common.{◌≡◌, ℕ, ◌≤◌, true, false, if◌then◌else◌, ltb, List, length, Ok, Err, Result, refl, ap, ◌∙◌, arith}
use Rattle.std.proofs.lemmas.List.{take_all}
use Rattle.std.proofs.lemmas.Bool.{le-ltb, ltb-false}
use Rattle.lexer.specs.Cut.{cut}
use Rattle.text.specs.Clip.{clip}
use Rattle.text.specs.Fit.{checked}
use Rattle.listing.specs.declared.Listing.{Listing}
use Rattle.listing.specs.declared.Listing.TheVariants.{Listed, Refused}
use Rattle.listing.specs.declared.fault.ProgramFault.{ProgramFault}
use Rattle.listing.specs.declared.fault.ProgramFault.TheVariants.{InputTooLong}
use Rattle.listing.specs.Faults.{longest_input}
use Rattle.listing.specs.Listed.{Answers, admitted, in_text, listed}

pub clip_all : (bs : List ℕ) → length bs ≤ longest_input → clip bs ≡ bs
unfolding clip
clip_all bs h = take_all 16777217 bs (omega arith)

pub admitted_short : (bs : List ℕ) → length bs ≤ longest_input → admitted bs ≡ in_text (checked bs)
admitted_short bs h = ap (λ b. if b then Err InputTooLong else in_text (checked bs)) (le-ltb longest_input (length bs) h)

-- what is admitted is not too long
pub short_from_admitted : (bs : List ℕ) → admitted bs ≡ Ok tt → length bs ≤ longest_input
short_from_admitted bs e =
    (elim (ltb longest_input (length bs)) as (λ b. ltb longest_input (length bs) ≡ b → (if b then Err InputTooLong else in_text (checked bs)) ≡ Ok tt → length bs ≤ longest_input) [
      | true ↦ λ q x. let z : ◌≡◌ {A = ℕ} 0 1 = cc in absurd (omega arith)
      | false ↦ λ q x. ltb-false longest_input (length bs) q
    ]) refl e

-- so the listing of the clipped input is the input's: a refusal tells nothing of the bytes
pub answers_unclipped : (bs : List ℕ) (found : Result (Unit {0}) ProgramFault) (l : Listing) → admitted bs ≡ found → Answers (clip bs) found l → Answers bs found l
answers_unclipped bs (Ok tt) (Listed lines) e h = h ∙ ap (λ xs. listed (cut xs)) (clip_all bs (short_from_admitted bs e))
answers_unclipped bs (Ok tt) (Refused line) e h = h
answers_unclipped bs (Err fault) (Listed lines) e h = h
answers_unclipped bs (Err fault) (Refused line) e h = h
