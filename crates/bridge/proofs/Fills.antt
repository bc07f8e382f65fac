-- Filling a room with the shorter of two lengths.
use Rattle.std.proofs.Common.{◌≡◌, ℕ, min, List, ◌++◌, length, take, drop, sym, ap, ◌∙◌, ⊎_elim, arith}
use Rattle.bridge.specs.Fill.{filled}
use Rattle.std.proofs.lemmas.List.{take_all, drop_all}
use Rattle.std.proofs.lemmas.Bool.{cases_lt}

pub filled_by_shorter : (bytes room : List ℕ) (n : ℕ) → n ≡ min (length bytes) (length room) → take n bytes ++ drop n room ≡ filled bytes room
filled_by_shorter bytes room n e =
    ⊎_elim
    (λ short. let all : n ≡ length bytes = omega arith in ap (λ k. take k bytes ++ drop k room) all ∙ ap (λ front. front ++ drop (length bytes) room) (take_all (length bytes) bytes (omega arith) ∙ sym (take_all (length room) bytes (omega arith))))
    (λ long. let all : n ≡ length room = omega arith in ap (λ k. take k bytes ++ drop k room) all ∙ ap (λ rest. take (length room) bytes ++ rest) (drop_all (length room) room (omega arith) ∙ sym (drop_all (length bytes) room long)))
    (cases_lt (length bytes) (length room))
