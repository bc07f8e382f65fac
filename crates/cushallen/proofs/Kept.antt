-- What is kept of a reader whose rest is known, up to a limit.
use Rattle.std.proofs.Common.{◌≡◌, ℕ, ◌+◌, ◌-◌, ◌<◌, ◌≤◌, min, List, [], ◌++◌, length, take, Option, None, Some, sym, ap, ◌∙◌, arith, length-append, length-take}
use Rattle.std.specs.Io.KnownBytes.{Consumes, IsAtEnd}
use Rattle.std.specs.Option.{IfSome}
use Rattle.std.proofs.lemmas.List.{append-nil, append_assoc, take-append-le, take-take, take_all}
use Rattle.std.proofs.Math.Seq.{take-append-add}

-- what is kept is the front of what there was, and below the limit it is all that was read
abbrev pub Kept : ℕ → Option (List ℕ) → Option (List ℕ) → List ℕ → Type 0
Kept limit None now kept = Unit {0}
Kept limit (Some xs) now kept = (kept ≡ take (length kept) xs) × (length kept < limit → Consumes (Some xs) now kept)

-- one read more, cut at the limit
pub kept_more : (limit : ℕ) (old now after : Option (List ℕ)) (kept chunk : List ℕ) (count n : ℕ)
    → Kept limit old now kept → length kept < limit → count ≤ length chunk → Consumes now after (take count chunk) → n ≡ min count (limit - length kept)
    → Kept limit old after (kept ++ take n chunk)
kept_more limit None now after kept chunk count n so below fits read cut = tt
kept_more limit (Some xs) None after kept chunk count n so below fits read cut = absurd (so.1 below)
kept_more limit (Some xs) (Some ys) None kept chunk count n so below fits read cut = absurd read
kept_more limit (Some xs) (Some ys) (Some zs) kept chunk count n so below fits read cut =
    let part = take count chunk in
    let all : xs ≡ kept ++ (part ++ zs) = so.1 below ∙ ap (λ l. kept ++ l) read in
    let longer : length (kept ++ take n chunk) ≡ length kept + n = omega (arith, cut, length-append kept (take n chunk), length-take n chunk) in
    let within : n ≤ length part = omega (arith, cut, length-take count chunk) in
    let front : take n (part ++ zs) ≡ take n chunk = take-append-le n part zs within ∙ take-take n count chunk (omega (arith, cut)) in
    let whole : take (length kept + n) xs ≡ kept ++ take n chunk = ap (λ l. take (length kept + n) l) all ∙ take-append-add kept (part ++ zs) n ∙ ap (λ l. kept ++ l) front in (
      sym (ap (λ k. take k xs) longer ∙ whole),
      λ less. let same : n ≡ count = omega (arith, longer, less, cut) in all ∙ sym (append_assoc kept part zs) ∙ ap (λ k. kept ++ take k chunk ++ zs) (sym same),
    )

-- at the end all that is kept is all that there was
pub kept_end : (limit : ℕ) (old now after : Option (List ℕ)) (kept : List ℕ)
    → Kept limit old now kept → length kept < limit → Consumes now after [] → IsAtEnd after → IfSome old (λ xs. kept ≡ take limit xs)
kept_end limit None now after kept so below read end = tt
kept_end limit (Some xs) None after kept so below read end = absurd (so.1 below)
kept_end limit (Some xs) (Some ys) None kept so below read end = absurd read
kept_end limit (Some xs) (Some ys) (Some zs) kept so below read end =
    let none : ys ≡ [] = read ∙ end in
    let all : xs ≡ kept = so.1 below ∙ ap (λ l. kept ++ l) none ∙ append-nil kept in
    let long : length xs ≡ length kept = ap length all in
    sym all ∙ sym (take_all limit xs (omega arith))

-- at the limit it is as much of it as the limit says
pub kept_full : (limit : ℕ) (old now : Option (List ℕ)) (kept : List ℕ) → Kept limit old now kept → length kept ≡ limit → IfSome old (λ xs. kept ≡ take limit xs)
kept_full limit None now kept so full = tt
kept_full limit (Some xs) now kept so full = so.0 ∙ ap (λ n. take n xs) full
