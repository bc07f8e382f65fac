-- What is found from each place on is what is found from the start.
use Rattle.std.proofs.Common.{◌-◌, sym, ap, ◌∙◌, arith}
use Rattle.std.proofs.lemmas.Option.{slice_get_within}
use Rattle.text.specs.Checker.{progress}
use Rattle.text.proofs.Found.{taken_more, taken_ill, found_ill, found_more, found_end, found_sound}
use Rattle.text.proofs.fit.sound_len.Goals as goal
use Rattle.text.proofs.fit.sound_len.Goals.{in-Some+then-is_ill, in_default}

pub overflow_add-place : goal.overflow_add-place
overflow_add-place g c =
    let within = slice_get_within (g.T.Text.bytes c.args.text.now) c.loop-byte.place c.in-Some.byte (sym c.in-Some.ensures) in
    let short = g.met.T.Text.short c.args.text.now in
    omega arith

pub loop-byte-smaller : goal.loop-byte-smaller
loop-byte-smaller g c =
    let within = slice_get_within (g.T.Text.bytes c.args.text.now) c.loop-byte.place c.in-Some.byte (sym c.in-Some.ensures) in
    omega arith

pub loop-byte-preserved : goal.loop-byte-preserved
loop-byte-preserved g c =
    let xs = g.T.Text.bytes c.args.text.now in
    let p = progress c.loop-byte.checker in
    let q = progress c.feed.new.self in
    let i = c.loop-byte.place in
    let within = slice_get_within xs i c.in-Some.byte (sym c.in-Some.ensures) in
    let taken = taken_more p q c.in-Some.byte c.feed.ensures in
    let more = found_more p q xs i c.in-Some.byte (sym c.in-Some.ensures) c.feed.ensures (sym c.if-is_ill.ensures) in
    (omega arith, omega arith, sym more ∙ c.loop-byte.invariant.2)

pub overflow_sub-result : goal.overflow_sub-result
overflow_sub-result g c =
    elim c.match-byte.branch [
      | in-Some+then-is_ill w ↦
          let same = taken_ill (progress c.loop-byte.checker) (progress w.feed.new.self) w.in-Some.byte w.feed.ensures (sym w.if-is_ill.ensures) in
          grind (arith, ap progress w.checker-is)
      | in_default w ↦ grind (arith, ap progress w.checker-is)
    ]

pub returns : goal.returns
returns g c =
    let xs = g.T.Text.bytes c.args.text.now in
    let p = progress c.loop-byte.checker in
    let i = c.loop-byte.place in
    elim c.match-byte.branch [
      | in-Some+then-is_ill w ↦
          let q = progress w.feed.new.self in
          let found = found_ill p q xs i w.in-Some.byte (sym w.in-Some.ensures) w.feed.ensures (sym w.if-is_ill.ensures) in
          ap (λ n. i - n) (c.taken.ensures ∙ ap (λ k. (progress k).taken) w.checker-is) ∙ sym found ∙ c.loop-byte.invariant.2 ∙ found_sound xs
      | in_default w ↦
          ap (λ n. i - n) (c.taken.ensures ∙ ap (λ k. (progress k).taken) w.checker-is) ∙ sym (found_end p xs i (sym w.in_default.ensures)) ∙ c.loop-byte.invariant.2 ∙ found_sound xs
    ]
