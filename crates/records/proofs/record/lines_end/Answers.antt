-- A byte 10 where a line starts is an empty line; any other byte belongs to the lines before it.
use Rattle.std.proofs.Common.{◌≡◌, ◌<◌, false, ◌&&◌, eqb, length, get_or, ap, ◌∙◌, arith, eq-eqb, ne_eqb}
use Rattle.records.proofs.Lines.{lines_length_empty, lines_length_more, lines_length_past, place_in-past, place_in-within}
use Rattle.records.proofs.record.lines_end.Goals as goal
use Rattle.std.proofs.Math.Bool.{and-false}
use Rattle.records.proofs.record.lines_end.Goals.{else-starts-via-else-starts, else-starts-via-then-starts+else-byte-eq10}

pub returns-then-byte-eq10 : goal.returns-then-byte-eq10
returns-then-byte-eq10 c =
    let bytes = c.args.bytes.now in
    let within : c.loop-place.place < length bytes = omega arith in
    let line_end = eq-eqb _ _ c.if-byte-eq10.true in
    let empty = lines_length_empty c.loop-place.starts bytes c.loop-place.place within (simp (c.if-starts.true, line_end)) in
    place_in-within bytes _ c.loop-place.place (omega (arith, c.loop-place.invariant)) within

pub loop-place-preserved : goal.loop-place-preserved
loop-place-preserved c =
    let bytes = c.args.bytes.now in
    let starts = c.loop-place.starts in
    let line_end = eqb (get_or bytes c.loop-place.place 0) 10 in
    let within : c.loop-place.place < length bytes = omega arith in
    let on : (starts && line_end) ≡ false = elim c.else-starts.branch [
      | else-starts-via-then-starts+else-byte-eq10 w ↦ ap (λ t. starts && t) (ne_eqb _ _ w.if-byte-eq10.false) ∙ and-false starts
      | else-starts-via-else-starts w ↦ ap (λ t. t && line_end) w.if-starts.false
    ] in
    let more = lines_length_more starts bytes c.loop-place.place within on in
    omega (arith, c.loop-place.invariant)

pub returns : goal.returns
returns c =
    let bytes = c.args.bytes.now in
    let past = lines_length_past c.loop-place.starts bytes c.loop-place.place (omega arith) in
    place_in-past bytes _ (omega (arith, c.loop-place.invariant))
