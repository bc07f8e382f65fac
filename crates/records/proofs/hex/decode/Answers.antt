-- A pair of digits adds a byte; a digit left over, or a byte that is no digit, leaves no bytes at all.
use Rattle.records.proofs.Digits.{behind, bytes_before, bytes_before_push, decoded_none, decoded_one, decoded_pair}
use Rattle.records.proofs.hex.decode.Goals as goal
use Rattle.records.specs.Hex.{before, decoded}
use Rattle.std.proofs.Common.{Some, vec_items, sym, ap, ◌∙◌, append-nil, rules}

pub returns-in_default-byte_of : goal.returns-in_default-byte_of
returns-in_default-byte_of c =
    let rest = c.loop-rest.rest.now in
    let front = vec_items c.loop-rest.bytes in
    ap (λ b. bytes_before front (before b (decoded (behind rest)))) c.in_default-byte_of.ensures
    ∙ sym (ap (bytes_before front) (decoded_pair rest c.in-len2-up.len_at_least))
    ∙ c.loop-rest.invariant

pub loop-rest-preserved : goal.loop-rest-preserved
loop-rest-preserved c =
    let rest = c.loop-rest.rest.now in
    let front = vec_items c.loop-rest.bytes in
    let more = decoded (behind rest) in
    ap (λ items. bytes_before items more) c.in_ok-push.ensures.items
    ∙ bytes_before_push front c.in-Some.byte more
    ∙ ap (λ b. bytes_before front (before b more)) c.in-Some.ensures
    ∙ sym (ap (bytes_before front) (decoded_pair rest c.in-len2-up.len_at_least))
    ∙ c.loop-rest.invariant

pub returns-then-is_empty : goal.returns-then-is_empty
returns-then-is_empty c =
    let front = vec_items c.loop-rest.bytes in
    ap Some (sym (append-nil front)) ∙ sym (ap (bytes_before front) (decoded_none c.loop-rest.rest.now (search rules))) ∙ c.loop-rest.invariant

pub returns-else-is_empty : goal.returns-else-is_empty
returns-else-is_empty c =
    sym (ap (bytes_before (vec_items c.loop-rest.bytes)) (decoded_one c.loop-rest.rest.now c.in_default.len_below (search rules))) ∙ c.loop-rest.invariant
