use Rattle.std.proofs.Common.{sym, ap, ◌∙◌}
use Rattle.text.specs.Fit.{checked}
use Rattle.listing.specs.Listed.{in_text}
use Rattle.listing.proofs.Inputs.{clip_all, admitted_short}
use Rattle.listing.proofs.admit.Goals as goal

pub returns : goal.returns
returns c =
    let input = c.args.input.now in
    let short = c.if-input.false in
    c.admit_text.ensures
    ∙ ap (λ l. in_text (checked l)) (c.new.ensures.bytes ∙ clip_all input short)
    ∙ sym (admitted_short input short)
