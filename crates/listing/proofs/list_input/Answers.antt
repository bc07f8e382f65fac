use Rattle.std.proofs.Common.{sym, subst}
use Rattle.std.proofs.lemmas.Result.{IfOk-weaker}
use Rattle.std.specs.Result.{IfOk}
use Rattle.listing.specs.Listed.{Answers}
use Rattle.text.specs.Clip.{clip}
use Rattle.listing.proofs.Inputs.{answers_unclipped}
use Rattle.listing.proofs.list_input.Goals as goal

pub returns : goal.returns
returns c =
    let input = c.args.input.now in
    let found = c.admit.result in
    let as_found = sym c.admit.ensures in
    let clipped = subst (λ bs. IfOk c.list_admitted.result (Answers (clip bs) found)) c.new.ensures.run c.list_admitted.ensures in
    subst (λ a. IfOk c.list_admitted.result (Answers input a)) c.admit.ensures
    (IfOk-weaker c.list_admitted.result (Answers (clip input) found) (Answers input found) (λ l. answers_unclipped input found l as_found) clipped)
