-- The listing that was made is the one that fills the room.
use Rattle.bridge.proofs.cushallen_listing.Goals as goal
use Rattle.bridge.specs.Fill.{filled}
use Rattle.std.proofs.Common.{length, ap, ◌∙◌, inr}

pub returns-in-Ok : goal.returns-in-Ok
returns-in-Ok c =
    inr record {
      listing = c.in-Ok.listing;
      listed = c.in-Ok.ensures;
      answered = ap length c.text-text.ensures;
      handed = c.fill_front.ensures ∙ ap (λ bytes. filled bytes c.args.out.now) (c.as_bytes.ensures.value ∙ c.text-text.ensures);
    }
