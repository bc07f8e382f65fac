use Rattle.std.proofs.Common.{arith}
use Rattle.std.proofs.lemmas.Grind.{common_steps}
use Rattle.text.proofs.utf8.Utf8Checker.feed.Goals as goal

pub returns : goal.returns
returns c = grind (arith, common_steps)
