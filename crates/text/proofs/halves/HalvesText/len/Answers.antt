-- The lengths of the halves add up, and fit 32 bits.
use Rattle.std.proofs.Common.{rules}
use Rattle.text.proofs.Clipped.{length-clip}
use Rattle.text.proofs.halves.HalvesText.len.Goals as goal

pub overflow_add-result : goal.overflow_add-result
overflow_add-result c = search (rules, length-clip)
