-- The faults of a text: number, place and layer of each.
use Rattle.text.specs.Clip.{longest}
use Rattle.text.specs.declared.fault.Fault.{Fault}
use Rattle.text.specs.declared.fault.Layer.TheVariants.{Text}
use Rattle.text.specs.declared.fault.TextFault.{TextFault}
use Rattle.text.specs.declared.fault.TextFault.TheVariants.{TooLong, IllFormed}

-- A text that is too long has its fault at the first byte too many.
abbrev pub text_fault : TextFault → Fault
text_fault TooLong = record { number = 1; place = longest; layer = Text }
text_fault (IllFormed place) = record { number = 2; place = place; layer = Text }
