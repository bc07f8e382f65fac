-- The faults of the program: number, place and layer of each.
use Rattle.std.specs.Prelude.{ℕ}
use Rattle.text.specs.Faults.{text_fault}
use Rattle.text.specs.declared.fault.Fault.{Fault}
use Rattle.text.specs.declared.fault.Layer.TheVariants.{Program}
use Rattle.listing.specs.declared.fault.ProgramFault.{ProgramFault}
use Rattle.listing.specs.declared.fault.ProgramFault.TheVariants.{InText, InputTooLong}

-- the longest input that the program lists has 65,536 bytes
abbrev pub longest_input : ℕ
longest_input = 65536

abbrev pub program_fault : ProgramFault → Fault
program_fault (InText fault) = text_fault fault
program_fault InputTooLong = record { number = 13; place = longest_input; layer = Program }
