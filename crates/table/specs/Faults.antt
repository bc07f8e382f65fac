-- The faults of the table call: number, place and layer of each.
use Rattle.table.specs.declared.fault.TableFault.TheVariants.{InText, TooFewEntries}
use Rattle.table.specs.declared.fault.TableFault.{TableFault}
use Rattle.text.specs.Faults.{text_fault}
use Rattle.text.specs.declared.fault.Fault.{Fault}
use Rattle.text.specs.declared.fault.Layer.TheVariants.{Table}

-- a table with too few entries has its fault at the number of tokens
abbrev pub table_fault : TableFault → Fault
table_fault (InText fault) = text_fault fault
table_fault (TooFewEntries tokens) = record { number = 11; place = tokens; layer = Table }
