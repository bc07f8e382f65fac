-- A new checker stands between two sequences, and every run from there is told by the table.
use Rattle.std.proofs.Common.{refl}
use Rattle.text.proofs.Runs.{runs_by_table}
use Rattle.text.proofs.utf8.Utf8Checker.new.Goals as goal

pub returns : goal.returns
returns c = record { start = refl; runs = runs_by_table }
