use Rattle.std.proofs.Common.{refl}
use Rattle.statement.proofs.Depths.{depth_counts, semicolon_ends}
use Rattle.statement.proofs.Places.{ends_stand}
use Rattle.statement.proofs.Ends.new.Goals as goal

pub returns : goal.returns
returns c = record { state = refl; counts = depth_counts; semicolon = semicolon_ends; places = ends_stand }
