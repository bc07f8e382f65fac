use Rattle.cases.proofs.Standing.{all_stand}
use Rattle.cases.proofs.cases_stand.Goals as goal

pub returns : goal.returns
returns c = all_stand
