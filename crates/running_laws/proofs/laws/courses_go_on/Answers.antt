-- The law `courses_go_on`, by the lemmas of `GoingOn`.
use Rattle.running_laws.proofs.laws.courses_go_on.Goals as goal
use Rattle.running_laws.proofs.GoingOn.{courses_go_on}

pub returns : goal.returns
returns c = courses_go_on
