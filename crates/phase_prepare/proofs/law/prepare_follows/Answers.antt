-- The law of prepare and complete holds at each point of a log.
use Rattle.phase_prepare.proofs.Following.{follows}
use Rattle.phase_prepare.proofs.law.prepare_follows.Goals as goal

pub returns : goal.returns
returns c = follows
