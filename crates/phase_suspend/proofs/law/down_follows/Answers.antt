-- The law of the way down holds at each point of a log.
use Rattle.phase_suspend.proofs.Following.{follows}
use Rattle.phase_suspend.proofs.law.down_follows.Goals as goal

pub returns : goal.returns
returns c = follows
