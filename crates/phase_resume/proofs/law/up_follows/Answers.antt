-- The law of the way up holds at each point of a log.
use Rattle.phase_resume.proofs.Following.{follows}
use Rattle.phase_resume.proofs.law.up_follows.Goals as goal

pub returns : goal.returns
returns c = follows
