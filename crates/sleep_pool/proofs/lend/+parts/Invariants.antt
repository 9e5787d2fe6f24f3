-- The measure by which `+parts` ends.
use Rattle.std.proofs.Common.{◌+◌, ◌-◌, ◌*◌, length}
use Rattle.sleep_pool.proofs.lend.+parts.Given as goal

abbrev pub decreases-parts : goal.decreases-parts
decreases-parts g l = 4 * length l.jobs.now

abbrev pub decreases-both : goal.decreases-both
decreases-both g l = 4 * (length l.front.now + length l.back.now) - 1

abbrev pub decreases-both-left : goal.decreases-both-left
decreases-both-left g l = 4 * length l.front.now + 1

abbrev pub decreases-both-right : goal.decreases-both-right
decreases-both-right g l = 4 * length l.back.now + 1
