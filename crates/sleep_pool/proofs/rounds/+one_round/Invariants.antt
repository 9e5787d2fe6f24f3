-- The measure by which `+one_round` ends.
use Rattle.std.proofs.Common.{length}
use Rattle.sleep_pool.proofs.rounds.+one_round.Given as goal

abbrev pub decreases-one_round : goal.decreases-one_round
decreases-one_round g l = length l.jobs.now
