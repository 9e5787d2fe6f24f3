-- The measure by which `+part_rounds` ends.
use Rattle.sleep_pool.proofs.rounds.+part_rounds.Given as goal

abbrev pub decreases-part_rounds : goal.decreases-part_rounds
decreases-part_rounds g l = l.most
