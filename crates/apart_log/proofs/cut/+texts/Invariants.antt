-- The number that falls at each call of `texts`.
use Rattle.std.proofs.Common.{◌+◌, ◌*◌}
use Rattle.apart_log.proofs.cut.+texts.Given as goal

abbrev pub decreases-texts : goal.decreases-texts
decreases-texts g l = 2 * l.halvings

abbrev pub decreases-front : goal.decreases-front
decreases-front g l = 2 * l.less + 1

abbrev pub decreases-back : goal.decreases-back
decreases-back g l = 2 * l.less + 1
