-- The number that falls at each call of `texts_in_row`.
use Rattle.apart_log.proofs.cut.+texts_in_row.Given as goal

abbrev pub decreases-texts_in_row : goal.decreases-texts_in_row
decreases-texts_in_row l = l.halvings
