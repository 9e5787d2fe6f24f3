-- The number that falls at each call of `write_texts`.
use Rattle.std.proofs.Common.{length}
use Rattle.apart_log.proofs.text.+write_texts.Given as goal

abbrev pub decreases-write_texts : goal.decreases-write_texts
decreases-write_texts g l = length l.texts.now
