-- A device of the row that was not met yet has its first count.
use Rattle.std.proofs.Common.{refl}
use Rattle.async_board.proofs.Counting.{lowered_some}
use Rattle.async_board.proofs.counts.lower.Goals as goal

pub lower_at-requires : goal.lower_at-requires
lower_at-requires c = lowered_some c.args.row.now _ _ c.loop-device.device-index _ c.requires.apart c.loop-device-test.true refl c.requires.some c.loop-device.invariant
