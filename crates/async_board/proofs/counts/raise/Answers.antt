-- A device of the row that was not met yet has its first count.
use Rattle.std.proofs.Common.{refl}
use Rattle.async_board.proofs.Counting.{raised_few}
use Rattle.async_board.proofs.counts.raise.Goals as goal

pub raise_at-requires : goal.raise_at-requires
raise_at-requires c = raised_few c.args.row.now _ _ c.loop-device.device-index _ c.requires.apart c.loop-device-test.true refl c.requires.few c.loop-device.invariant
