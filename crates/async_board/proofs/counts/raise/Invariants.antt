-- The devices of the row so far have one more.
use Rattle.std.proofs.Common.{take}
use Rattle.async_board.specs.Counts.{AreRaised}
use Rattle.async_board.proofs.counts.raise.Given as goal

abbrev pub invariant-loop-device : goal.invariant-loop-device
invariant-loop-device l = AreRaised (take l.device-index l.row) l.initial.counts l.counts
