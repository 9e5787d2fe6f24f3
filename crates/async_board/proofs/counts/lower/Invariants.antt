-- The devices of the row so far have one less.
use Rattle.std.proofs.Common.{take}
use Rattle.async_board.specs.Counts.{AreLowered}
use Rattle.async_board.proofs.counts.lower.Given as goal

abbrev pub invariant-loop-device : goal.invariant-loop-device
invariant-loop-device l = AreLowered (take l.device-index l.row) l.initial.counts l.counts
