-- The invariant of the loop of `slotted`.
use Rattle.std.proofs.Common.{◌≡◌, map, Some}
use Rattle.turn_lock.proofs.opening.slotted.Given as goal

abbrev pub invariant-loop-value : goal.invariant-loop-value
invariant-loop-value g l = l.slots.items ≡ map (λ (y : g.row.V.Denot). Some y) l.yielded
