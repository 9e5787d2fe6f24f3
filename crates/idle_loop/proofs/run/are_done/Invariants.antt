-- The invariant of the loop of `are_done`.
use Rattle.std.proofs.Common.{take}
use Rattle.idle_loop.specs.Ends.{AreDone}
use Rattle.idle_loop.proofs.run.are_done.Given as goal

abbrev pub invariant-loop-role : goal.invariant-loop-role
invariant-loop-role l = AreDone l.sizes (take l.role-index l.roles)
