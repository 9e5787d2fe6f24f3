-- The invariant of the loop of `highest_of`.
use Rattle.std.proofs.Common.{◌≡◌, take}
use Rattle.machine_rounds.specs.TasksOf.{highest}
use Rattle.machine_rounds.proofs.tasks.highest_of.Given as goal

abbrev pub invariant-loop-task : goal.invariant-loop-task
invariant-loop-task l = l.highest ≡ highest l.fn.floor (take l.task-index l.tasks)
