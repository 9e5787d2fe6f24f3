-- The invariant of the loop of `push_jobs`.
use Rattle.std.proofs.Common.{◌≡◌, ◌++◌, map}
use Rattle.machine_rounds.specs.TasksOf.{acts}
use Rattle.machine_rounds.proofs.tasks.push_jobs.Given as goal

abbrev pub invariant-loop-job : goal.invariant-loop-job
invariant-loop-job l = l.tasks.items ≡ l.fn.tasks.items ++ map (acts l.fn.floor) l.yielded
