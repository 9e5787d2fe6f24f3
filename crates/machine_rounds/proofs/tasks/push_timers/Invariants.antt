-- The invariant of the loop of `push_timers`.
use Rattle.std.proofs.Common.{◌≡◌, ◌++◌}
use Rattle.machine_rounds.specs.TasksOf.{timers}
use Rattle.machine_rounds.proofs.tasks.push_timers.Given as goal

abbrev pub invariant-loop-source : goal.invariant-loop-source
invariant-loop-source l = l.tasks.items ≡ l.fn.tasks.items ++ timers l.floor l.source
