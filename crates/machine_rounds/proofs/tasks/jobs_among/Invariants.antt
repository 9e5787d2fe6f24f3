-- The invariant of the loop of `jobs_among`.
use Rattle.std.proofs.Common.{◌≡◌, ◌≤◌, ◌+◌, vec_len, vec_capacity}
use Rattle.machine_rounds.specs.TasksOf.{jobs_in}
use Rattle.machine_rounds.proofs.tasks.jobs_among.Given as goal

abbrev pub invariant-loop-task : goal.invariant-loop-task
invariant-loop-task l = (l.jobs.items ≡ jobs_in l.yielded) × (vec_len l.jobs + l.task-iterator.rest.len ≤ vec_capacity l.jobs)
