-- The invariant of the loop of `owing_among`.
use Rattle.std.proofs.Common.{◌≡◌, take}
use Rattle.machine_rounds.specs.JobsOf.{owing_of}
use Rattle.machine_rounds.proofs.jobs.owing_among.Given as goal

abbrev pub invariant-loop-job : goal.invariant-loop-job
invariant-loop-job l = l.owing ≡ owing_of (take l.job-index l.jobs)
