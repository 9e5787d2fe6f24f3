-- The invariant of the loop of `device_jobs`.
use Rattle.std.proofs.Common.{◌≡◌, ◌≤◌, vec_len, vec_capacity}
use Rattle.sleep_model.specs.declared.entry.Actor.TheVariants.{Dev}
use Rattle.machine_rounds.specs.JobsOf.{first_jobs_of}
use Rattle.machine_rounds.proofs.jobs.device_jobs.Given as goal

abbrev pub invariant-loop-device : goal.invariant-loop-device
invariant-loop-device l = record {
  all : l.jobs.items ≡ first_jobs_of l.plans Dev l.device;
  placed : vec_len l.jobs ≤ l.device;
  room : l.devices ≤ vec_capacity l.jobs;
}
