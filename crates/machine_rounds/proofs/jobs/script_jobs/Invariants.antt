-- The invariant of the loop of `script_jobs`.
use Rattle.std.proofs.Common.{◌≡◌, ◌≤◌, vec_len, vec_capacity}
use Rattle.sleep_model.specs.declared.entry.Actor.TheVariants.{Script}
use Rattle.machine_rounds.specs.JobsOf.{first_jobs_of}
use Rattle.machine_rounds.proofs.jobs.script_jobs.Given as goal

abbrev pub invariant-loop-script : goal.invariant-loop-script
invariant-loop-script l = record {
  all : l.jobs.items ≡ first_jobs_of l.plans Script l.script;
  placed : vec_len l.jobs ≤ l.script;
  room : l.scripts ≤ vec_capacity l.jobs;
}
