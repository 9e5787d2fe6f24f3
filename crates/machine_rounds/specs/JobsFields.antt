-- What the fields of the jobs are.
use Rattle.std.specs.Prelude.{◌≡◌, ◌<◌, ◌^◌, length}
use Rattle.machine_rounds.specs.declared.jobs.Jobs.TheInside.{Inside}
use Rattle.machine_rounds.specs.JobsOf.{JobsState, owing}

-- the jobs as contracts see them
abbrev pub jobs : Inside → JobsState
jobs j = j.actors

-- there are few, and it is counted how many have a call on a source to make
pub record JobsInvariant (j : Inside) : Type 0 where
  pub few_scripts : length j.actors.scripts < 2 ^ 30
  pub few_devices : length j.actors.devices < 2 ^ 30
  pub owing_is : j.owing ≡ owing j.actors

-- what holds of the jobs between calls
abbrev pub jobs_invariant : Inside → Type 0
jobs_invariant j = JobsInvariant j
