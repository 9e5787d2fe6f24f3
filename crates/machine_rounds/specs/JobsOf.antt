-- The jobs of a machine's actors, together.
use Rattle.std.specs.Prelude.{◌≡◌, ◌<◌, ◌+◌, ◌^◌, ℕ, zero, suc, Bool, nat_lt, List, [], ◌∷◌, ◌++◌, length, slice_set, slice_index_or}
use Rattle.sleep_model.specs.declared.entry.Actor.{Actor}
use Rattle.sleep_model.specs.declared.entry.Actor.TheVariants as actor
use Rattle.sleep_model.specs.declared.machine.Machine.{Machine}
use Rattle.sleep_model.specs.Places.{one_if}
use Rattle.sleep_script.specs.Jobs.{JobState, after_call, after_turn, first_job}
use Rattle.machine_rounds.specs.declared.jobs.Heard.{Heard}
use Rattle.machine_rounds.specs.declared.jobs.Heard.TheVariants as heard

-- the jobs of the scripts, of the autosleep work, and of the devices, by number
pub record JobsState : Type 0 where
  pub scripts : List JobState
  pub auto : JobState
  pub devices : List JobState

-- an actor's job
abbrev pub job_at : JobsState → Actor → JobState
job_at jobs (actor.Script i) = slice_index_or jobs.scripts i jobs.auto
job_at jobs (actor.Dev d) = slice_index_or jobs.devices d jobs.auto
job_at jobs _ = jobs.auto

-- the actor has a job
abbrev pub HasJob : JobsState → Actor → Type 0
HasJob jobs (actor.Script i) = i < length jobs.scripts
HasJob jobs actor.Auto = Unit {0}
HasJob jobs (actor.Dev d) = d < length jobs.devices
HasJob jobs _ = ⊥

-- each actor of a machine has one
pub record AreAllJobs (m : Machine) (jobs : JobsState) : Type 0 where
  pub scripts : length jobs.scripts ≡ length m.actors
  pub devices : length jobs.devices ≡ length m.devices

-- another job of an actor in place of the one before
abbrev pub with_job : JobsState → Actor → JobState → JobsState
with_job jobs (actor.Script i) job = record jobs { scripts = slice_set jobs.scripts i job }
with_job jobs (actor.Dev d) job = record jobs { devices = slice_set jobs.devices d job }
with_job jobs _ job = record jobs { auto = job }

-- a job after what it heard of its actor
abbrev pub after_hearing : Heard → JobState → JobState
after_hearing (heard.Entry stamp k attempt) job = after_turn stamp k attempt job
after_hearing (heard.Call stamp) job = after_call stamp job

-- the actor could do that: an entry with no call left to make, or the call that was next
abbrev pub MayHear : JobState → Heard → Type 0
MayHear job (heard.Entry stamp k attempt) = (job.pending ≡ []) × (job.turns < 2 ^ 63)
MayHear job (heard.Call stamp) = (0 < length job.pending) × (job.calls + 1 < 2 ^ 32)

-- the jobs of the first n actors of a kind, before anything was done
abbrev pub first_jobs_of : Machine → (ℕ → Actor) → ℕ → List JobState
first_jobs_of m kind zero = []
first_jobs_of m kind (suc n) = first_jobs_of m kind n ++ first_job m (kind n) ∷ []

-- all jobs, before anything was done
abbrev pub first_jobs : Machine → JobsState
first_jobs m = record {
  scripts = first_jobs_of m actor.Script (length m.actors);
  auto = first_job m actor.Auto;
  devices = first_jobs_of m actor.Dev (length m.devices);
}

-- ---- who has a call to make

-- the actor has a call on a source to make before its next entry of the journal
abbrev pub owes : JobState → Bool
owes job = nat_lt 0 (length job.pending)

-- how many of these have
abbrev pub owing_of : List JobState → ℕ
owing_of [] = 0
owing_of (job ∷ jobs) = one_if (owes job) + owing_of jobs

-- how many of all have
abbrev pub owing : JobsState → ℕ
owing jobs = owing_of jobs.scripts + owing_of jobs.devices + one_if (owes jobs.auto)

-- no actor has one
abbrev pub OweNone : JobsState → Type 0
OweNone jobs = (who : Actor) → HasJob jobs who → (job_at jobs who).pending ≡ []
