-- A run around a burst: what goes in, and what comes back.
use Rattle.std.specs.Prelude.{◌≡◌, ◌<◌, ◌+◌, ◌^◌, ℕ, List, length}
use Rattle.sleep_model.specs.declared.machine.Machine.{Machine}
use Rattle.sleep_model.specs.declared.word.Stamp.{Stamp}
use Rattle.atomic_table.specs.Seated.{TableId}
use Rattle.event_word.specs.Seats.{AreAllSeats}
use Rattle.run_objects.specs.Objects.{SeatedCoreState, SeatedSourceState, seats_of, sources_of}
use Rattle.running_laws.specs.Running.{IsRunning, entry_count}
use Rattle.run_world.specs.declared.task.Task.{Task}
use Rattle.machine_rounds.specs.JobsOf.{AreAllJobs, JobsState, job_at}
use Rattle.machine_rounds.specs.TasksOf.{AreJobsOf, highest, jobs_in, all_tasks}

-- how many entries a core and sources have
abbrev pub entries_of : SeatedCoreState → List SeatedSourceState → ℕ
entries_of core sources = entry_count core.core.past (sources_of sources)

-- the core, the sources and the tasks are those of a run of the machine, whose actors all know that stamp
pub record IsRunInBurst
    (m : Machine) (table : TableId) (floor : Stamp) (core : SeatedCoreState) (sources : List SeatedSourceState) (tasks : List Task)
    : Type 0 where
  pub jobs : JobsState
  pub all_jobs : AreAllJobs m jobs
  pub machine_is : core.core.machine ≡ m
  pub running : IsRunning m core.core.past (sources_of sources) (job_at jobs) floor
  pub tasks_are : tasks ≡ all_tasks floor (length m.sources + 1) jobs
  pub few : length core.core.past + 1000 < 2 ^ 63
  pub table_is : core.seat.table_id ≡ table
  pub seats : AreAllSeats core.seat (seats_of sources)

-- they are so again after a burst: the jobs are those among the tasks, and all actors may know the greatest of their stamps
pub record IsBack
    (m : Machine) (table : TableId) (floor : Stamp) (core : SeatedCoreState) (sources : List SeatedSourceState) (tasks : List Task)
    : Type 0 where
  pub jobs : JobsState
  pub all_jobs : AreAllJobs m jobs
  pub machine_is : core.core.machine ≡ m
  pub running : IsRunning m core.core.past (sources_of sources) (job_at jobs) (highest floor tasks)
  pub jobs_are : AreJobsOf (jobs_in tasks) (length m.actors) jobs
  pub table_is : core.seat.table_id ≡ table
  pub seats : AreAllSeats core.seat (seats_of sources)

-- core, sources and jobs are those of a run of the machine, whose actors may all know that stamp
pub record IsJoined
    (m : Machine) (table : TableId) (floor : Stamp) (core : SeatedCoreState) (sources : List SeatedSourceState) (jobs : JobsState)
    : Type 0 where
  pub all_jobs : AreAllJobs m jobs
  pub machine_is : core.core.machine ≡ m
  pub running : IsRunning m core.core.past (sources_of sources) (job_at jobs) floor
  pub table_is : core.seat.table_id ≡ table
  pub seats : AreAllSeats core.seat (seats_of sources)
