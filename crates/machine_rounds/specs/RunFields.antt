-- What a run's fields are.
use Rattle.std.specs.Prelude.{◌≡◌}
use Rattle.event_word.specs.Seats.{AreAllSeats}
use Rattle.running_laws.specs.Running.{IsRunning}
use Rattle.run_objects.specs.Objects.{seats_of, sources_of}
use Rattle.machine_rounds.specs.declared.run.Run.TheInside.{Inside}
use Rattle.machine_rounds.specs.JobsOf.{AreAllJobs, job_at}
use Rattle.machine_rounds.specs.Runs.{RunState}

-- a run as contracts see it
abbrev pub state : Inside → RunState
state r = record {
  machine = r.machine.now;
  journal = r.seated.core.past;
  sources = sources_of r.sources.items;
  seat = r.seated.seat;
  floor = r.floor;
}

-- the invariant of a run between turns: it goes on, each actor has its job, and all seats are at the table
pub record RunFieldsInvariant (r : Inside) : Type 0 where
  pub machine_is : r.seated.core.machine ≡ r.machine.now
  pub running : IsRunning r.machine.now r.seated.core.past (sources_of r.sources.items) (job_at r.jobs) r.floor
  pub all_jobs : AreAllJobs r.machine.now r.jobs
  pub table : r.seated.seat.table_id ≡ r.table.cells.shared.table_id
  pub seats : AreAllSeats r.seated.seat (seats_of r.sources.items)
