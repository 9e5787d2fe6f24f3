-- A burst while it is open.
use Rattle.std.specs.Prelude.{◌≡◌, ℕ, true, List, map}
use Rattle.sleep_model.specs.declared.machine.Machine.{Machine}
use Rattle.sleep_model.specs.Fits.{is_word64}
use Rattle.atomic_table.specs.Seated.{TableId}
use Rattle.turn_lock.specs.declared.table.Pass.{Pass}
use Rattle.turn_lock.specs.Passes.{AreNew, LockToken, first_of}
use Rattle.turn_lock.specs.Passing.{tokens}
use Rattle.run_laws.specs.Passes.{Noted}
use Rattle.run_objects.specs.Objects.{SourcesInvariant, SeatedCoreState, SeatedSourceState}
use Rattle.run_world.specs.declared.object.WorldObject.{WorldObject}
use Rattle.run_world.specs.ObjectLists.{AreObjectsOf}
use Rattle.run_world.specs.declared.task.Task.{Task}
use Rattle.run_world.specs.Acts.{actor_of}
use Rattle.run_world.specs.Bursts.{IsBurst}
use Rattle.world_workers.specs.declared.worker.Worker.{Worker}
use Rattle.world_workers.specs.Bursts.{AreReady}
use Rattle.world_workers.specs.Workers.{AreFresh, AreContents, AreWorkersOf, HaveTurned}

-- what a burst begins with: a machine's core, its sources and tasks, at that moment
pub record Began : Type 0 where
  pub machine : Machine
  pub table : TableId
  pub moment : ℕ
  pub core : SeatedCoreState
  pub sources : List SeatedSourceState
  pub tasks : List Task

-- locks guard the core and the sources, and each task has a worker with a pass that has made nothing
pub record IsOpened (b : Began) (own : LockToken WorldObject Noted) (locks : TableId) (workers : List Worker) : Type 0 where
  pub objects : List WorldObject
  pub passes : List (Pass WorldObject Noted)
  pub timed : is_word64 b.moment ≡ true
  pub ready : AreReady b.machine b.table b.core b.sources b.tasks
  pub kept : SourcesInvariant b.sources
  pub all : AreObjectsOf b.moment b.core b.sources objects
  pub first : first_of own ≡ objects
  pub place : own.table_id ≡ locks
  pub new : AreNew own (tokens passes)
  pub contents : AreContents workers passes b.tasks
  pub fresh : AreFresh b.moment workers

-- the workers of a burst that was opened went on
pub record HasRun (b : Began) (own : LockToken WorldObject Noted) (locks : TableId) (workers : List Worker) : Type 0 where
  pub before : List Worker
  pub opened : IsOpened b own locks before
  pub did : ℕ
  pub gone : HaveTurned before workers did
  pub goes : AreWorkersOf b.machine b.table locks b.moment workers

-- what comes back makes a burst, and may go into another: tasks of the same actors
pub record HasEnded (b : Began) (core : SeatedCoreState) (sources : List SeatedSourceState) (tasks : List Task) : Type 0 where
  pub burst : IsBurst b.moment b.core b.sources b.tasks core sources tasks
  pub ready : AreReady b.machine b.table core sources tasks
  pub actors : map actor_of tasks ≡ map actor_of b.tasks
