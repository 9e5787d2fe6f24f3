-- A worker of a burst, and what it did in it.
use Rattle.std.specs.Prelude.{◌≡◌, ◌+◌, ℕ, true, List, [], ◌∷◌, ◌++◌, Option, Some, length}
use Rattle.sleep_model.specs.declared.machine.Machine.{Machine}
use Rattle.atomic_table.specs.Seated.{TableId}
use Rattle.sleep_pool.specs.declared.turns.Turn.{Turn}
use Rattle.sleep_pool.specs.Turns.{AllWent, Went}
use Rattle.turn_lock.specs.declared.table.Pass.{Pass}
use Rattle.turn_lock.specs.declared.view.Made.{Made}
use Rattle.turn_lock.specs.Passes.{LockToken, first_of}
use Rattle.run_laws.specs.Passes.{Noted}
use Rattle.run_world.specs.declared.object.WorldObject.{WorldObject}
use Rattle.run_world.specs.declared.task.Task.{Task}
use Rattle.run_world.specs.Acts.{Plays, all_gains}
use Rattle.world_workers.specs.declared.worker.Worker.{Worker}
use Rattle.world_workers.specs.Tries.{GoesIn, HasMade}

-- how many turns a worker can still make
abbrev pub turns_left : Worker → ℕ
turns_left w = w.left

-- a worker has its pass, and goes with its task in a machine's world
pub record IsWorkerOf (m : Machine) (table locks : TableId) (moment : ℕ) (w : Worker) : Type 0 where
  pub pass : Pass WorldObject Noted
  pub has : w.pass ≡ Some pass
  pub time : w.moment ≡ moment
  pub goes : GoesIn m table locks moment w.task pass.token

-- each is one
abbrev pub AreWorkersOf : Machine → TableId → TableId → ℕ → List Worker → Type 0
AreWorkersOf m table locks moment [] = Unit {0}
AreWorkersOf m table locks moment (w ∷ workers) = IsWorkerOf m table locks moment w × AreWorkersOf m table locks moment workers

-- a moment in a worker's life: how many sources the world has, its time, the worker's task, and its pass
pub record Moment : Type 0 where
  pub sources : ℕ
  pub time : ℕ
  pub task : Task
  pub token : LockToken WorldObject Noted

-- since that moment the worker's task did these acts, and its pass made just what they added
pub record Since (s : Moment) (w : Worker) : Type 0 where
  pub acts : List (List (Made Noted))
  pub pass : Pass WorldObject Noted
  pub has : w.pass ≡ Some pass
  pub made : HasMade s.token pass.token (all_gains acts)
  pub count : length (first_of pass.token) ≡ s.sources + 1
  pub time : w.moment ≡ s.time
  pub plays : Plays s.sources s.time s.task acts w.task

-- from whatever moment a worker went on, it goes on, by these turns
abbrev pub WorkerWentOn : Worker → List Turn → Worker → Type 0
WorkerWentOn old turns new = (s : Moment) → Since s old → Since s new

-- each worker went on by turns of its own, and n of all these turns did something
abbrev pub HaveTurned : List Worker → List Worker → ℕ → Type 0
HaveTurned olds news did = AllWent (Went WorkerWentOn turns_left true 1000) olds news did

-- the workers have these passes, and these tasks
abbrev pub AreContents : List Worker → List (Pass WorldObject Noted) → List Task → Type 0
AreContents [] [] [] = Unit {0}
AreContents (w ∷ workers) (p ∷ passes) (t ∷ tasks) = ((w.pass ≡ Some p) × (w.task ≡ t)) × AreContents workers passes tasks
AreContents _ _ _ = ⊥

-- these passes are those, and that of one worker
abbrev pub AreOneMore : Option (Pass WorldObject Noted) → List (Pass WorldObject Noted) → List (Pass WorldObject Noted) → Type 0
AreOneMore pass olds news = (p : Pass WorldObject Noted) × (pass ≡ Some p) × (news ≡ olds ++ p ∷ [])

-- each is at the beginning of a burst at that moment, and can make a thousand turns
abbrev pub AreFresh : ℕ → List Worker → Type 0
AreFresh moment [] = Unit {0}
AreFresh moment (w ∷ workers) = ((w.moment ≡ moment) × (w.left ≡ 1000)) × AreFresh moment workers
