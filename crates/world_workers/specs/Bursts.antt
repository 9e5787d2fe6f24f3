-- What goes into a burst, and comes out of it.
use Rattle.std.specs.Prelude.{◌≡◌, ◌<◌, ◌+◌, ◌^◌, List, [], ◌∷◌, length}
use Rattle.sleep_model.specs.declared.machine.Machine.{Machine}
use Rattle.atomic_table.specs.Seated.{TableId}
use Rattle.event_word.specs.Seats.{AreAllSeats}
use Rattle.run_objects.specs.Objects.{SeatedCoreState, SeatedSourceState, seats_of}
use Rattle.run_world.specs.declared.task.Task.{Task}
use Rattle.world_workers.specs.Tries.{IsTaskIn, turns_of}

-- each task is of that machine
abbrev pub AreTasksIn : Machine → List Task → Type 0
AreTasksIn m [] = Unit {0}
AreTasksIn m (t ∷ tasks) = IsTaskIn m t × AreTasksIn m tasks

-- no task comes to the end of its numbers in a burst
abbrev pub HaveTurns : List Task → Type 0
HaveTurns [] = Unit {0}
HaveTurns (t ∷ tasks) = (turns_of t + 1000 < 2 ^ 63) × HaveTurns tasks

-- what may go into a burst, and is so again after it: that machine's core, its sources with all seats of that table, and tasks of it
pub record AreReady (m : Machine) (table : TableId) (core : SeatedCoreState) (sources : List SeatedSourceState) (tasks : List Task) : Type 0 where
  pub machine : core.core.machine ≡ m
  pub table_is : core.seat.table_id ≡ table
  pub seats : AreAllSeats core.seat (seats_of sources)
  pub count : length sources ≡ length m.sources + 1
  pub tasks_in : AreTasksIn m tasks
