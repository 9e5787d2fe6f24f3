-- A burst is serial.
use Rattle.std.specs.Prelude.{◌≡◌, ℕ, List, length}
use Rattle.run_objects.specs.Objects.{SeatedCoreState, SeatedSourceState, sources_of}
use Rattle.run_world.specs.declared.task.Task.{Task}
use Rattle.run_world.specs.Bursts.{IsBurst}
use Rattle.running_laws.specs.Courses.{Course, BurstState, lists_of}

-- the state of a burst with these
abbrev pub burst_state_of : SeatedCoreState → List SeatedSourceState → List Task → BurstState
burst_state_of machine sources tasks = record { lists = lists_of machine.core.past (sources_of sources); tasks = tasks }

-- the burst's acts have an order in which each finds all lists as those before it left them, and at the end the lists and the tasks are
-- those that came back
pub record IsSerial
    (moment : ℕ) (machine : SeatedCoreState) (sources : List SeatedSourceState) (tasks : List Task)
    (machine_then : SeatedCoreState) (sources_then : List SeatedSourceState) (tasks_then : List Task) : Type 0 where
  pub last : BurstState
  pub course : Course (length sources) moment (burst_state_of machine sources tasks) last
  pub tasks_are : last.tasks ≡ tasks_then
  pub lists_are : (i : ℕ) → last.lists i ≡ lists_of machine_then.core.past (sources_of sources_then) i

-- so is each burst
abbrev pub BurstsAreSerial : Type 0
BurstsAreSerial =
    (moment : ℕ) (machine machine_then : SeatedCoreState) (sources sources_then : List SeatedSourceState) (tasks tasks_then : List Task)
    → IsBurst moment machine sources tasks machine_then sources_then tasks_then
    → IsSerial moment machine sources tasks machine_then sources_then tasks_then
