-- A burst keeps what a run keeps.
use Rattle.std.specs.Prelude.{◌≡◌, ◌≤◌, ℕ, List, length}
use Rattle.sleep_model.specs.declared.machine.Machine.{Machine}
use Rattle.sleep_model.specs.Numbers.{time_of}
use Rattle.sleep_state.specs.JournalRooms.{entries}
use Rattle.run_objects.specs.Objects.{SeatedCoreState, SeatedSourceState, sources_of}
use Rattle.wakeup_source.specs.SourceStates.{SourceState}
use Rattle.running_laws.specs.Running.{AreSources, entry_count}
use Rattle.run_world.specs.declared.task.Task.{Task}
use Rattle.run_world.specs.Bursts.{IsBurst}
use Rattle.running_laws.specs.Courses.{GoesFarther, GoesOnAt, BurstState}
use Rattle.running_laws.specs.Serial.{burst_state_of}

-- the run goes on in a later state with these very sources
pub record GoesOnWith (m : Machine) (first last : BurstState) (g : GoesOnAt m first) (sources : List SourceState) : Type 0 where
  pub farther : GoesFarther m first last g
  pub sources_are : farther.on.sources ≡ sources

-- a burst leaves neither the journal nor a source with fewer entries
abbrev pub BurstsGrow : Type 0
BurstsGrow =
    (moment : ℕ) (machine machine_then : SeatedCoreState) (sources sources_then : List SeatedSourceState) (tasks tasks_then : List Task)
    → IsBurst moment machine sources tasks machine_then sources_then tasks_then → length sources ≡ length sources_then
    → entry_count machine.core.past (sources_of sources) ≤ entry_count machine_then.core.past (sources_of sources_then)

-- a run goes on after a burst at its time, if the sources that came back are between calls
abbrev pub BurstsGoOn : Type 0
BurstsGoOn =
    (m : Machine) (moment : ℕ) (machine machine_then : SeatedCoreState) (sources sources_then : List SeatedSourceState)
    (tasks tasks_then : List Task) → IsBurst moment machine sources tasks machine_then sources_then tasks_then
    → moment ≡ time_of (entries machine.core.past) → AreSources m (sources_of sources_then)
    → (g : GoesOnAt m (burst_state_of machine sources tasks))
    → GoesOnWith m (burst_state_of machine sources tasks) (burst_state_of machine_then sources_then tasks_then) g
    (sources_of sources_then)
