-- Acts of a burst in an order in which they could have been made one after another.
use Rattle.std.specs.Prelude.{◌≡◌, ◌≤◌, ◌+◌, ◌==◌, ℕ, zero, suc, Bool, true, false, List, ◌++◌, length, Some, slice_get, slice_set}
use Rattle.std.specs.List.{list_any}
use Rattle.sleep_model.specs.declared.entry.Actor.{Actor}
use Rattle.sleep_model.specs.declared.entry.Actor.TheVariants as actor
use Rattle.sleep_model.specs.declared.entry.JournalEntry.{JournalEntry}
use Rattle.sleep_model.specs.declared.machine.Machine.{Machine}
use Rattle.sleep_model.specs.declared.word.Stamp.{Stamp}
use Rattle.sleep_model.specs.Fits.{is_word64}
use Rattle.sleep_model.specs.Numbers.{time_of}
use Rattle.sleep_model.specs.Path.{is_same}
use Rattle.sleep_state.specs.JournalRooms.{entries}
use Rattle.sleep_core.specs.Cores.{IsActor}
use Rattle.sleep_script.specs.Jobs.{JobState}
use Rattle.wakeup_source.specs.SourceStates.{SourceState}
use Rattle.turn_lock.specs.declared.view.Made.{Made}
use Rattle.turn_lock.specs.Bookings.{placed}
use Rattle.run_laws.specs.Passes.{Noted}
use Rattle.running_laws.specs.Running.{IsGoing, of_sources}
use Rattle.run_world.specs.Roots.{notes_on}
use Rattle.run_world.specs.declared.task.Task.{Task}
use Rattle.run_world.specs.declared.task.Task.TheVariants as task
use Rattle.run_world.specs.Acts.{Does, actor_of}

-- the state of a burst: each object's list, the newest entry first, the machine's at 0, that of source s at 1 + s; and the tasks
pub record BurstState : Type 0 where
  pub lists : ℕ → List JournalEntry
  pub tasks : List Task

-- the lists of a machine's journal and of its sources
abbrev pub lists_of : List JournalEntry → List SourceState → ℕ → List JournalEntry
lists_of journal sources zero = journal
lists_of journal sources (suc s) = of_sources sources s

-- what an act adds is in front of one object's list as it was, and the other lists are as they were
pub record Lands (gains : List (Made Noted)) (old new : ℕ → List JournalEntry) : Type 0 where
  pub object : ℕ
  pub added : List JournalEntry
  pub gained : gains ≡ placed object (length (old object)) (notes_on (old object) added)
  pub grown : new object ≡ added ++ old object
  pub others : (i : ℕ) → (object == i) ≡ false → new i ≡ old i

-- one act of one task, in a world of n sources
pub record IsAct (count moment : ℕ) (old new : BurstState) : Type 0 where
  pub place : ℕ
  pub was : Task
  pub is : Task
  pub gains : List (Made Noted)
  pub there : slice_get old.tasks place ≡ Some was
  pub does : Does count moment was gains is
  pub tasks : new.tasks ≡ slice_set old.tasks place is
  pub lands : Lands gains old.lists new.lists

-- acts one after another
pub data Course (count moment : ℕ) (first : BurstState) : BurstState → Type 0 where
  Begins : Course count moment first first
  Goes : (old new : BurstState) → Course count moment first old → IsAct count moment old new → Course count moment first new

-- ---- whose tasks they are

-- a task is its actor's job, or a source's timer, and knows what its actor knows
abbrev pub IsTaskOf : Machine → (Actor → JobState) → (Actor → Stamp) → Task → Type 0
IsTaskOf m jobs floors (task.Acts job) = IsActor m job.who × (jobs job.who ≡ job) × (floors job.who ≡ job.floor)
IsTaskOf m jobs floors (task.Fires timer) =
    (timer.source ≤ length m.sources) × (floors (actor.Timer timer.source) ≡ timer.floor)

-- no two tasks are of one actor
abbrev pub HaveDistinctActors : List Task → Type 0
HaveDistinctActors tasks =
    (j k : ℕ) (t u : Task) → slice_get tasks j ≡ Some t → slice_get tasks k ≡ Some u
    → is_same (actor_of t) (actor_of u) ≡ true → j ≡ k

-- each task is one of a run's, and no two are of one actor
pub record AreTasks (m : Machine) (jobs : Actor → JobState) (floors : Actor → Stamp) (tasks : List Task) : Type 0 where
  pub each : (k : ℕ) (t : Task) → slice_get tasks k ≡ Some t → IsTaskOf m jobs floors t
  pub apart : HaveDistinctActors tasks

-- ---- a course keeps what a run keeps

-- what goes on in a state: the run, with its sources, jobs and floors
pub record GoesOnAt (m : Machine) (burst_state : BurstState) : Type 0 where
  pub sources : List SourceState
  pub jobs : Actor → JobState
  pub floors : Actor → Stamp
  pub going : IsGoing m (burst_state.lists 0) sources jobs floors
  pub lists_are : (s : ℕ) → burst_state.lists (1 + s) ≡ of_sources sources s
  pub tasks_are : AreTasks m jobs floors burst_state.tasks

-- some task is that actor's
abbrev pub has_task : List Task → Actor → Bool
has_task tasks who = list_any (λ t. is_same (actor_of t) who) tasks

-- in a later state the run goes on with tasks of the same actors, and actors without a task know what they knew
pub record GoesFarther (m : Machine) (first last : BurstState) (g : GoesOnAt m first) : Type 0 where
  pub on : GoesOnAt m last
  pub same : (who : Actor) → has_task last.tasks who ≡ has_task first.tasks who
  pub others : (who : Actor) → has_task first.tasks who ≡ false → on.floors who ≡ g.floors who

-- from a state in which a run goes on, acts one after another come to one in which it goes on
abbrev pub CoursesGoOn : Type 0
CoursesGoOn =
    (m : Machine) (count moment : ℕ) (first last : BurstState) → is_word64 moment ≡ true → moment ≡ time_of (entries (first.lists 0))
    → (g : GoesOnAt m first) → Course count moment first last → GoesFarther m first last g
