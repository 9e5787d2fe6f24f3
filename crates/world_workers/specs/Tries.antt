-- What a try of a task in the world comes to.
use Rattle.std.specs.Prelude.{◌≡◌, ◌≤◌, ◌+◌, ℕ, true, List, ◌++◌, Option, Some, Result, Ok, length}
use Rattle.sleep_model.specs.declared.machine.Machine.{Machine}
use Rattle.sleep_model.specs.declared.word.Stamp.{Stamp}
use Rattle.atomic_table.specs.Seated.{TableId}
use Rattle.sleep_core.specs.declared.turns.CoreFault.{CoreFault}
use Rattle.sleep_core.specs.declared.turns.CoreTurn.{CoreTurn}
use Rattle.sleep_core.specs.declared.turns.CoreTurn.TheVariants.{Did}
use Rattle.sleep_core.specs.Cores.{IsActor}
use Rattle.wakeup_source.specs.declared.fault.SourceFault.{SourceFault}
use Rattle.sleep_script.specs.Jobs.{JobState, TimerState, after_call, after_expiry, after_turn}
use Rattle.room_laws.specs.Ranged.{is_ranged}
use Rattle.turn_lock.specs.declared.view.Made.{Made}
use Rattle.turn_lock.specs.Passes.{LockToken, first_of, made_of, number_of}
use Rattle.run_laws.specs.Passes.{Noted}
use Rattle.run_world.specs.declared.object.WorldObject.{WorldObject}
use Rattle.run_world.specs.Objects.{IsWorldPass}
use Rattle.run_world.specs.declared.task.Task.{Task}
use Rattle.run_world.specs.declared.task.Task.TheVariants as task
use Rattle.run_world.specs.Acts.{Does, actor_of}

-- a job after what a turn of the machine came to
abbrev pub told_core : Result CoreTurn CoreFault → JobState → JobState
told_core (Ok (Did stamp k attempt)) job = after_turn stamp k attempt job
told_core _ job = job

-- the kind of the entry that a turn made is in the ranges of its fields
abbrev pub IsRangedTurn : Result CoreTurn CoreFault → Type 0
IsRangedTurn (Ok (Did stamp k attempt)) = is_ranged k ≡ true
IsRangedTurn _ = Unit {0}

-- a job after what a call on a source came to
abbrev pub told_source : Result (Option Stamp) SourceFault → JobState → JobState
told_source (Ok (Some stamp)) job = after_call stamp job
told_source _ job = job

-- a timer after what its call came to (pm_wakeup_timer_fn)
abbrev pub timer_after_call : Result (Option Stamp) SourceFault → TimerState → TimerState
timer_after_call (Ok (Some stamp)) timer = after_expiry stamp timer
timer_after_call _ timer = timer

-- the task is of that machine: the job of an actor of it, or the timer of a source of it
abbrev pub IsTaskIn : Machine → Task → Type 0
IsTaskIn m (task.Acts job) = (job.machine ≡ m) × IsActor m job.who
IsTaskIn m (task.Fires timer) = timer.source ≤ length m.sources

-- the turns of its actor that have ended
abbrev pub turns_of : Task → ℕ
turns_of (task.Acts job) = job.turns
turns_of (task.Fires timer) = 0

-- the pass has made these more, and is the same else
pub record HasMade (old new : LockToken WorldObject Noted) (gains : List (Made Noted)) : Type 0 where
  pub made : made_of new ≡ made_of old ++ gains
  pub number : number_of new ≡ number_of old
  pub first : first_of new ≡ first_of old

-- a task and its pass go with a machine's world
pub record GoesIn (m : Machine) (table locks : TableId) (moment : ℕ) (t : Task) (p : LockToken WorldObject Noted) : Type 0 where
  pub pass : IsWorldPass m table locks moment p
  pub is_in : IsTaskIn m t

-- after a try they agree: the task did one act, and the pass made what it added
pub record HasActed (m : Machine) (table locks : TableId) (moment : ℕ) (old new : Task) (before after : LockToken WorldObject Noted) : Type 0 where
  pub gains : List (Made Noted)
  pub goes : GoesIn m table locks moment new after
  pub made : HasMade before after gains
  pub does : Does (length m.sources + 1) moment old gains new
  pub who : actor_of new ≡ actor_of old
  pub turns : turns_of new ≤ turns_of old + 1
