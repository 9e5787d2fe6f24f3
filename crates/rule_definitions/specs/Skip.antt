-- Which devices a phase on the way down passes over (drivers/base/power/main.c, __device_suspend).
use Rattle.std.specs.Prelude.{◌≡◌, ℕ, Bool, true, false, List, Option, Some, None}
use Rattle.sleep_model.specs.declared.entry.Entry.{Entry}
use Rattle.sleep_model.specs.declared.entry.Kind.{Kind}
use Rattle.sleep_model.specs.declared.entry.Kind.TheVariants as kind
use Rattle.sleep_model.specs.declared.machine.Machine.{Machine}
use Rattle.sleep_model.specs.declared.progress.Stage.{Stage}
use Rattle.sleep_model.specs.declared.progress.Stage.TheVariants as stage
use Rattle.sleep_model.specs.declared.progress.PhaseState.TheVariants as state
use Rattle.sleep_model.specs.declared.word.EventNow.{EventNow}
use Rattle.phase_table.specs.declared.phase.Phase.{Phase}
use Rattle.phase_table.specs.Phases.{is_down}
use Rattle.sleep_model.specs.Devices.{callback, phase_failed, next_down, waits_for_subordinates, state_in, is_async_device}
use Rattle.rule_definitions.specs.Questions.{row_now, turn_of}

-- the walk down is at device d: no callback runs, there is no error, d is the last that the phase has not taken, and all below it are done
-- (dpm_suspend, dpm_wait_for_subordinate)
pub record IsNextDown (m : Machine) (past : List Entry) (p : Phase) (d : ℕ) : Type 0 where
  pub free : callback past ≡ None
  pub well : phase_failed past ≡ None
  pub next : next_down m past p ≡ Some d
  pub waits : waits_for_subordinates m past p d ≡ None

-- device d was scheduled on the way down, and all below it are done (async_suspend, dpm_wait_for_subordinate)
pub record IsScheduledDown (m : Machine) (past : List Entry) (p : Phase) (d : ℕ) : Type 0 where
  pub down : is_down p ≡ true
  pub states : state_in m past p d ≡ state.Scheduled
  pub waits : waits_for_subordinates m past p d ≡ None

-- it is device d's turn in phase p: an asynchronous one was scheduled there, for another the walk of that phase is under way (dpm_suspend,
-- async_suspend)
abbrev pub IsTurn : Machine → List Entry → Phase → ℕ → Bool → Option Stage → Type 0
IsTurn m past p d true row = IsScheduledDown m past p d
IsTurn m past p d false (Some (stage.Downs q)) = (p ≡ q) × IsNextDown m past q d
IsTurn m past p d false _ = ⊥

-- a device is passed over at its turn, for the cause that comes first, and begins to go down only if there is none (__device_suspend)
abbrev pub KeepsSkip : Machine → List Entry → EventNow → Kind → Type 0
KeepsSkip m past now (kind.Skip p d cause) =
    IsTurn m past p d (is_async_device m d) (row_now m past) × (turn_of m past now p d ≡ kind.Skip p d cause)
KeepsSkip m past now (kind.Begin p d) = is_down p ≡ true → turn_of m past now p d ≡ kind.Begin p d
KeepsSkip m past now _ = Unit {0}
