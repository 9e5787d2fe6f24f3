-- What a phase on the way down looks at in the core.
use Rattle.std.specs.Prelude.{◌≡◌, ℕ, Bool, true, false, ◌&&◌, is_none, length, map, if◌then◌else◌}
use Rattle.phase_table.specs.declared.phase.Phase.{Phase}
use Rattle.phase_table.specs.Phases.{is_down, mirror}
use Rattle.sleep_model.specs.declared.progress.PhaseState.{PhaseState}
use Rattle.sleep_model.specs.declared.progress.PhaseState.TheVariants as state
use Rattle.sleep_model.specs.declared.word.EventNow.{EventNow}
use Rattle.sleep_model.specs.Devices.{asks_direct}
use Rattle.sleep_model.specs.Guard.{pending}
use Rattle.sleep_model.specs.Runtime.{may_wake, statuses}
use Rattle.sleep_model.specs.PhaseStates.{state_at}
use Rattle.async_board.specs.AtPoints.{board_at}
use Rattle.async_board.specs.Boards.{BoardState, states_on, waits_for_subordinates_on, waits_above_on}
use Rattle.phase_suspend.specs.declared.down.DownEnv.{DownEnv}
use Rattle.sleep_state.specs.JournalRooms.{entries}
use Rattle.sleep_core.specs.Cores.{CoreState}

-- it is the states of devices, which ask for direct-complete, which are runtime suspended, which are sources of wakeup, and whether a
-- wakeup is pending
pub record IsDownEnvOf (core : CoreState) (now : EventNow) (env : DownEnv) : Type 0 where
  pub board : env.board.now ≡ board_at core.machine (entries core.past)
  pub asks_direct_are : env.asks_direct.now ≡ asks_direct (length core.machine.devices) (entries core.past)
  pub statuses_are : env.runtime_suspended.now ≡ statuses core.machine.devices (entries core.past)
  pub wakeup_are : env.may_wakeup.now ≡ map may_wake core.machine.devices
  pub pending_is : env.wakeup_pending ≡ pending (entries core.past) now

-- device d was scheduled on the way down, and has not begun (async_schedule_dev)
abbrev pub is_scheduled : PhaseState → Bool
is_scheduled state.Scheduled = true
is_scheduled _ = false

-- so on the way up
abbrev pub is_rescheduled : PhaseState → Bool
is_rescheduled state.Rescheduled = true
is_rescheduled _ = false

-- device d was scheduled in phase p, has not begun, and waits for no other (dpm_async_fn)
abbrev pub is_ready_on : BoardState → Phase → ℕ → Bool
is_ready_on board p d =
    if is_down p then is_scheduled (state_at (states_on board p) d) && is_none (waits_for_subordinates_on board p d)
    else is_rescheduled (state_at (states_on board (mirror p)) d) && is_none (waits_above_on board (mirror p) d)
