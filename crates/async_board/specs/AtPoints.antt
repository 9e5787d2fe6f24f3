-- The board after entries of a machine's log.
use Rattle.std.specs.Prelude.{◌≡◌, ℕ, true, ◌&&◌, List, length, map, not}
use Rattle.phase_table.specs.declared.phase.Phase.{Phase}
use Rattle.phase_table.specs.declared.phase.Phase.TheVariants as phase
use Rattle.phase_table.specs.Phases.{is_down}
use Rattle.sleep_model.specs.declared.entry.Entry.{Entry}
use Rattle.sleep_model.specs.declared.machine.Machine.{Machine}
use Rattle.sleep_model.specs.Devices.{is_async_device, async_work, may_wake_device, state_in, is_direct_now, next_prepared, next_completed, next_down, waits_down, next_to_schedule, next_up, waits_up, waits_for_subordinates, waits_above, asks_direct}
use Rattle.sleep_model.specs.Order.{links_at, parents_of}
use Rattle.sleep_model.specs.Runtime.{is_async, statuses}
use Rattle.sleep_model.specs.PhaseStates.{phase_states, state_at}
use Rattle.sleep_model.specs.Walk.{is_so}
use Rattle.async_board.specs.Boards.{BoardState, states_on, next_prepared_on, next_completed_on, next_down_on, waits_down_on, next_to_schedule_on, next_up_on, waits_up_on, waits_for_subordinates_on, waits_above_on, all_below_direct_complete_on, work_on}

-- the board of a machine, after these entries (dpm_list, struct dev_pm_info)
abbrev pub board_at : Machine → List Entry → BoardState
board_at m past = record {
  parents = parents_of m.devices;
  links = links_at m past;
  asynchronous = map is_async m.devices;
  suspend = phase_states (length m.devices) phase.Suspend past;
  late = phase_states (length m.devices) phase.Late past;
  noirq = phase_states (length m.devices) phase.Noirq past;
}

-- what a board answers is what the definitions say of the machine after these entries, in each phase on the way down
pub record BoardAgrees (m : Machine) (past : List Entry) (board : BoardState) : Type 0 where
  pub asynchronous : (d : ℕ) → is_so board.asynchronous d ≡ is_async_device m d
  pub works : (d : ℕ) → work_on board d ≡ async_work m past d
  pub stood : (p : Phase) (d : ℕ) → is_down p ≡ true → state_at (states_on board p) d ≡ state_in m past p d
  pub prepares : next_prepared_on board ≡ next_prepared m past
  pub completes : next_completed_on board ≡ next_completed m past
  pub takes : (p : Phase) → is_down p ≡ true → next_down_on board p ≡ next_down m past p
  pub closes : (p : Phase) → is_down p ≡ true → waits_down_on board p ≡ waits_down m past p
  pub gives : (p : Phase) → is_down p ≡ true → next_to_schedule_on board p ≡ next_to_schedule m past p
  pub raises : (p : Phase) → is_down p ≡ true → next_up_on board p ≡ next_up m past p
  pub opens : (p : Phase) → is_down p ≡ true → waits_up_on board p ≡ waits_up m past p
  pub waits_for_below : (p : Phase) (d : ℕ) → is_down p ≡ true → waits_for_subordinates_on board p d ≡ waits_for_subordinates m past p d
  pub waits_for_above : (p : Phase) (d : ℕ) → is_down p ≡ true → waits_above_on board p d ≡ waits_above m past p d
  pub left_alone : (d : ℕ)
      → (is_so (asks_direct (length m.devices) past) d && is_so (statuses m.devices past) d
      && not (may_wake_device m d) && all_below_direct_complete_on board d) ≡ is_direct_now m past d
