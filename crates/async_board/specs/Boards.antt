-- A board as contracts see it, and what is asked of it.
use Rattle.std.specs.Prelude.{ℕ, Bool, not, ◌&&◌, List, length, replicate, slice_set, if◌then◌else◌, Option}
use Rattle.std.specs.List.{list_all}
use Rattle.phase_table.specs.declared.phase.Phase.{Phase}
use Rattle.phase_table.specs.declared.phase.Phase.TheVariants as phase
use Rattle.sleep_model.specs.declared.entry.Kind.{Kind}
use Rattle.sleep_model.specs.declared.machine.Link.{Link}
use Rattle.sleep_model.specs.declared.progress.PhaseState.{PhaseState}
use Rattle.sleep_model.specs.declared.progress.PhaseState.TheVariants as state
use Rattle.sleep_model.specs.declared.progress.AsyncWork.{AsyncWork}
use Rattle.sleep_model.specs.declared.progress.AsyncWork.TheVariants.{Idle}
use Rattle.sleep_model.specs.Devices.{work_by}
use Rattle.sleep_model.specs.Order.{active_of, dependents, superiors, order_by}
use Rattle.sleep_model.specs.PhaseStates.{phase_states_after, device_of, state_at, by_phase, is_unprepared, is_prepared, is_ready, is_not_down, is_going_down, is_down_in, is_direct_complete, is_not_up}
use Rattle.sleep_model.specs.Walk.{is_so, first_where, last_where}

-- the parent of each device, the links, the newest first, which devices are asynchronous, and each state in the three pairs of phases
pub record BoardState : Type 0 where
  pub parents : List (Option ℕ)
  pub links : List Link
  pub asynchronous : List Bool
  pub suspend : List PhaseState
  pub late : List PhaseState
  pub noirq : List PhaseState

-- a board on which no device is prepared
abbrev pub first_board : List (Option ℕ) → List Link → List Bool → BoardState
first_board parents links asynchronous = record {
  parents = parents;
  links = links;
  asynchronous = asynchronous;
  suspend = replicate (length parents) state.Unprepared;
  late = replicate (length parents) state.Unprepared;
  noirq = replicate (length parents) state.Unprepared;
}

-- a board after an entry (dpm_run_callback)
abbrev pub board_after : Kind → BoardState → BoardState
board_after k board = record board {
  suspend = phase_states_after phase.Suspend k (device_of k) board.suspend;
  late = phase_states_after phase.Late k (device_of k) board.late;
  noirq = phase_states_after phase.Noirq k (device_of k) board.noirq;
}

-- a board after a device was put in that state in each pair of phases
abbrev pub put_in_all : ℕ → PhaseState → BoardState → BoardState
put_in_all d after board = record board {
  suspend = slice_set board.suspend d after;
  late = slice_set board.late d after;
  noirq = slice_set board.noirq d after;
}

-- a board after phase q put a device in a state: one for the way down, one for the way up, in the pair that phase q is of
abbrev pub put_in : Phase → ℕ → PhaseState → PhaseState → BoardState → BoardState
put_in q d down up board = record board {
  suspend = slice_set board.suspend d (by_phase phase.Suspend q down up (state_at board.suspend d));
  late = slice_set board.late d (by_phase phase.Late q down up (state_at board.late d));
  noirq = slice_set board.noirq d (by_phase phase.Noirq q down up (state_at board.noirq d));
}

-- a board after phase q put a device in that state, if q is one on the way down
abbrev pub skip_in : Phase → ℕ → PhaseState → BoardState → BoardState
skip_in q d down board = record board {
  suspend = slice_set board.suspend d (by_phase phase.Suspend q down (state_at board.suspend d) (state_at board.suspend d));
  late = slice_set board.late d (by_phase phase.Late q down (state_at board.late d) (state_at board.late d));
  noirq = slice_set board.noirq d (by_phase phase.Noirq q down (state_at board.noirq d) (state_at board.noirq d));
}

-- the state of each device in phase p, one on the way down, and its mirror
abbrev pub states_on : BoardState → Phase → List PhaseState
states_on board phase.Late = board.late
states_on board phase.Noirq = board.noirq
states_on board p = board.suspend

-- the devices in order (dpm_list)
abbrev pub order_on : BoardState → List ℕ
order_on board = order_by board.parents board.links

-- the device that is prepared next (dpm_prepare)
abbrev pub next_prepared_on : BoardState → Option ℕ
next_prepared_on board = first_where (λ d. is_unprepared (state_at board.suspend d)) (order_on board)

-- the device that is completed next (dpm_complete)
abbrev pub next_completed_on : BoardState → Option ℕ
next_completed_on board = last_where (λ d. is_prepared (state_at board.suspend d)) (order_on board)

-- the device that the walk down takes next (dpm_suspend)
abbrev pub next_down_on : BoardState → Phase → Option ℕ
next_down_on board p = last_where (λ d. is_ready (state_at (states_on board p) d)) (order_on board)

-- the first device that is scheduled on the way down and not done (async_synchronize_full)
abbrev pub waits_down_on : BoardState → Phase → Option ℕ
waits_down_on board p = first_where (λ d. is_going_down (state_at (states_on board p) d)) (order_on board)

-- the first asynchronous device that is down (dpm_async_fn)
abbrev pub next_to_schedule_on : BoardState → Phase → Option ℕ
next_to_schedule_on board p =
    first_where (λ d. is_down_in (state_at (states_on board p) d) && is_so board.asynchronous d) (order_on board)

-- the first synchronous device that is down (dpm_resume)
abbrev pub next_up_on : BoardState → Phase → Option ℕ
next_up_on board p =
    first_where (λ d. is_down_in (state_at (states_on board p) d) && not (is_so board.asynchronous d)) (order_on board)

-- the first device that is not yet up (async_synchronize_full)
abbrev pub waits_up_on : BoardState → Phase → Option ℕ
waits_up_on board p = first_where (λ d. is_not_up (state_at (states_on board p) d)) (order_on board)

-- the first device below d that is not done (dpm_wait_for_subordinate)
abbrev pub waits_for_subordinates_on : BoardState → Phase → ℕ → Option ℕ
waits_for_subordinates_on board p d =
    first_where (λ e. is_not_down (state_at (states_on board p) e)) (dependents board.parents (active_of board.links) d)

-- the first device above d that is not yet up (dpm_wait_for_superior)
abbrev pub waits_above_on : BoardState → Phase → ℕ → Option ℕ
waits_above_on board p d =
    first_where (λ e. is_not_up (state_at (states_on board p) e)) (superiors board.parents (active_of board.links) d)

-- all devices below d are direct-complete (direct_complete)
abbrev pub all_below_direct_complete_on : BoardState → ℕ → Bool
all_below_direct_complete_on board d =
    list_all (λ e. is_direct_complete (state_at board.suspend e)) (dependents board.parents (active_of board.links) d)

-- the work of its own of device d: a synchronous one has none (async_schedule_dev)
abbrev pub work_on : BoardState → ℕ → AsyncWork
work_on board d =
    if is_so board.asynchronous d
    then work_by (state_at board.suspend d) (state_at board.late d) (state_at board.noirq d)
    else Idle
