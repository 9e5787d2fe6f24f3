-- What a board answers after entries of a machine's log.
use Rattle.std.proofs.Common.{◌≡◌, ℕ, true, not, ◌&&◌, List, [], ◌∷◌, length, map, reverse, replicate, refl, sym, ap}
use Rattle.std.proofs.lemmas.List.{length-map}
use Rattle.std.proofs.lemmas.Bool.{false≢true}
use Rattle.phase_table.specs.declared.phase.Phase.{Phase}
use Rattle.phase_table.specs.declared.phase.Phase.TheVariants as phase
use Rattle.phase_table.specs.Phases.{is_down}
use Rattle.sleep_model.specs.declared.entry.Entry.{Entry}
use Rattle.sleep_model.specs.declared.machine.Device.{Device}
use Rattle.sleep_model.specs.declared.machine.Link.{Link}
use Rattle.sleep_model.specs.declared.machine.Machine.{Machine}
use Rattle.sleep_model.specs.declared.progress.PhaseState.{PhaseState}
use Rattle.sleep_model.specs.declared.progress.PhaseState.TheVariants as state
use Rattle.sleep_model.specs.Devices.{is_async_device}
use Rattle.sleep_model.specs.Order.{order, below, above, links_after, links_at, parents_of}
use Rattle.sleep_model.specs.Runtime.{is_async}
use Rattle.sleep_model.specs.PhaseStates.{phase_states, state_at, is_ready, is_not_down, is_going_down, is_down_in, is_not_up}
use Rattle.sleep_model.specs.Walk.{first_where, last_where}
use Rattle.async_board.specs.Boards.{states_on, first_board, board_after}
use Rattle.async_board.specs.AtPoints.{board_at, BoardAgrees}

-- the states of a phase on the way down
pub states_down : (m : Machine) (past : List Entry) (p : Phase) → is_down p ≡ true → states_on (board_at m past) p ≡ phase_states (length m.devices) p past
states_down m past phase.Suspend e = refl
states_down m past phase.Late e = refl
states_down m past phase.Noirq e = refl
states_down m past p e = absurd (false≢true e)

-- no device is prepared at first
pub board_first : (m : Machine) → first_board (parents_of m.devices) (reverse m.links) (map is_async m.devices) ≡ board_at m []
board_first m =
    ap (λ (n : ℕ). record { parents = parents_of m.devices; links = reverse m.links; asynchronous = map is_async m.devices; suspend = replicate n state.Unprepared; late = replicate n state.Unprepared; noirq = replicate n state.Unprepared })
    (length-map m.devices (λ (x : Device). x.parent))

module _ (m : Machine) (past : List Entry) where
  -- what the board answers is what the definitions say
  pub agrees : BoardAgrees m past (board_at m past)
  agrees = record {
    asynchronous = λ d. refl;
    works = λ d. refl;
    stood = λ p d e. ap (λ ss. state_at ss d) (states_down m past p e);
    prepares = refl;
    completes = refl;
    takes = λ p e. ap (λ (ss : List PhaseState). last_where (λ d. is_ready (state_at ss d)) (order m past)) (states_down m past p e);
    closes = λ p e. ap (λ (ss : List PhaseState). first_where (λ d. is_going_down (state_at ss d)) (order m past)) (states_down m past p e);
    gives = λ p e. ap (λ (ss : List PhaseState). first_where (λ d. is_down_in (state_at ss d) && is_async_device m d) (order m past)) (states_down m past p e);
    raises = λ p e. ap (λ (ss : List PhaseState). first_where (λ d. is_down_in (state_at ss d) && not (is_async_device m d)) (order m past)) (states_down m past p e);
    opens = λ p e. ap (λ (ss : List PhaseState). first_where (λ d. is_not_up (state_at ss d)) (order m past)) (states_down m past p e);
    waits_for_below = λ p d e. ap (λ (ss : List PhaseState). first_where (λ x. is_not_down (state_at ss x)) (below m past d)) (states_down m past p e);
    waits_for_above = λ p d e. ap (λ (ss : List PhaseState). first_where (λ x. is_not_up (state_at ss x)) (above m past d)) (states_down m past p e);
    left_alone = λ d. refl;
  }

-- an entry that changes no link moves only the board
pub board_next : (m : Machine) (past : List Entry) (e : Entry) → links_after e.kind (links_at m past) ≡ links_at m past → board_after e.kind (board_at m past) ≡ board_at m (e ∷ past)
board_next m past e same =
    ap (λ (ls : List Link). record { parents = parents_of m.devices; links = ls; asynchronous = map is_async m.devices; suspend = phase_states (length m.devices) phase.Suspend (e ∷ past); late = phase_states (length m.devices) phase.Late (e ∷ past); noirq = phase_states (length m.devices) phase.Noirq (e ∷ past) }) (sym same)
