-- The devices right below or above one, and those of them that it waits for.
use Rattle.std.specs.Prelude.{ℕ, Bool, List, length, Option}
use Rattle.phase_table.specs.declared.phase.Phase.{Phase}
use Rattle.sleep_model.specs.declared.machine.Link.{Link}
use Rattle.sleep_model.specs.declared.progress.PhaseState.{PhaseState}
use Rattle.sleep_model.specs.Links.{first_occurrences}
use Rattle.sleep_model.specs.Order.{active_of, dependents, superiors}
use Rattle.sleep_model.specs.PhaseStates.{state_at, is_not_down, is_not_up}
use Rattle.sleep_model.specs.Walk.{first_where}
use Rattle.async_board.specs.Boards.{BoardState, states_on}
use Rattle.async_board.specs.Counts.{IsCount}
use Rattle.async_board.specs.declared.rows.Side.{Side}
use Rattle.async_board.specs.declared.rows.Side.TheVariants as side
use Rattle.async_board.specs.declared.walk.Walk.{Walk}

-- a device in that state is waited for: one below until it is down (dpm_wait_for_subordinate), one above until it is up (dpm_wait_for_superior)
unfoldable pub is_open : Side → PhaseState → Bool
is_open side.Below s = is_not_down s
is_open side.Above s = is_not_up s

-- the devices right on that side of d
unfoldable pub beside : Side → List (Option ℕ) → List Link → ℕ → List ℕ
beside side.Below parents links d = dependents parents (active_of links) d
beside side.Above parents links d = superiors parents (active_of links) d

-- how many devices each waits for on that side
abbrev pub IsOpenCount : Side → List (Option ℕ) → List Link → List PhaseState → List ℕ → Type 0
IsOpenCount at parents links states counts =
    IsCount (length parents) (λ d. is_open at (state_at states d)) (λ d. first_occurrences (beside at parents links d)) counts

-- the counts of a walk on that side
unfoldable pub open_counts : Side → Walk → List ℕ
open_counts side.Below w = w.open_below.items
open_counts side.Above w = w.open_above.items

-- the first device on that side of d that it waits for
abbrev pub waits_on : Side → BoardState → Phase → ℕ → Option ℕ
waits_on at board p d = first_where (λ e. is_open at (state_at (states_on board p) e)) (beside at board.parents board.links d)
