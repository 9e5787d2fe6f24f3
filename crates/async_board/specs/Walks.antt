-- What a walk has of a pair of phases: states, cursors and counts.
use Rattle.std.specs.Prelude.{◌≡◌, ◌≢◌, ◌<◌, ℕ, Bool, true, false, List, length, replicate, Option, slice_index_or}
use Rattle.sleep_model.specs.declared.machine.Link.{Link}
use Rattle.sleep_model.specs.declared.progress.PhaseState.{PhaseState}
use Rattle.sleep_model.specs.declared.progress.PhaseState.TheVariants as state
use Rattle.sleep_model.specs.Links.{first_occurrences}
use Rattle.sleep_model.specs.Order.{active_of, dependents, superiors, order_by}
use Rattle.sleep_model.specs.PhaseStates.{state_at, is_not_down, is_not_up}
use Rattle.async_board.specs.Counts.{IsCount}
use Rattle.async_board.specs.Cursors.{AreCursors}
use Rattle.async_board.specs.declared.walk.Layout.{Layout}
use Rattle.async_board.specs.declared.walk.Walk.{Walk}

-- these are the indices of the order's devices, which it has once each
pub record AreIndices (order indices : List ℕ) : Type 0 where
  pub size : length indices ≡ length order
  pub once : (i : ℕ) → i < length order → slice_index_or indices (slice_index_or order i 0) 0 ≡ i
  pub within : (d : ℕ) → d < length order → slice_index_or indices d 0 < length order
  pub here : (d : ℕ) → d < length order → slice_index_or order (slice_index_or indices d 0) 0 ≡ d

-- whether a device has failed since it was prepared, after one has moved to there
abbrev pub failed_after : PhaseState → Bool → Bool
failed_after state.Failed before = true
failed_after state.Prepared before = false
failed_after _ before = before

-- how many devices right below each are not done with the phase on the way down
abbrev pub IsBelow : List (Option ℕ) → List Link → List PhaseState → List ℕ → Type 0
IsBelow parents links states counts =
    IsCount (length parents) (λ d. is_not_down (state_at states d))
    (λ d. first_occurrences (dependents parents (active_of links) d)) counts

-- how many devices right above each are not yet up
abbrev pub IsAbove : List (Option ℕ) → List Link → List PhaseState → List ℕ → Type 0
IsAbove parents links states counts =
    IsCount (length parents) (λ d. is_not_up (state_at states d))
    (λ d. first_occurrences (superiors parents (active_of links) d)) counts

-- the order that the links of a layout leave
abbrev pub order_of : Layout → List ℕ
order_of l = order_by l.links.parents l.links.links

-- the indices of a layout are those of its order
abbrev pub IsLayout : Layout → Type 0
IsLayout l = AreIndices (order_of l) l.indices.items

-- a pair of phases over a layout: a state for each device, the cursors, and how many devices each waits for
pub record IsWalk (l : Layout) (w : Walk) : Type 0 where
  pub size : length w.states.items ≡ length l.links.parents
  pub cursors : AreCursors l.asynchronous.items w.states.items (order_of l) w.cursors
  pub below : IsBelow l.links.parents l.links.links w.states.items w.open_below.items
  pub above : IsAbove l.links.parents l.links.links w.states.items w.open_above.items

-- a pair of phases has entries for n devices
pub record IsSized (n : ℕ) (w : Walk) : Type 0 where
  pub states : length w.states.items ≡ n
  pub below : length w.open_below.items ≡ n
  pub above : length w.open_above.items ≡ n

-- no device is prepared, and each but one has the count of those right below it by the links of the layout
pub record IsRested (l : Layout) (but : ℕ) (w : Walk) : Type 0 where
  pub states : w.states.items ≡ replicate (length l.links.parents) state.Unprepared
  pub above : w.open_above.items ≡ replicate (length l.links.parents) 0
  pub below : (d : ℕ) → d < length l.links.parents → d ≢ but
      → slice_index_or w.open_below.items d 0 ≡ length (first_occurrences (dependents l.links.parents (active_of l.links.links) d))

-- a pair of phases may begin anew over a layout whose links have changed only right below this supplier: if no device is prepared, only the
-- supplier's count may be another
pub record MayRestart (l : Layout) (supplier : ℕ) (w : Walk) : Type 0 where
  pub size : IsSized (length l.links.parents) w
  pub rest : w.cursors.prepared ≡ 0 → IsRested l supplier w
