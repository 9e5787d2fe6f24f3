-- What is looked for among devices, and indices in their order.
use Rattle.std.specs.Prelude.{◌≡◌, ◌<◌, ◌≤◌, ◌-◌, ℕ, Bool, true, false, not, ◌&&◌, List, length, slice_index_or}
use Rattle.sleep_model.specs.declared.progress.PhaseState.{PhaseState}
use Rattle.sleep_model.specs.PhaseStates.{state_at, is_unprepared, is_prepared, is_ready, is_going_down, is_down_in, is_not_up}
use Rattle.sleep_model.specs.Walk.{is_so}
use Rattle.async_board.specs.declared.pick.Pick.{Pick}
use Rattle.async_board.specs.declared.pick.Pick.TheVariants as pick

-- a device in that state, asynchronous or not, is looked for
unfoldable pub picks : Pick → PhaseState → Bool → Bool
picks pick.Unprepared state asynchronous = is_unprepared state
picks pick.Prepared state asynchronous = is_prepared state
picks pick.Ready state asynchronous = is_ready state
picks pick.Going state asynchronous = is_going_down state
picks pick.ToSchedule state asynchronous = is_down_in state && asynchronous
picks pick.Up state asynchronous = is_down_in state && not asynchronous
picks pick.NotUp state asynchronous = is_not_up state

-- a device is looked for, by which are asynchronous and the state of each
unfoldable pub is_picked : Pick → List Bool → List PhaseState → ℕ → Bool
is_picked what asynchronous states d = picks what (state_at states d) (is_so asynchronous d)

-- none of the indices before this one passes
pub record IsPassed (p : ℕ → Bool) (xs : List ℕ) (at : ℕ) : Type 0 where
  pub fits : at ≤ length xs
  pub before : (i : ℕ) → i < at → p (slice_index_or xs i 0) ≡ false

-- this is the first index that passes, or the end
pub record IsFirst (p : ℕ → Bool) (xs : List ℕ) (at : ℕ) : Type 0 where
  pub passed : IsPassed p xs at
  pub here : at < length xs → p (slice_index_or xs at 0) ≡ true

-- none of the indices from this one on passes
pub record IsAhead (p : ℕ → Bool) (xs : List ℕ) (at : ℕ) : Type 0 where
  pub fits : at ≤ length xs
  pub behind : (i : ℕ) → at ≤ i → i < length xs → p (slice_index_or xs i 0) ≡ false

-- the last index that passes is the one before this one, or none does
pub record IsLast (p : ℕ → Bool) (xs : List ℕ) (at : ℕ) : Type 0 where
  pub ahead : IsAhead p xs at
  pub here : 0 < at → p (slice_index_or xs (at - 1) 0) ≡ true
