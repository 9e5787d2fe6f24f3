-- Cursors in the devices' order.
use Rattle.std.specs.Prelude.{◌≡◌, ◌≢◌, ◌<◌, ◌≤◌, ℕ, Bool, false, List, length, slice_index_or}
use Rattle.sleep_model.specs.declared.progress.PhaseState.{PhaseState}
use Rattle.async_board.specs.declared.pick.Pick.TheVariants as pick
use Rattle.async_board.specs.declared.cursors.Cursors.{Cursors}
use Rattle.async_board.specs.declared.cursors.Moved.{Moved}
use Rattle.sleep_model.specs.PhaseStates.{state_at}
use Rattle.sleep_model.specs.Walk.{is_so}
use Rattle.async_board.specs.Picks.{picks, is_picked, IsPassed, IsAhead}

-- none of the indices before this one passes, but index k may; was: that one did
pub record IsPassedBut (k : ℕ) (was : Bool) (p : ℕ → Bool) (xs : List ℕ) (at : ℕ) : Type 0 where
  pub fits : at ≤ length xs
  pub before : (i : ℕ) → i < at → i ≢ k → p (slice_index_or xs i 0) ≡ false
  pub here : k < at → was ≡ false

-- none of the indices from this one on passes, but index k may; was: that one did
pub record IsAheadBut (k : ℕ) (was : Bool) (p : ℕ → Bool) (xs : List ℕ) (at : ℕ) : Type 0 where
  pub fits : at ≤ length xs
  pub behind : (i : ℕ) → at ≤ i → i < length xs → i ≢ k → p (slice_index_or xs i 0) ≡ false
  pub here : at ≤ k → was ≡ false

-- the device at its index, in its present state
pub record IsMoved (flags : List Bool) (states : List PhaseState) (order : List ℕ) (m : Moved) : Type 0 where
  pub within : m.place < length order
  pub after : m.after ≡ state_at states (slice_index_or order m.place 0)
  pub asynchronous : m.asynchronous ≡ is_so flags (slice_index_or order m.place 0)

-- the cursors of devices in these states in this order
pub record AreCursors (asynchronous : List Bool) (states : List PhaseState) (order : List ℕ) (c : Cursors) : Type 0 where
  pub unprepared : IsPassed (is_picked pick.Unprepared asynchronous states) order c.unprepared
  pub going : IsPassed (is_picked pick.Going asynchronous states) order c.going
  pub to_schedule : IsPassed (is_picked pick.ToSchedule asynchronous states) order c.to_schedule
  pub up : IsPassed (is_picked pick.Up asynchronous states) order c.up
  pub not_up : IsPassed (is_picked pick.NotUp asynchronous states) order c.not_up
  pub ready : IsAhead (is_picked pick.Ready asynchronous states) order c.ready
  pub prepared : IsAhead (is_picked pick.Prepared asynchronous states) order c.prepared

-- the cursors of devices in these states in this order, but from before this one moved
pub record AreCursorsBut (m : Moved) (asynchronous : List Bool) (states : List PhaseState) (order : List ℕ) (c : Cursors)
    : Type 0 where
  pub unprepared : IsPassedBut m.place (picks pick.Unprepared m.before m.asynchronous) (is_picked pick.Unprepared asynchronous states) order c.unprepared
  pub going : IsPassedBut m.place (picks pick.Going m.before m.asynchronous) (is_picked pick.Going asynchronous states) order c.going
  pub to_schedule : IsPassedBut m.place (picks pick.ToSchedule m.before m.asynchronous) (is_picked pick.ToSchedule asynchronous states) order c.to_schedule
  pub up : IsPassedBut m.place (picks pick.Up m.before m.asynchronous) (is_picked pick.Up asynchronous states) order c.up
  pub not_up : IsPassedBut m.place (picks pick.NotUp m.before m.asynchronous) (is_picked pick.NotUp asynchronous states) order c.not_up
  pub ready : IsAheadBut m.place (picks pick.Ready m.before m.asynchronous) (is_picked pick.Ready asynchronous states) order c.ready
  pub prepared : IsAheadBut m.place (picks pick.Prepared m.before m.asynchronous) (is_picked pick.Prepared asynchronous states) order c.prepared
