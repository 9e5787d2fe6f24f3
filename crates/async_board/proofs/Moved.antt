-- Cursors after one device has moved.
use Rattle.std.proofs.Common.{◌≡◌, ◌<◌, ◌≤◌, ◌∙◌, ap, ℕ, Bool, true, false, ◌⊎◌, inl, inr, List, length, get_or, subst, sym, arith}
use Rattle.std.specs.Prelude.{not, ◌&&◌}
use Rattle.std.proofs.Math.Bool.{and-false}
use Rattle.sleep_model.specs.PhaseStates.{state_at, is_down_in}
use Rattle.std.proofs.lemmas.Bool.{cases_eq}
use Rattle.sleep_model.specs.declared.progress.PhaseState.{PhaseState}
use Rattle.async_board.specs.declared.pick.Pick.{Pick}
use Rattle.async_board.specs.declared.pick.Pick.TheVariants as pick
use Rattle.async_board.specs.declared.cursors.Moved.{Moved}
use Rattle.async_board.specs.Picks.{picks, is_picked, IsPassed, IsAhead}
use Rattle.async_board.specs.Cursors.{IsPassedBut, IsAheadBut, IsMoved}

-- the device that moved is looked for by its present state
pub moved_here : (asynchronous : List Bool) (states : List PhaseState) (order : List ℕ) (m : Moved) (what : Pick) → IsMoved asynchronous states order m
    → is_picked what asynchronous states (get_or order m.place 0) ≡ picks what m.after m.asynchronous
unfolding is_picked
moved_here asynchronous states order m what h = sym (ap (λ s. picks what s m.asynchronous) h.after ∙ ap (λ b. picks what (state_at states (get_or order m.place 0)) b) h.asynchronous)

-- none passes, if the one that moved does not either
pub passed_now : (k : ℕ) (was : Bool) (p : ℕ → Bool) (xs : List ℕ) (at : ℕ) → IsPassedBut k was p xs at → p (get_or xs k 0) ≡ false → IsPassed p xs at
passed_now k was p xs at h e = record { fits = h.fits; before = λ i l. by_place i l (cases_eq i k) }
  where
    by_place : (i : ℕ) → i < at → (i ≡ k) ⊎ (i ≡ k → ⊥) → p (get_or xs i 0) ≡ false
    by_place i l (inl same) = subst (λ (j : ℕ). p (get_or xs j 0) ≡ false) (sym same) e
    by_place i l (inr other) = h.before i l other

pub ahead_now : (k : ℕ) (was : Bool) (p : ℕ → Bool) (xs : List ℕ) (at : ℕ) → IsAheadBut k was p xs at → p (get_or xs k 0) ≡ false → IsAhead p xs at
ahead_now k was p xs at h e = record { fits = h.fits; behind = λ i l m. by_place i l m (cases_eq i k) }
  where
    by_place : (i : ℕ) → at ≤ i → i < length xs → (i ≡ k) ⊎ (i ≡ k → ⊥) → p (get_or xs i 0) ≡ false
    by_place i l m (inl same) = subst (λ (j : ℕ). p (get_or xs j 0) ≡ false) (sym same) e
    by_place i l m (inr other) = h.behind i l m other

-- none passes, if the one that moved does as before
pub passed_still : (k : ℕ) (was : Bool) (p : ℕ → Bool) (xs : List ℕ) (at : ℕ) → IsPassedBut k was p xs at → p (get_or xs k 0) ≡ was → IsPassed p xs at
passed_still k was p xs at h e = record { fits = h.fits; before = λ i l. by_place i l (cases_eq i k) }
  where
    by_place : (i : ℕ) → i < at → (i ≡ k) ⊎ (i ≡ k → ⊥) → p (get_or xs i 0) ≡ false
    by_place i l (inl same) = subst (λ (j : ℕ). p (get_or xs j 0) ≡ false) (sym same) (e ∙ h.here (omega (arith, same)))
    by_place i l (inr other) = h.before i l other

pub ahead_still : (k : ℕ) (was : Bool) (p : ℕ → Bool) (xs : List ℕ) (at : ℕ) → IsAheadBut k was p xs at → p (get_or xs k 0) ≡ was → IsAhead p xs at
ahead_still k was p xs at h e = record { fits = h.fits; behind = λ i l m. by_place i l m (cases_eq i k) }
  where
    by_place : (i : ℕ) → at ≤ i → i < length xs → (i ≡ k) ⊎ (i ≡ k → ⊥) → p (get_or xs i 0) ≡ false
    by_place i l m (inl same) = subst (λ (j : ℕ). p (get_or xs j 0) ≡ false) (sym same) (e ∙ h.here (omega (arith, same)))
    by_place i l m (inr other) = h.behind i l m other

-- an asynchronous device is never taken up by the walk itself, a synchronous one never scheduled
pub up_apart : (asynchronous : List Bool) (states : List PhaseState) (order : List ℕ) (m : Moved) (was : Bool) (at : ℕ) → IsMoved asynchronous states order m → m.asynchronous ≡ true
    → IsPassedBut m.place was (is_picked pick.Up asynchronous states) order at → IsPassed (is_picked pick.Up asynchronous states) order at
unfolding picks
up_apart asynchronous states order m was at h e but =
    passed_now m.place was (is_picked pick.Up asynchronous states) order at but
    (moved_here asynchronous states order m pick.Up h ∙ (ap (λ b. is_down_in m.after && not b) e ∙ and-false (is_down_in m.after)))

pub to_schedule_apart : (asynchronous : List Bool) (states : List PhaseState) (order : List ℕ) (m : Moved) (was : Bool) (at : ℕ) → IsMoved asynchronous states order m → m.asynchronous ≡ false
    → IsPassedBut m.place was (is_picked pick.ToSchedule asynchronous states) order at → IsPassed (is_picked pick.ToSchedule asynchronous states) order at
unfolding picks
to_schedule_apart asynchronous states order m was at h e but =
    passed_now m.place was (is_picked pick.ToSchedule asynchronous states) order at but
    (moved_here asynchronous states order m pick.ToSchedule h ∙ (ap (λ b. is_down_in m.after && b) e ∙ and-false (is_down_in m.after)))
