-- What each device waits for, after one device has moved.
use Rattle.std.proofs.Common.{◌≡◌, ◌<◌, ◌+◌, ◌&&◌, ◌∙◌, ℕ, Bool, true, false, List, length, get_or, set, Option, refl, sym, ap, subst, arith, length-set}
use Rattle.std.proofs.Math.Bool.{beq, not}
use Rattle.std.proofs.lemmas.Bool.{true≢false}
use Rattle.sleep_model.specs.declared.machine.Link.{Link}
use Rattle.sleep_model.specs.declared.progress.PhaseState.{PhaseState}
use Rattle.sleep_model.specs.Order.{active_of, is_among, dependents, superiors, order_by}
use Rattle.sleep_model.specs.Links.{first_occurrences, IsOrder}
use Rattle.sleep_model.specs.PhaseStates.{state_at, is_not_down, is_not_up}
use Rattle.sleep_model.proofs.FirstOccurrences.{among_first_occurrences}
use Rattle.async_board.specs.Counts.{one, AreShifted}
use Rattle.async_board.specs.Walks.{IsBelow, IsAbove}
use Rattle.async_board.proofs.Stood.{others_stand, states_anew, not_up_within}
use Rattle.async_board.proofs.Waiting.{first_different, above_across, below_across, order_depends, count_moved, count_some, count_few}

-- a test that is not another than before
as_before : (was is : Bool) → not (beq was is) ≡ false → was ≡ is
as_before true true e = refl
as_before true false e = absurd (true≢false e)
as_before false true e = absurd (true≢false e)
as_before false false e = refl

module _ (ps : List (Option ℕ)) (ls : List Link) (states : List PhaseState) (d : ℕ) (s : PhaseState) (counts : List ℕ) (size : length states ≡ length ps) (within : d < length ps) where
  d_stands : d < length states
  d_stands = omega (arith, size, within)

  -- on the way down
  pub below_some : IsBelow ps ls states counts → is_not_down (state_at states d) ≡ true → (x : ℕ) → x < length counts → is_among (first_occurrences (superiors ps (active_of ls) d)) x ≡ true → 0 < get_or counts x 0
  below_some h was =
      count_some (length ps) (λ x. is_not_down (state_at states x)) (λ x. is_not_down (state_at (set states d s) x)) (λ x. first_occurrences (dependents ps (active_of ls) x)) (first_occurrences (superiors ps (active_of ls) d)) d counts h
      (λ x. first_different (dependents ps (active_of ls) x)) (λ x l. above_across ps (active_of ls) x d within) (λ x ne. ap is_not_down (others_stand states d x s ne)) was

  pub below_few : IsOrder (dependents ps (active_of ls)) (order_by ps ls) → ((x : ℕ) → x < length ps → is_among (order_by ps ls) x ≡ true) → ((x : ℕ) → is_among (order_by ps ls) x ≡ true → x < length ps)
      → IsBelow ps ls states counts → is_not_down (state_at states d) ≡ false → is_not_down s ≡ true → (x : ℕ) → x < length counts → is_among (first_occurrences (superiors ps (active_of ls) d)) x ≡ true → get_or counts x 0 < length counts
  below_few ranked covers stays h was is =
      count_few (length ps) (λ x. is_not_down (state_at states x)) (λ x. is_not_down (state_at (set states d s) x)) (λ x. first_occurrences (dependents ps (active_of ls) x)) (first_occurrences (superiors ps (active_of ls) d)) d counts h
      (λ x. first_different (dependents ps (active_of ls) x)) (λ x l. above_across ps (active_of ls) x d within) (λ x ne. ap is_not_down (others_stand states d x s ne))
      (λ y x l m t. stays x (order_depends (dependents ps (active_of ls)) (order_by ps ls) ranked y x (covers y l) (sym (among_first_occurrences (dependents ps (active_of ls) y) x) ∙ m)))
      was (ap is_not_down (states_anew states d s d_stands) ∙ is)

  pub below_moved : IsBelow ps ls states counts → (row : List ℕ) (was is : Bool) (new : List ℕ) → row ≡ first_occurrences (superiors ps (active_of ls) d) → was ≡ is_not_down (state_at states d) → is ≡ is_not_down s → AreShifted row was is counts new → IsBelow ps ls (set states d s) new
  below_moved h row was is new a b c t =
      count_moved (length ps) (λ x. is_not_down (state_at states x)) (λ x. is_not_down (state_at (set states d s) x)) (λ x. first_occurrences (dependents ps (active_of ls) x)) (first_occurrences (superiors ps (active_of ls) d)) d counts h
      (λ x. first_different (dependents ps (active_of ls) x)) (λ x l. above_across ps (active_of ls) x d within) (λ x ne. ap is_not_down (others_stand states d x s ne)) new
      (subst (λ (r : List ℕ). AreShifted r (is_not_down (state_at states d)) (is_not_down (state_at (set states d s) d)) counts new) a
      (subst (λ (x : Bool). AreShifted row x (is_not_down (state_at (set states d s) d)) counts new) b
      (subst (λ (x : Bool). AreShifted row was x counts new) (c ∙ sym (ap is_not_down (states_anew states d s d_stands))) t)))

  -- it is done or not, as before
  pub below_same : IsBelow ps ls states counts → (was is : Bool) → was ≡ is_not_down (state_at states d) → is ≡ is_not_down s → not (beq was is) ≡ false → IsBelow ps ls (set states d s) counts
  below_same h was is a b e =
      below_moved h (first_occurrences (superiors ps (active_of ls) d)) was is counts refl a b
      (record { size = refl; each = λ x l. ap (λ v. get_or counts x 0 + one (v && is_among (first_occurrences (superiors ps (active_of ls) d)) x)) (as_before was is e) })

  -- on the way up
  pub above_some : IsAbove ps ls states counts → is_not_up (state_at states d) ≡ true → (x : ℕ) → x < length counts → is_among (first_occurrences (dependents ps (active_of ls) d)) x ≡ true → 0 < get_or counts x 0
  above_some h was =
      count_some (length ps) (λ x. is_not_up (state_at states x)) (λ x. is_not_up (state_at (set states d s) x)) (λ x. first_occurrences (superiors ps (active_of ls) x)) (first_occurrences (dependents ps (active_of ls) d)) d counts h
      (λ x. first_different (superiors ps (active_of ls) x)) (λ x l. below_across ps (active_of ls) x d l) (λ x ne. ap is_not_up (others_stand states d x s ne)) was

  pub above_few : IsAbove ps ls states counts → is_not_up (state_at states d) ≡ false → is_not_up s ≡ true → (x : ℕ) → x < length counts → is_among (first_occurrences (dependents ps (active_of ls) d)) x ≡ true → get_or counts x 0 < length counts
  above_few h was is =
      count_few (length ps) (λ x. is_not_up (state_at states x)) (λ x. is_not_up (state_at (set states d s) x)) (λ x. first_occurrences (superiors ps (active_of ls) x)) (first_occurrences (dependents ps (active_of ls) d)) d counts h
      (λ x. first_different (superiors ps (active_of ls) x)) (λ x l. below_across ps (active_of ls) x d l) (λ x ne. ap is_not_up (others_stand states d x s ne))
      (λ y x l m t. let k = not_up_within (set states d s) x t in omega (arith, k, length-set states d s, size))
      was (ap is_not_up (states_anew states d s d_stands) ∙ is)

  pub above_moved : IsAbove ps ls states counts → (row : List ℕ) (was is : Bool) (new : List ℕ) → row ≡ first_occurrences (dependents ps (active_of ls) d) → was ≡ is_not_up (state_at states d) → is ≡ is_not_up s → AreShifted row was is counts new → IsAbove ps ls (set states d s) new
  above_moved h row was is new a b c t =
      count_moved (length ps) (λ x. is_not_up (state_at states x)) (λ x. is_not_up (state_at (set states d s) x)) (λ x. first_occurrences (superiors ps (active_of ls) x)) (first_occurrences (dependents ps (active_of ls) d)) d counts h
      (λ x. first_different (superiors ps (active_of ls) x)) (λ x l. below_across ps (active_of ls) x d l) (λ x ne. ap is_not_up (others_stand states d x s ne)) new
      (subst (λ (r : List ℕ). AreShifted r (is_not_up (state_at states d)) (is_not_up (state_at (set states d s) d)) counts new) a
      (subst (λ (x : Bool). AreShifted row x (is_not_up (state_at (set states d s) d)) counts new) b
      (subst (λ (x : Bool). AreShifted row was x counts new) (c ∙ sym (ap is_not_up (states_anew states d s d_stands))) t)))

  -- it is up as little as before
  pub above_same : IsAbove ps ls states counts → (was is : Bool) → was ≡ is_not_up (state_at states d) → is ≡ is_not_up s → not (beq was is) ≡ false → IsAbove ps ls (set states d s) counts
  above_same h was is a b e =
      above_moved h (first_occurrences (dependents ps (active_of ls) d)) was is counts refl a b
      (record { size = refl; each = λ x l. ap (λ v. get_or counts x 0 + one (v && is_among (first_occurrences (dependents ps (active_of ls) d)) x)) (as_before was is e) })
