-- What is seen of the others after one device has moved.
use Rattle.std.proofs.Common.{◌≡◌, ◌≢◌, ◌<◌, ◌≤◌, ◌∙◌, ℕ, zero, suc, Option, Bool, true, false, List, [], ◌∷◌, length, filter, replicate, get_or, set, cond, refl, sym, ap, subst, arith, get_or-set_same, get_or-set_other}
use Rattle.std.proofs.lemmas.Bool.{false≢true}
use Rattle.sleep_model.specs.declared.progress.PhaseState.{PhaseState}
use Rattle.sleep_model.specs.declared.progress.PhaseState.TheVariants as state
use Rattle.std.proofs.lemmas.List.{length-replicate, set-get_or}
use Rattle.sleep_model.specs.declared.machine.Link.{Link}
use Rattle.sleep_model.specs.Order.{active_of, dependents, superiors}
use Rattle.sleep_model.specs.Links.{first_occurrences}
use Rattle.sleep_model.specs.PhaseStates.{state_at, is_not_up, is_not_down}
use Rattle.async_board.specs.declared.walk.Layout.{Layout}
use Rattle.async_board.specs.declared.walk.Walk.{Walk}
use Rattle.async_board.specs.Counts.{IsLengths}
use Rattle.async_board.specs.declared.pick.Pick.{Pick}
use Rattle.async_board.specs.declared.pick.Pick.TheVariants as pick
use Rattle.async_board.specs.declared.cursors.Cursors.{Cursors}
use Rattle.async_board.specs.declared.cursors.Moved.{Moved}
use Rattle.sleep_model.specs.Walk.{is_so}
use Rattle.async_board.specs.Picks.{picks, is_picked, IsPassed, IsAhead}
use Rattle.async_board.specs.Cursors.{IsPassedBut, IsAheadBut, IsMoved, AreCursors, AreCursorsBut}
use Rattle.async_board.specs.Walks.{AreIndices, IsBelow, IsAbove, IsWalk, order_of}

-- a device that is put in the state that it has moves nothing
pub states_stay : (states : List PhaseState) (d : ℕ) (after : PhaseState) → after ≡ state_at states d → set states d after ≡ states
states_stay states d after e = ap (set states d) e ∙ set-get_or states d state.Unprepared

pub others_stand : (states : List PhaseState) (d x : ℕ) (s : PhaseState) → (x ≡ d → ⊥) → state_at (set states d s) x ≡ state_at states x
others_stand states d x s ne = get_or-set_other states d x s state.Unprepared ne

pub states_anew : (states : List PhaseState) (d : ℕ) (s : PhaseState) → d < length states → state_at (set states d s) d ≡ s
states_anew states d s l = get_or-set_same states d s state.Unprepared l

-- who is not up is a device
pub not_up_within : (states : List PhaseState) (x : ℕ) → is_not_up (state_at states x) ≡ true → x < length states
not_up_within [] x h = absurd (false≢true h)
not_up_within (s ∷ states) zero h = omega arith
not_up_within (s ∷ states) (suc x) h = omega (arith, not_up_within states x h)

module _ (asynchronous : List Bool) (states : List PhaseState) (order indices : List ℕ) (d : ℕ) (s : PhaseState) (placed : AreIndices order indices) where
  other : (i : ℕ) → i < length order → i ≢ get_or indices d 0 → get_or order i 0 ≡ d → ⊥
  other i l ne e = ne (sym (placed.once i l) ∙ ap (λ x. get_or indices x 0) e)

  picked_same : (what : Pick) (x : ℕ) → (x ≡ d → ⊥) → is_picked what asynchronous (set states d s) x ≡ is_picked what asynchronous states x
  unfolding is_picked
  picked_same what x ne = ap (λ t. picks what t (is_so asynchronous x)) (others_stand states d x s ne)

  module _ (m : Moved) (place : m.place ≡ get_or indices d 0) (before : m.before ≡ state_at states d) (flag : m.asynchronous ≡ is_so asynchronous d) (within : d < length order) where
    device_here : get_or order m.place 0 ≡ d
    device_here = ap (λ i. get_or order i 0) place ∙ placed.here d within

    was_here : (what : Pick) → picks what m.before m.asynchronous ≡ is_picked what asynchronous states (get_or order m.place 0)
    unfolding is_picked
    was_here what = ap (λ t. picks what t m.asynchronous) before ∙ (ap (λ b. picks what (state_at states d) b) flag ∙ ap (λ x. picks what (state_at states x) (is_so asynchronous x)) (sym device_here))

    passed_but : (what : Pick) (at : ℕ) → IsPassed (is_picked what asynchronous states) order at → IsPassedBut m.place (picks what m.before m.asynchronous) (is_picked what asynchronous (set states d s)) order at
    passed_but what at h = record {
      fits = h.fits;
      before = λ i l ne. picked_same what (get_or order i 0) (other i (let f : at ≤ length order = h.fits in omega arith) (λ e. ne (e ∙ sym place))) ∙ h.before i l;
      here = λ l. was_here what ∙ h.before m.place l;
    }

    ahead_but : (what : Pick) (at : ℕ) → IsAhead (is_picked what asynchronous states) order at → IsAheadBut m.place (picks what m.before m.asynchronous) (is_picked what asynchronous (set states d s)) order at
    ahead_but what at h = record {
      fits = h.fits;
      behind = λ i l k ne. picked_same what (get_or order i 0) (other i k (λ e. ne (e ∙ sym place))) ∙ h.behind i l k;
      here = λ l. was_here what ∙ h.behind m.place l (rw place (placed.within d within));
    }

    -- the cursors, from before the device moved
    pub cursors_but : (c : Cursors) → AreCursors asynchronous states order c → AreCursorsBut m asynchronous (set states d s) order c
    cursors_but c h = record {
      unprepared = passed_but pick.Unprepared c.unprepared h.unprepared;
      going = passed_but pick.Going c.going h.going;
      to_schedule = passed_but pick.ToSchedule c.to_schedule h.to_schedule;
      up = passed_but pick.Up c.up h.up;
      not_up = passed_but pick.NotUp c.not_up h.not_up;
      ready = ahead_but pick.Ready c.ready h.ready;
      prepared = ahead_but pick.Prepared c.prepared h.prepared;
    }

    -- the device that moved, in its present state
    pub is_moved : m.after ≡ s → d < length states → IsMoved asynchronous (set states d s) order m
    is_moved after l = record {
      within = rw place (placed.within d within);
      after = after ∙ (sym (states_anew states d s l) ∙ ap (state_at (set states d s)) (sym device_here));
      asynchronous = flag ∙ ap (is_so asynchronous) (sym device_here);
    }

-- ---- the first states

pub fresh_states : (n d : ℕ) → state_at (replicate n state.Unprepared) d ≡ state.Unprepared
fresh_states zero d = refl
fresh_states (suc n) zero = refl
fresh_states (suc n) (suc d) = fresh_states n d

pub all_pass : (p : ℕ → Bool) (xs : List ℕ) → ((x : ℕ) → p x ≡ true) → filter p xs ≡ xs
all_pass p [] h = refl
all_pass p (x ∷ xs) h = ap (λ b. cond b (x ∷ filter p xs) (filter p xs)) (h x) ∙ ap (λ ys. x ∷ ys) (all_pass p xs h)

pub none_pass : (p : ℕ → Bool) (xs : List ℕ) → ((x : ℕ) → p x ≡ false) → filter p xs ≡ []
none_pass p [] h = refl
none_pass p (x ∷ xs) h = ap (λ b. cond b (x ∷ filter p xs) (filter p xs)) (h x) ∙ none_pass p xs h

pub zeros : (n d : ℕ) → get_or {A = ℕ} (replicate n 0) d 0 ≡ 0
zeros zero d = refl
zeros (suc n) zero = refl
zeros (suc n) (suc d) = zeros n d

-- all are below and not done, and none is up
pub fresh_below : (ps : List (Option ℕ)) (ls : List Link) (counts : List ℕ) → IsLengths (length ps) (λ d. first_occurrences (dependents ps (active_of ls) d)) counts → IsBelow ps ls (replicate (length ps) state.Unprepared) counts
fresh_below ps ls counts h = record {
  size = h.size;
  each = λ d l. h.each d l ∙ ap length (sym (all_pass (λ x. is_not_down (state_at (replicate (length ps) state.Unprepared) x)) (first_occurrences (dependents ps (active_of ls) d)) (λ x. ap is_not_down (fresh_states (length ps) x))));
}

pub fresh_above : (ps : List (Option ℕ)) (ls : List Link) → IsAbove ps ls (replicate (length ps) state.Unprepared) (replicate (length ps) 0)
fresh_above ps ls = record {
  size = length-replicate (length ps) 0;
  each = λ d l. zeros (length ps) d ∙ ap length (sym (none_pass (λ x. is_not_up (state_at (replicate (length ps) state.Unprepared) x)) (first_occurrences (superiors ps (active_of ls) d)) (λ x. ap is_not_up (fresh_states (length ps) x))));
}

-- what a device that is not prepared is found by
abbrev is_first_found : Pick → Bool
is_first_found pick.Unprepared = true
is_first_found _ = false

fresh_passed : (p : ℕ → Bool) (xs : List ℕ) → IsPassed p xs 0
fresh_passed p xs = record { fits = omega arith; before = λ i l. absurd (omega arith) }

-- what no device is that is not prepared
fresh_none : (what : Pick) (asynchronous : List Bool) (n x : ℕ) → ((b : Bool) → picks what state.Unprepared b ≡ false) → is_picked what asynchronous (replicate n state.Unprepared) x ≡ false
unfolding is_picked
fresh_none what asynchronous n x h = ap (λ t. picks what t (is_so asynchronous x)) (fresh_states n x) ∙ h (is_so asynchronous x)

fresh_beyond : (p : ℕ → Bool) (xs : List ℕ) → ((x : ℕ) → p x ≡ false) → IsPassed p xs (length xs)
fresh_beyond p xs h = record { fits = omega arith; before = λ i l. h (get_or xs i 0) }

fresh_ahead : (p : ℕ → Bool) (xs : List ℕ) → ((x : ℕ) → p x ≡ false) → IsAhead p xs 0
fresh_ahead p xs h = record { fits = omega arith; behind = λ i l m. h (get_or xs i 0) }

no_picks : (what : Pick) → is_first_found what ≡ false → (b : Bool) → picks what state.Unprepared b ≡ false
unfolding picks
no_picks pick.Unprepared e b = absurd (false≢true (sym e))
no_picks pick.Prepared e b = refl
no_picks pick.Ready e b = refl
no_picks pick.Going e b = refl
no_picks pick.ToSchedule e b = refl
no_picks pick.Up e b = refl
no_picks pick.NotUp e b = refl

pub fresh_cursors : (asynchronous : List Bool) (m : ℕ) (order : List ℕ) (n : ℕ) → n ≡ length order
    → AreCursors asynchronous (replicate m state.Unprepared) order (record { unprepared = 0; going = n; to_schedule = n; up = n; not_up = n; ready = 0; prepared = 0 })
fresh_cursors asynchronous m order n e = record {
  unprepared = fresh_passed (is_picked pick.Unprepared asynchronous (replicate m state.Unprepared)) order;
  going = beyond pick.Going refl;
  to_schedule = beyond pick.ToSchedule refl;
  up = beyond pick.Up refl;
  not_up = beyond pick.NotUp refl;
  ready = fresh_ahead (is_picked pick.Ready asynchronous (replicate m state.Unprepared)) order (λ x. fresh_none pick.Ready asynchronous m x (no_picks pick.Ready refl));
  prepared = fresh_ahead (is_picked pick.Prepared asynchronous (replicate m state.Unprepared)) order (λ x. fresh_none pick.Prepared asynchronous m x (no_picks pick.Prepared refl));
}
  where
    beyond : (what : Pick) → is_first_found what ≡ false → IsPassed (is_picked what asynchronous (replicate m state.Unprepared)) order n
    beyond what f = subst (λ (k : ℕ). IsPassed (is_picked what asynchronous (replicate m state.Unprepared)) order k) (sym e) (fresh_beyond (is_picked what asynchronous (replicate m state.Unprepared)) order (λ x. fresh_none what asynchronous m x (no_picks what f)))

-- a walk in which no device is prepared
pub fresh_walk : (l : Layout) (w : Walk) (n : ℕ) → n ≡ length (order_of l) → n ≡ length l.links.parents → w.states.items ≡ replicate n state.Unprepared
    → w.cursors ≡ record { unprepared = 0; going = n; to_schedule = n; up = n; not_up = n; ready = 0; prepared = 0 }
    → IsLengths (length l.links.parents) (λ d. first_occurrences (dependents l.links.parents (active_of l.links.links) d)) w.open_below.items → w.open_above.items ≡ replicate n 0 → IsWalk l w
fresh_walk l w n e f states cursors below above = record {
  size = ap length states ∙ (length-replicate n state.Unprepared ∙ f);
  cursors =
      subst (λ (ss : List PhaseState). AreCursors l.asynchronous.items ss (order_of l) w.cursors) (sym states)
      (subst (λ (c : Cursors). AreCursors l.asynchronous.items (replicate n state.Unprepared) (order_of l) c) (sym cursors) (fresh_cursors l.asynchronous.items n (order_of l) n e));
  below = subst (λ (ss : List PhaseState). IsBelow l.links.parents l.links.links ss w.open_below.items) (sym fresh) (fresh_below l.links.parents l.links.links w.open_below.items below);
  above =
      subst (λ (ss : List PhaseState). IsAbove l.links.parents l.links.links ss w.open_above.items) (sym fresh)
      (subst (λ (cs : List ℕ). IsAbove l.links.parents l.links.links (replicate (length l.links.parents) state.Unprepared) cs) (sym (above ∙ ap (λ k. replicate k 0) f))
      (fresh_above l.links.parents l.links.links));
}
  where
    fresh : w.states.items ≡ replicate (length l.links.parents) state.Unprepared
    fresh = states ∙ ap (λ k. replicate k state.Unprepared) f
