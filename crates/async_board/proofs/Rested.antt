-- What stays of a pair of phases in which no device is prepared, if a link changes.
use Rattle.std.proofs.Common.{◌≡◌, ◌≢◌, ◌<◌, ◌∙◌, ℕ, Bool, true, false, ◌==◌, List, [], ◌∷◌, ◌++◌, length, map, replicate, get_or, None, refl, sym, ap, subst, cond, arith}
use Rattle.std.proofs.lemmas.List.{append-nil, ext_get_or, length-replicate}
use Rattle.std.proofs.lemmas.Bool.{true≢false, ne_eqb, eqb-true, and_parts}
use Rattle.sleep_model.specs.declared.machine.Link.{Link}
use Rattle.sleep_model.specs.declared.progress.PhaseState.{PhaseState}
use Rattle.sleep_model.specs.declared.progress.PhaseState.TheVariants as state
use Rattle.sleep_model.specs.Links.{first_occurrences}
use Rattle.sleep_model.specs.Order.{is_among, is_link, with_state, links_added, links_set, active_of, children_from, consumers_of, dependents, superiors}
use Rattle.sleep_model.specs.PhaseStates.{state_at, is_prepared, is_not_down, is_not_up}
use Rattle.device_links.specs.Linked.{Linked}
use Rattle.async_board.specs.declared.pick.Pick.TheVariants as pick
use Rattle.async_board.specs.declared.walk.Layout.{Layout}
use Rattle.async_board.specs.declared.walk.Walk.{Walk}
use Rattle.async_board.specs.Picks.{picks, is_picked}
use Rattle.async_board.specs.Walks.{IsWalk, MayRestart, order_of}
use Rattle.async_board.proofs.Indices.{found}
use Rattle.async_board.proofs.Stood.{fresh_states, all_pass, none_pass, zeros}

-- ---- a link shows only below its supplier

-- a link of another supplier shows nothing below d, active or not
silent : (d : ℕ) (active : Bool) (l : Link) (ls : List Link) → (l.supplier == d) ≡ false → consumers_of d (cond active (l ∷ ls) ls) ≡ consumers_of d ls
silent d true l ls e = ap (λ b. consumers_of d ls ++ cond b (l.consumer ∷ []) []) e ∙ append-nil (consumers_of d ls)
silent d false l ls e = refl

pub added_apart : (s c d : ℕ) (ls : List Link) → d ≢ s → consumers_of d (active_of (links_added s c None ls)) ≡ consumers_of d (active_of ls)
added_apart s c d ls ne = silent d true (record { supplier = s; consumer = c; active = true }) (active_of ls) (ne_eqb s d (λ e. ne (sym e)))

pub set_apart : (s c : ℕ) (active : Bool) (d : ℕ) (ls : List Link) → d ≢ s → consumers_of d (active_of (links_set s c active None ls)) ≡ consumers_of d (active_of ls)
set_apart s c active d [] ne = refl
set_apart s c active d (l ∷ ls) ne = by_link (set_apart s c active d ls ne) (is_link s c l) refl
  where
    here : List Link
    here = active_of (map (with_state s c active) ls)

    apart : is_link s c l ≡ true → (l.supplier == d) ≡ false
    apart e = ne_eqb l.supplier d (λ f. ne (sym f ∙ eqb-true l.supplier s (and_parts (l.supplier == s) (l.consumer == c) e).0))

    by_state : consumers_of d here ≡ consumers_of d (active_of ls) → (b : Bool) → consumers_of d (cond b (l ∷ here) here) ≡ consumers_of d (cond b (l ∷ active_of ls) (active_of ls))
    by_state rest true = ap (λ xs. xs ++ cond (l.supplier == d) (l.consumer ∷ []) []) rest
    by_state rest false = rest

    by_link : consumers_of d here ≡ consumers_of d (active_of ls) → (b : Bool) → is_link s c l ≡ b
        → consumers_of d (active_of (cond b (record l { active = active }) l ∷ map (with_state s c active) ls)) ≡ consumers_of d (active_of (l ∷ ls))
    by_link rest true e = silent d active (record l { active = active }) here (apart e) ∙ (rest ∙ sym (silent d l.active l (active_of ls) (apart e)))
    by_link rest false e = by_state rest l.active

-- ---- no device is prepared

not_prepared : (s : PhaseState) → is_prepared s ≡ false → s ≡ state.Unprepared
not_prepared state.Unprepared e = refl
not_prepared state.Prepared e = absurd (true≢false e)
not_prepared state.Scheduled e = absurd (true≢false e)
not_prepared state.Suspending e = absurd (true≢false e)
not_prepared state.Failed e = absurd (true≢false e)
not_prepared state.Direct e = absurd (true≢false e)
not_prepared state.Suspended e = absurd (true≢false e)
not_prepared state.Rescheduled e = absurd (true≢false e)
not_prepared state.Resuming e = absurd (true≢false e)
not_prepared state.Resumed e = absurd (true≢false e)

not_picked : (asynchronous : List Bool) (states : List PhaseState) (d : ℕ) → is_picked pick.Prepared asynchronous states d ≡ false → state_at states d ≡ state.Unprepared
unfolding is_picked picks
not_picked asynchronous states d e = not_prepared (state_at states d) e

module _ (l : Layout) (w : Walk) (h : IsWalk l w) (covers : (d : ℕ) → d < length l.links.parents → is_among (order_of l) d ≡ true) where
  abbrev n : ℕ
  n = length l.links.parents

  all_rest : w.cursors.prepared ≡ 0 → w.states.items ≡ replicate n state.Unprepared
  all_rest e =
      ext_get_or state.Unprepared w.states.items (replicate n state.Unprepared) (h.size ∙ sym (length-replicate n state.Unprepared))
      (λ d k. each d (omega (arith, k, h.size)) ∙ sym (fresh_states n d))
    where
      each : (d : ℕ) → d < n → state_at w.states.items d ≡ state.Unprepared
      each d k =
          let f = found (order_of l) d (covers d k) in
          not_picked l.asynchronous.items w.states.items d
          (subst (λ (x : ℕ). is_picked pick.Prepared l.asynchronous.items w.states.items x ≡ false) f.2 (h.cursors.prepared.behind f.0 (omega (arith, e)) f.1))

  none_open : w.cursors.prepared ≡ 0 → w.open_above.items ≡ replicate n 0
  none_open e =
      ext_get_or 0 w.open_above.items (replicate n 0) (h.above.size ∙ sym (length-replicate n 0))
      (λ d k. h.above.each d (omega (arith, k, h.above.size))
      ∙ (ap length (none_pass (λ x. is_not_up (state_at w.states.items x)) (first_occurrences (superiors l.links.parents (active_of l.links.links) d)) not_up)
      ∙ sym (zeros n d)))
    where
      not_up : (x : ℕ) → is_not_up (state_at w.states.items x) ≡ false
      not_up x = ap (λ ss. is_not_up (state_at ss x)) (all_rest e) ∙ ap is_not_up (fresh_states n x)

  all_open : w.cursors.prepared ≡ 0 → (d : ℕ) → d < n → get_or w.open_below.items d 0 ≡ length (first_occurrences (dependents l.links.parents (active_of l.links.links) d))
  all_open e d k = h.below.each d k ∙ ap length (all_pass (λ x. is_not_down (state_at w.states.items x)) (first_occurrences (dependents l.links.parents (active_of l.links.links) d)) unsettled)
    where
      unsettled : (x : ℕ) → is_not_down (state_at w.states.items x) ≡ true
      unsettled x = ap (λ ss. is_not_down (state_at ss x)) (all_rest e) ∙ ap is_not_down (fresh_states n x)

  -- over links that show the same below all but one
  module _ (but : ℕ) (ls : List Link) (same : (d : ℕ) → d ≢ but → consumers_of d (active_of ls) ≡ consumers_of d (active_of l.links.links)) where
    rested : (l' : Layout) → l'.links ≡ record { parents = l.links.parents; links = ls } → MayRestart l' but w
    rested l' e = subst (λ (k : Linked). MayRestart (record { links = k; indices = l'.indices; asynchronous = l'.asynchronous }) but w) (sym e) (record {
      size = record { states = h.size; below = h.below.size; above = h.above.size };
      rest = λ z. record {
        states = all_rest z;
        above = none_open z;
        below = λ d k ne. all_open z d k ∙ ap (λ xs. length (first_occurrences (children_from d 0 l.links.parents ++ xs))) (sym (same d ne));
      };
    })

  -- one more link
  pub rested_added : (s c : ℕ) (l' : Layout) → l'.links ≡ record { parents = l.links.parents; links = links_added s c None l.links.links } → MayRestart l' s w
  rested_added s c l' e = rested s (links_added s c None l.links.links) (λ d ne. added_apart s c d l.links.links ne) l' e

  -- a link with another state
  pub rested_set : (s c : ℕ) (active : Bool) (l' : Layout) → l'.links ≡ record { parents = l.links.parents; links = links_set s c active None l.links.links } → MayRestart l' s w
  rested_set s c active l' e = rested s (links_set s c active None l.links.links) (λ d ne. set_apart s c active d l.links.links ne) l' e
