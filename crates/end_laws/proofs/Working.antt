-- The autosleep work makes at most eight entries in each of its runs, outside its attempts.
use Rattle.std.proofs.Common.{◌≡◌, ◌≤◌, ◌+◌, ◌*◌, ◌∙◌, ℕ, Bool, true, false, not, ◌==◌, ◌&&◌, List, [], ◌∷◌, Option, Some, None, cond, refl, sym, ap, subst, arith}
use Rattle.std.proofs.lemmas.Bool.{true≢false}
use Rattle.sleep_model.specs.declared.entry.Actor.{Actor}
use Rattle.sleep_model.specs.declared.entry.Actor.TheVariants as actor
use Rattle.sleep_model.specs.declared.entry.Entry.{Entry}
use Rattle.sleep_model.specs.declared.entry.Kind.{Kind}
use Rattle.sleep_model.specs.declared.entry.Kind.TheVariants as kind
use Rattle.sleep_model.specs.declared.machine.Machine.{Machine}
use Rattle.sleep_model.specs.declared.progress.Work.{Work}
use Rattle.sleep_model.specs.declared.progress.Work.TheVariants.{Resting, Reading, Saving, Attempting, Looking, Napping, Closing}
use Rattle.sleep_model.specs.declared.word.EventNow.{EventNow}
use Rattle.sleep_model.specs.Autosleep.{after_look, looks_at, runs, runs_after, seen_count, work, work_step}
use Rattle.sleep_model.specs.Devices.{is_device}
use Rattle.sleep_model.specs.Legal.{JournalPart}
use Rattle.sleep_model.specs.Path.{is_actor, is_same, maker}
use Rattle.sleep_model.specs.Places.{one_if}
use Rattle.sleep_laws.proofs.Made.{WorkMade, EntryMade, ByMaker, ByTask, ByWork, ByDevice, ByTime}
use Rattle.sleep_laws.proofs.MakingOwn.{entry_made}
use Rattle.room_laws.proofs.Running.{runs_more, work_other, work_own}
use Rattle.room_laws.proofs.Trying.{Trial, ByMaking, ByTrying, ByWorking, ByOther, is_over, trial}
use Rattle.room_laws.specs.AttemptRoom.{is_attempt}
use Rattle.end_laws.specs.Attempts.{is_own}
use Rattle.end_laws.proofs.Counting.{is_spent, is_worked, one_or, or_first, worked}

-- how many entries the work makes still in this run, outside its attempt
abbrev left_in : Work → ℕ
left_in Resting = 0
left_in Reading = 7
left_in (Saving c) = 6
left_in (Attempting c) = 5
left_in (Looking c) = 4
left_in (Napping None) = 3
left_in (Napping (Some until)) = 2
left_in Closing = 1

looks_less : (w : Work) → left_in (looks_at w) ≤ left_in w
looks_less (Attempting c) = omega arith
looks_less _ = omega arith

look_left : (o : Option ℕ) (c : ℕ) → left_in (after_look o (Looking c)) ≤ 3
look_left None c = omega arith
look_left (Some seen) c = by_test (seen == c)
  where
    by_test : (b : Bool) → left_in (cond b (Napping None) Closing) ≤ 3
    by_test true = omega arith
    by_test false = omega arith

-- an entry of the work's own, but for an attempt, leaves less, or begins a run
work_spends : (m : Machine) (past : List Entry) (now : EventNow) (w : Work) (k : Kind) → WorkMade m past now w k → is_attempt k ≡ false → (r : ℕ) → 1 + left_in (work_step k w) + 8 * r ≤ left_in w + 8 * runs_after k r
work_spends m past now _ _ WorkMade.Runs t r = omega arith
work_spends m past now _ _ (WorkMade.Attempts c o) t r = absurd (true≢false t)
work_spends m past now _ _ (WorkMade.Looks c) t r = omega (arith, look_left (seen_count now) c)
work_spends m past now _ _ (WorkMade.Reads q) t r = omega arith
work_spends m past now _ _ _ t r = omega arith

work_stays : (k : Kind) (w : Work) → is_attempt k ≡ true → work_step k w ≡ w
work_stays (kind.Attempt n guarded) w t = refl
work_stays _ w t = absurd (true≢false (sym t))

module _ (m : Machine) (past : List Entry) (e : Entry) (before : worked past + left_in (work past) ≤ 8 * runs past) where
  -- an entry that the work does not make, outside its attempts, leaves no more
  still : is_worked past e ≡ false → left_in (work (e ∷ past)) ≤ left_in (work past) → worked (e ∷ past) + left_in (work (e ∷ past)) ≤ 8 * runs (e ∷ past)
  still n less = omega (arith, before, less, ap one_if n, runs_more e.kind (runs past))

  not_worked : is_same e.actor actor.Auto ≡ false → is_worked past e ≡ false
  not_worked s = ap (λ b. b && not (is_spent past e)) s

  spends : is_spent past e ≡ true → is_worked past e ≡ false
  spends s = ap (λ b. is_same e.actor actor.Auto && not b) s ∙ none (is_same e.actor actor.Auto)
    where
      none : (b : Bool) → (b && false) ≡ false
      none true = refl
      none false = refl

  another : is_same e.actor actor.Auto ≡ false → worked (e ∷ past) + left_in (work (e ∷ past)) ≤ 8 * runs (e ∷ past)
  another s = still (not_worked s) (let same = ap left_in (work_other e.actor e.kind (work past) s) in omega (arith, same))

  in_attempt : is_spent past e ≡ true → (is_same e.actor actor.Auto ≡ true → left_in (work_step e.kind (work past)) ≤ left_in (work past)) → worked (e ∷ past) + left_in (work (e ∷ past)) ≤ 8 * runs (e ∷ past)
  in_attempt s own = by_same (is_same e.actor actor.Auto) refl
    where
      by_same : (b : Bool) → is_same e.actor actor.Auto ≡ b → worked (e ∷ past) + left_in (work (e ∷ past)) ≤ 8 * runs (e ∷ past)
      by_same false x = another x
      by_same true x = still (spends s) (let same = ap left_in (work_own e.actor e.kind (work past) x) in omega (arith, same, own x))

  step : (who : Actor) (k : Kind) → EntryMade m past e.now who k → Trial m past e.actor e.kind → e.actor ≡ who → e.kind ≡ k → worked (e ∷ past) + left_in (work (e ∷ past)) ≤ 8 * runs (e ∷ past)
  step who k (ByMaker _ here there _ a at c x) t w y = in_attempt own_spent (by_trial t)
    where
      mine : is_actor e.actor (maker past) ≡ true
      mine = ap (λ z. is_actor z (maker past)) w ∙ a

      own_spent : is_spent past e ≡ true
      own_spent = one_or (is_attempt e.kind) (is_own past e) (or_first (is_actor e.actor (maker past)) (is_device e.actor) mine)

      by_over : (b : Bool) → left_in (cond b (looks_at (work past)) (work past)) ≤ left_in (work past)
      by_over true = looks_less (work past)
      by_over false = omega arith

      by_trial : Trial m past e.actor e.kind → is_same e.actor actor.Auto ≡ true → left_in (work_step e.kind (work past)) ≤ left_in (work past)
      by_trial (ByMaking n ends steps b) z = let same = ap left_in (steps (work past)) in omega (arith, same, by_over (is_over e.kind))
      by_trial (ByTrying n f at) z = let same = ap left_in (work_stays e.kind (work past) n) in omega (arith, same)
      by_trial (ByWorking n o v b l) z = absurd (true≢false (sym mine ∙ b))
      by_trial (ByOther n o v b) z = absurd (true≢false (sym z ∙ v))
  step _ k (ByTask i _ a x) t w y = another (ap (λ z. is_same z actor.Auto) w)
  step _ k (ByDevice d _ a x) t w y = another (ap (λ z. is_same z actor.Auto) w)
  step _ _ ByTime t w y = another (ap (λ z. is_same z actor.Auto) w)
  step _ k (ByWork v _ a s o at x) t w y = by_attempt (is_attempt k) refl
    where
      most_one : (b : Bool) → one_if b ≤ 1
      most_one true = omega arith
      most_one false = omega arith

      by_attempt : (b : Bool) → is_attempt k ≡ b → worked (e ∷ past) + left_in (work (e ∷ past)) ≤ 8 * runs (e ∷ past)
      by_attempt true n = in_attempt (or_first (is_attempt e.kind) (is_own past e) (ap is_attempt y ∙ n)) (λ z. (let same = ap left_in (work_stays e.kind (work past) (ap is_attempt y ∙ n)) in omega (arith, same)))
      by_attempt false n =
          let spent' = subst (λ (z : Kind). 1 + left_in (work_step z v) + 8 * runs past ≤ left_in v + 8 * runs_after z (runs past)) (sym y) (work_spends m past e.now v k x n (runs past)) in
          let here = subst (λ (z : Work). 1 + left_in (work_step e.kind z) + 8 * runs past ≤ left_in z + 8 * runs_after e.kind (runs past)) (sym at) spent' in
          let own = ap left_in (work_own e.actor e.kind (work past) (ap (λ z. is_same z actor.Auto) w)) in
          omega (arith, before, here, own, most_one (is_worked past e))

-- eight a run
pub works : (m : Machine) (past : List Entry) → JournalPart m past → worked past + left_in (work past) ≤ 8 * runs past
works m [] h = omega arith
works m (e ∷ past) h = step m past e (works m past h.1) e.actor e.kind (entry_made m past e h) (trial m past e h) refl refl
