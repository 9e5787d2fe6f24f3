-- No more attempts are begun than the machine allows.
use Rattle.std.proofs.Common.{◌≡◌, ◌≤◌, ◌+◌, ◌∙◌, ℕ, Bool, true, false, ◌==◌, List, [], ◌∷◌, slice_get, cond, Option, Some, None, refl, sym, ap, subst, arith}
use Rattle.std.specs.List.{count_by}
use Rattle.std.proofs.lemmas.Bool.{true≢false}
use Rattle.std.proofs.lemmas.Bool.Decides.{nat_tests}
use Rattle.sleep_model.specs.declared.entry.Actor.{Actor}
use Rattle.sleep_model.specs.declared.entry.Actor.TheVariants as actor
use Rattle.sleep_model.specs.declared.entry.Entry.{Entry}
use Rattle.sleep_model.specs.declared.entry.Kind.{Kind}
use Rattle.sleep_model.specs.declared.entry.Kind.TheVariants as kind
use Rattle.sleep_model.specs.declared.machine.Machine.{Machine}
use Rattle.sleep_model.specs.declared.machine.Script.{Script}
use Rattle.sleep_model.specs.Legal.{JournalPart}
use Rattle.sleep_model.specs.Path.{is_same, attempts, attempts_after}
use Rattle.sleep_model.specs.Places.{one_if, is_state, is_autosleep, all_operations, most_attempts}
use Rattle.sleep_model.specs.Scripts.{operations, makes_entry}
use Rattle.room_laws.proofs.Limiting.{tried, tried_same, tried_other, script_within}
use Rattle.room_laws.proofs.Running.{work_within, runs_within, runs_none}
use Rattle.room_laws.proofs.Summing.{total, count_is, one_where, total_flat, total_filter, if_there, below_total}
use Rattle.room_laws.proofs.Trying.{is_attempt, steps_if, TriesAt, Trial, ByMaking, ByTrying, ByWorking, ByOther, trial, same_actor}
use Rattle.room_laws.proofs.Weighing.{when, below_most, below_none, over_all, over_both, over_one, is_timer, AllBelow, above_all, all_below}

-- only scripts and the work begin attempts
abbrev TriesNever : Actor → Type 0
TriesNever a = (m : Machine) (past : List Entry) → TriesAt m past a → ⊥

never_tried : (m : Machine) (who : Actor) → TriesNever who → (past : List Entry) → JournalPart m past → tried who past ≡ 0
never_tried m who n [] h = refl
never_tried m who n (e ∷ past) h = by_same (is_same e.actor who) refl (is_attempt e.kind) refl (trial m past e h) (never_tried m who n past h.1)
  where
    by_same : (b : Bool) → is_same e.actor who ≡ b → (c : Bool) → is_attempt e.kind ≡ c → Trial m past e.actor e.kind → tried who past ≡ 0 → tried who (e ∷ past) ≡ 0
    by_same false s c t x z = tried_other who past e s ∙ z
    by_same true s false t x z = tried_same who past e t ∙ z
    by_same true s true t (ByTrying a f at) z = absurd (n m past (subst (TriesAt m past) (same_actor e.actor who s) at))
    by_same true s true t (ByMaking a ends w i) z = absurd (true≢false (sym t ∙ a))
    by_same true s true t (ByWorking a o w i l) z = absurd (true≢false (sym t ∙ a))
    by_same true s true t (ByOther a o w i) z = absurd (true≢false (sym t ∙ a))

work_most : (m : Machine) (past : List Entry) → JournalPart m past → tried actor.Auto past ≤ cond (count_by is_autosleep (all_operations m.actors) == 0) 0 m.auto_cycles
work_most m past h = by_written (count_by is_autosleep (all_operations m.actors) == 0) refl
  where
    by_written : (b : Bool) → (count_by is_autosleep (all_operations m.actors) == 0) ≡ b → tried actor.Auto past ≤ cond b 0 m.auto_cycles
    by_written true z = let none : count_by is_autosleep (all_operations m.actors) ≡ 0 = grind (arith, nat_tests) in omega (arith, work_within m past h, runs_none m none past h)
    by_written false z = omega (arith, work_within m past h, runs_within m past h)

script_most : (m : Machine) (i : ℕ) (past : List Entry) → JournalPart m past → tried (actor.Script i) past ≤ if_there (λ s. total (one_where is_state) (operations s)) (slice_get m.actors i)
script_most m i past h = omega (arith, script_within m i past h, by_script (slice_get m.actors i))
  where
    by_script : (o : Option Script) → total (one_where is_state) (steps_if o) ≤ if_there (λ s. total (one_where is_state) (operations s)) o
    by_script None = omega arith
    by_script (Some s) = total_filter (one_where is_state) makes_entry (operations s)

tried_all : (m : Machine) (n : ℕ) (past : List Entry) → JournalPart m past → over_all n (λ a. tried a past) ≤ most_attempts m
tried_all m n past h =
    omega (
      arith,
      below_most n (λ i. tried (actor.Script i) past) (λ i. if_there (λ s. total (one_where is_state) (operations s)) (slice_get m.actors i)) (λ i. script_most m i past h),
      below_total (λ s. total (one_where is_state) (operations s)) m.actors n,
      total_flat (one_where is_state) operations m.actors,
      count_is is_state (all_operations m.actors),
      work_most m past h,
      below_most n (λ i. tried (actor.Dev i) past) (λ i. 0) (λ d. omega (arith, never_tried m (actor.Dev d) (λ m past x. x) past h)),
      below_none n,
      never_tried m actor.Time (λ m past x. x) past h,
    )

pub attempts_is : (k : Kind) (n : ℕ) → attempts_after k n ≡ one_if (is_attempt k) + n
attempts_is (kind.Attempt n guarded) k = omega arith
attempts_is _ k = omega arith

attempts_all : (m : Machine) (n : ℕ) (past : List Entry) → AllBelow n past → JournalPart m past → attempts past ≤ over_all n (λ a. tried a past)
attempts_all m n [] l h = omega arith
attempts_all m n (e ∷ past) l h =
    omega (arith, attempts_is e.kind (attempts past), attempts_all m n past l.1 h.1, over_both n (λ a. when (is_same e.actor a) (one_if (is_attempt e.kind))) (λ a. tried a past), by_attempt (is_attempt e.kind) refl (trial m past e h))
  where
    no_timer : (a : Actor) → TriesAt m past a → is_timer a ≡ false
    no_timer (actor.Script i) x = refl
    no_timer actor.Auto x = refl
    no_timer (actor.Dev d) x = refl
    no_timer (actor.Timer t) x = absurd x
    no_timer actor.Time x = refl

    by_attempt : (b : Bool) → is_attempt e.kind ≡ b → Trial m past e.actor e.kind → one_if (is_attempt e.kind) ≤ over_all n (λ a. when (is_same e.actor a) (one_if (is_attempt e.kind)))
    by_attempt false t x = omega (arith, ap one_if t)
    by_attempt true t (ByTrying a f at) = over_one n e.actor (one_if (is_attempt e.kind)) (no_timer e.actor at) l.0
    by_attempt true t (ByMaking a ends w i) = absurd (true≢false (sym t ∙ a))
    by_attempt true t (ByWorking a o w i j) = absurd (true≢false (sym t ∙ a))
    by_attempt true t (ByOther a o w i) = absurd (true≢false (sym t ∙ a))

-- in a legal journal no more attempts are begun than the machine allows
pub attempts_within : (m : Machine) (past : List Entry) → JournalPart m past → attempts past ≤ most_attempts m
attempts_within m past h = omega (arith, attempts_all m (above_all past) past (all_below (above_all past) past (omega arith)) h, tried_all m (above_all past) past h)
