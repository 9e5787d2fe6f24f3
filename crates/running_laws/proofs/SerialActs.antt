-- The acts of a task, the oldest first, and what they add.
use Rattle.std.proofs.Common.{◌≡◌, ◌<◌, ◌≤◌, ◌+◌, ◌∙◌, ◌⊎◌, inl, inr, ℕ, zero, suc, List, [], ◌∷◌, ◌++◌, length, map, get_or, refl, sym, ap, subst, arith, append_assoc, append-nil}
use Rattle.std.proofs.lemmas.List.{length-map}
use Rattle.sleep_model.specs.declared.entry.Actor.{Actor}
use Rattle.sleep_model.specs.declared.entry.JournalEntry.{JournalEntry}
use Rattle.sleep_model.specs.declared.entry.Kind.{Kind}
use Rattle.sleep_model.specs.declared.entry.SourceEntry.{SourceEntry}
use Rattle.sleep_model.specs.declared.machine.Machine.{Machine}
use Rattle.sleep_model.specs.declared.machine.SourceCall.{SourceCall}
use Rattle.sleep_model.specs.declared.word.Stamp.{Stamp}
use Rattle.sleep_model.specs.Merge.{of_source}
use Rattle.sleep_core.specs.Cores.{made_entry}
use Rattle.core_history.specs.Histories.{last_stamp}
use Rattle.wakeup_source.specs.declared.call_by.CallBy.{CallBy}
use Rattle.turn_lock.specs.declared.view.Made.{Made}
use Rattle.turn_lock.specs.Bookings.{placed}
use Rattle.run_laws.specs.Passes.{Noted}
use Rattle.run_world.specs.Roots.{notes_on}
use Rattle.run_world.specs.Outcomes.{IsReport, IsTurn}
use Rattle.run_world.specs.declared.task.Task.{Task}
use Rattle.run_world.specs.Acts.{Does, Nothing, Turns, Calls, Expires, Plays, all_gains, known_by}
use Rattle.run_world.specs.Bursts.{AllPlayed}
use Rattle.running_laws.proofs.SerialNotes.{newest}
use Rattle.running_laws.proofs.SerialBooks.{Rises, rises_low}
use Rattle.running_laws.proofs.SerialPlans.{AllGo, Goes, Plan, flat, gains_of, notes}
use Rattle.running_laws.proofs.SerialClimbs.{AreMadeFresh, AreWithin, Climbs, climbs_fresh, climbs_rise, placed_within}
use Rattle.running_laws.proofs.SerialCalls.{HasClimbed, added_are, call_climbs}

-- ---- one act

-- what an act adds, by one who knew the first tick and then knows the second
record IsPlanned (count low high : ℕ) (gains : List (Made Noted)) : Type 0 where
  plan : Plan
  is : gains ≡ gains_of plan
  within : plan.object < 1 + count
  climbs : Climbs low plan.past (plan.entry ∷ plan.others)
  known : plan.entry.stamp.tick ≤ high

newest_is : (past : List JournalEntry) → newest 0 past ≡ (last_stamp past).tick
newest_is [] = refl
newest_is (e ∷ past) = refl

turn_planned : (count : ℕ) (m : Machine) (who : Actor) (calls : ℕ) (floor stamp : Stamp) (k : Kind) (attempt : ℕ) (gains : List (Made Noted))
    → IsTurn m who calls floor stamp k attempt gains → IsPlanned count floor.tick stamp.tick gains
turn_planned count m who calls floor stamp k attempt gains h =
    let e : JournalEntry = made_entry h.past who h.word floor k in
    let last : newest 0 h.past ≡ (last_stamp h.past).tick = newest_is h.past in
    let shown : stamp.tick ≡ e.stamp.tick = ap (λ (s : Stamp). s.tick) h.stamp_is in
    record {
      plan = record { object = 0; past = h.past; entry = e; others = [] };
      is = h.gained;
      within = omega arith;
      climbs = (omega arith, omega arith, tt);
      known = omega arith;
    }

call_planned : (count : ℕ) (by : CallBy) (call : SourceCall) (s : ℕ) (stamp : Stamp) (gains : List (Made Noted)) → s < count → IsReport by call s stamp gains
    → IsPlanned count by.floor.tick stamp.tick gains
call_planned count by call s stamp gains less h =
    let c : HasClimbed by.floor.tick h.old.source.past h.new.source = call_climbs by call h.old h.new h.settled.in_order h.calls in
    let added : h.added ≡ c.entry ∷ c.others = added_are by.floor.tick h.old.source.past h.added h.new.source c h.grown in
    let past : List JournalEntry = map of_source h.old.source.past in
    let shown : stamp.tick ≡ h.new.source.floor.tick = ap (λ (x : Stamp). x.tick) h.stamp_is in
    let known : c.entry.stamp.tick ≤ h.new.source.floor.tick = c.known in
    record {
      plan = record { object = 1 + s; past = map of_source h.old.source.past; entry = of_source c.entry; others = map of_source c.others };
      is =
          h.gained
          ∙ ap (λ (l : List SourceEntry). placed (1 + s) (length h.old.source.past) (notes_on (map of_source h.old.source.past) (map of_source l))) added
          ∙ ap (λ (n : ℕ). placed (1 + s) n (notes_on (map of_source h.old.source.past) (of_source c.entry ∷ map of_source c.others)))
          (sym (length-map h.old.source.past of_source));
      within = omega arith;
      climbs = c.climbs;
      known = omega arith;
    }

-- an act adds nothing and changes nothing, or adds what is planned
abbrev Comes : ℕ → Task → List (Made Noted) → Task → Type 0
Comes count t gains u = ((gains ≡ []) × (u ≡ t)) ⊎ IsPlanned count (known_by t).tick (known_by u).tick gains

comes : (count moment : ℕ) (t : Task) (gains : List (Made Noted)) (u : Task) → Does count moment t gains u → Comes count t gains u
comes count moment t gains u (Nothing x) = inl (refl, refl)
comes count moment t gains u (Turns job stamp k attempt g wants ranged h) = inr (turn_planned count job.machine job.who job.calls job.floor stamp k attempt g h)
comes count moment t gains u (Calls job s call stamp g less wants ranged h) = inr (call_planned count _ call s stamp g less h)
comes count moment t gains u (Expires timer stamp g less h) = inr (call_planned count _ _ timer.source stamp g less h)

-- ---- the acts of a task

-- the acts that bring a task to its last, and what they add
pub record HasPlans (count moment : ℕ) (t last : Task) (made : List (Made Noted)) : Type 0 where
  pub plans : List Plan
  pub goes : Goes (Does count moment) t plans last
  pub is : made ≡ flat plans
  pub rises : Rises (known_by t).tick (flat plans)
  pub fresh : AreMadeFresh (flat plans)
  pub within : AreWithin (1 + count) (flat plans)

module _ (count moment : ℕ) where
  -- one act more before those
  one_more : (t : Task) (gains : List (Made Noted)) (u last : Task) (made : List (Made Noted)) → Does count moment t gains u → HasPlans count moment u last made
      → HasPlans count moment t last (gains ++ made)
  one_more t gains u last made does c = by (comes count moment t gains u does)
    where
      by : Comes count t gains u → HasPlans count moment t last (gains ++ made)
      by (inl none) =
          subst (λ (l : List (Made Noted)). HasPlans count moment t last (l ++ made)) (sym none.0) (subst (λ (x : Task). HasPlans count moment x last made) none.1 c)
      by (inr p) = record {
        plans = p.plan ∷ c.plans;
        goes = (u, subst (λ (l : List (Made Noted)). Does count moment t l u) p.is does, c.goes);
        is = λ i. p.is i ++ c.is i;
        rises = climbs_rise p.plan.object (known_by t).tick (length p.plan.past) p.plan.past (p.plan.entry ∷ p.plan.others) (flat c.plans) p.climbs
            (rises_low (known_by u).tick p.plan.entry.stamp.tick (flat c.plans) p.known c.rises);
        fresh = climbs_fresh p.plan.object (known_by t).tick (length p.plan.past) p.plan.past (p.plan.entry ∷ p.plan.others) (flat c.plans) p.climbs c.fresh;
        within = placed_within (1 + count) p.plan.object (length p.plan.past) (notes p.plan) (flat c.plans) p.within c.within;
      }

  all_before : (first : Task) (acts : List (List (Made Noted))) (t last : Task) (made : List (Made Noted)) → Plays count moment first acts t → HasPlans count moment t last made
      → HasPlans count moment first last (all_gains acts ++ made)
  all_before first [] t last made h c = subst (λ (x : Task). HasPlans count moment x last made) h c
  all_before first (gains ∷ acts) t last made h c =
      subst (HasPlans count moment first last) (sym (append_assoc (all_gains acts) gains made))
      (all_before first acts h.0 last (gains ++ made) h.1 (one_more h.0 gains t last made h.2 c))

  has_plans : (first : Task) (acts : List (List (Made Noted))) (last : Task) → Plays count moment first acts last → HasPlans count moment first last (all_gains acts)
  has_plans first acts last h =
      subst (HasPlans count moment first last) (append-nil (all_gains acts))
      (all_before first acts last last [] h (record { plans = []; goes = refl; is = refl; rises = tt; fresh = tt; within = tt }))

  -- ---- the acts of all tasks

  -- they bring the tasks to the last ones, and add what the passes made
  pub record HaveAllPlans (tasks : List Task) (passes : List (List (Made Noted))) (lasts : List Task) : Type 0 where
    pub left : List (List Plan)
    pub go : AllGo (Does count moment) tasks left lasts
    pub are : (k : ℕ) → get_or passes k [] ≡ flat (get_or left k [])
    pub rises : (k : ℕ) → Rises 0 (flat (get_or left k []))
    pub fresh : (k : ℕ) → AreMadeFresh (flat (get_or left k []))
    pub within : (k : ℕ) → AreWithin (1 + count) (flat (get_or left k []))

  -- one task more before those
  one_task : (t : Task) (tasks : List Task) (made : List (Made Noted)) (passes : List (List (Made Noted))) (last : Task) (lasts : List Task) → HasPlans count moment t last made
      → HaveAllPlans tasks passes lasts → HaveAllPlans (t ∷ tasks) (made ∷ passes) (last ∷ lasts)
  one_task t tasks made passes last lasts c all = record {
    left = c.plans ∷ all.left;
    go = (c.goes, all.go);
    are = are;
    rises = rises;
    fresh = fresh;
    within = within;
  }
    where
      are : (k : ℕ) → get_or (made ∷ passes) k [] ≡ flat (get_or (c.plans ∷ all.left) k [])
      are zero = c.is
      are (suc k) = all.are k

      rises : (k : ℕ) → Rises 0 (flat (get_or (c.plans ∷ all.left) k []))
      rises zero = rises_low (known_by t).tick 0 (flat c.plans) (omega arith) c.rises
      rises (suc k) = all.rises k

      fresh : (k : ℕ) → AreMadeFresh (flat (get_or (c.plans ∷ all.left) k []))
      fresh zero = c.fresh
      fresh (suc k) = all.fresh k

      within : (k : ℕ) → AreWithin (1 + count) (flat (get_or (c.plans ∷ all.left) k []))
      within zero = c.within
      within (suc k) = all.within k

  pub have_all_plans : (tasks : List Task) (passes : List (List (Made Noted))) (lasts : List Task) → AllPlayed count moment tasks passes lasts → HaveAllPlans tasks passes lasts
  have_all_plans [] [] [] h = record { left = []; go = tt; are = λ k. refl; rises = λ k. tt; fresh = λ k. tt; within = λ k. tt }
  have_all_plans (t ∷ tasks) (made ∷ passes) (last ∷ lasts) h =
      one_task t tasks made passes last lasts
      (subst (HasPlans count moment t last) (sym h.0.1) (has_plans t h.0.0 last h.0.2)) (have_all_plans tasks passes lasts h.1)
  have_all_plans tasks passes lasts h = absurd h
