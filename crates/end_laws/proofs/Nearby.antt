-- Each moment for which something waits is at most a day ahead.
use Rattle.std.proofs.Common.{◌≡◌, ◌≤◌, ◌<◌, ◌+◌, ◌∙◌, ℕ, zero, suc, Bool, true, false, not, ◌==◌, ◌&&◌, List, [], ◌∷◌, length, IfSome, Option, Some, None, slice_get, cond, refl, sym, ap, subst, arith}
use Rattle.std.proofs.lemmas.Bool.Decides.{nat_tests}
use Rattle.std.proofs.lemmas.List.{get_or-replicate}
use Rattle.std.proofs.lemmas.Option.{slice_get_within}
use Rattle.sleep_model.specs.declared.entry.Actor.{Actor}
use Rattle.sleep_model.specs.declared.entry.Actor.TheVariants as actor
use Rattle.sleep_model.specs.declared.entry.Entry.{Entry}
use Rattle.sleep_model.specs.declared.entry.Kind.{Kind}
use Rattle.sleep_model.specs.declared.entry.Kind.TheVariants as kind
use Rattle.sleep_model.specs.declared.log.Why.TheVariants as why
use Rattle.sleep_model.specs.declared.machine.Machine.{Machine}
use Rattle.sleep_model.specs.declared.machine.Op.{Op}
use Rattle.sleep_model.specs.declared.machine.Op.TheVariants as op
use Rattle.sleep_model.specs.declared.machine.Script.{Script}
use Rattle.sleep_model.specs.declared.progress.Due.{Due}
use Rattle.sleep_model.specs.declared.progress.Due.TheVariants.{Makes, Waits, Nothing}
use Rattle.sleep_model.specs.declared.progress.ScriptPosition.{ScriptPosition}
use Rattle.sleep_model.specs.declared.progress.Sleep.{Sleep}
use Rattle.sleep_model.specs.declared.progress.Stage.{Stage}
use Rattle.sleep_model.specs.declared.progress.Work.{Work}
use Rattle.sleep_model.specs.declared.progress.Work.TheVariants.{Resting, Reading, Saving, Attempting, Looking, Napping, Closing}
use Rattle.sleep_model.specs.declared.word.EventNow.{EventNow}
use Rattle.sleep_model.specs.Accepted.{IsAccepted}
use Rattle.sleep_model.specs.Attempt.{attempt_due, freeze_since, freeze_since_after, sleep_after, sleep_of, sleeps_now}
use Rattle.sleep_model.specs.Autosleep.{after_look, looks_at, naps_until, seen_count, work, work_after, work_step}
use Rattle.sleep_model.specs.Due.{due, own_due}
use Rattle.sleep_model.specs.Freezer.{freezing}
use Rattle.sleep_model.specs.Legal.{JournalPart, JournalStep, alarm_at, deadline_at, journal_time, next_expiry, next_sleep, pending_nap, pending_sleep, sooner}
use Rattle.sleep_model.specs.Numbers.{time_after, time_of}
use Rattle.sleep_model.specs.EntryClasses.{class_of}
use Rattle.sleep_model.specs.Path.{is_actor, maker}
use Rattle.sleep_model.specs.Scripts.{entry_steps}
use Rattle.sleep_model.specs.Positions.{PositionEffect, Sleeps, first_position, position_after, position_at, position_effect, positions, positions_after}
use Rattle.sleep_model.specs.Sources.{expiry}
use Rattle.sleep_model.specs.Steps.{position_due, slept_due, step_due, task_due}
use Rattle.sleep_model.specs.Tasks.{freezes_at, is_line, is_user}
use Rattle.sleep_model.specs.Word.{position}
use Rattle.sleep_laws.proofs.LockHolding.{entry_of}
use Rattle.sleep_laws.proofs.Made.{EntryMade, ByMaker, ByTask, ByWork, Made, MayGo, StepMade, TaskMade, WorkMade, position_of}
use Rattle.sleep_laws.proofs.MakingOwn.{entry_made}
use Rattle.sleep_laws.proofs.Operations.{entry_operation}
use Rattle.room_laws.proofs.Sitting.{position_other, position_own, positions_len}
use Rattle.end_laws.specs.Moments.{ExpiriesAreBounded, NextMomentsAreBounded}

-- ---- the least of moments

-- the moment, if there is one, is at most that
abbrev By : ℕ → Option ℕ → Type 0
By t o = IfSome o (λ at. at ≤ t)

sooner_by : (t : ℕ) (a b : Option ℕ) → By t a → By t b → By t (sooner a b)
sooner_by t None b h k = k
sooner_by t (Some x) None h k = h
sooner_by t (Some x) (Some y) h k = omega (arith, h, k)

by_more : (t u : ℕ) (o : Option ℕ) → t ≤ u → By t o → By u o
by_more t u None l h = tt
by_more t u (Some x) l h = omega (arith, l, h)

-- ---- time

-- an entry has the time of its index, or leads on
time_on : (m : Machine) (past : List Entry) (e : Entry) → JournalPart m (e ∷ past) → (time_of past ≤ time_of (e ∷ past)) × (e.time ≤ time_of (e ∷ past))
time_on m past e h = by_kind e.kind e.time h.0
  where
    by_kind : (k : Kind) (t : ℕ) → JournalStep m past (entry_of t e.now e.actor k) (class_of k) → (time_of past ≤ time_after k t (time_of past)) × (t ≤ time_after k t (time_of past))
    by_kind kind.Jump t s = (omega (arith, s.1), omega arith)
    by_kind (kind.Awake x) t s = absurd s
    by_kind (kind.Relax x) t s = absurd s
    by_kind (kind.Event x ms hard) t s = absurd s
    by_kind (kind.Expire x) t s = absurd s
    by_kind (kind.Start x) t s = absurd s
    by_kind (kind.Finish x) t s = absurd s
    by_kind (kind.Hard x) t s = absurd s
    by_kind _ t s = (omega arith, omega (arith, s.1))

-- ---- the sleep and the freeze

abbrev SinceBy : ℕ → Option Sleep → Type 0
SinceBy t None = Unit {0}
SinceBy t (Some s) = s.since ≤ t

since_more : (t u : ℕ) (o : Option Sleep) → t ≤ u → SinceBy t o → SinceBy u o
since_more t u None l h = tt
since_more t u (Some s) l h = omega (arith, l, h)

since_by : (m : Machine) (past : List Entry) → JournalPart m past → SinceBy (time_of past) (sleep_of past)
since_by m [] h = tt
since_by m (e ∷ past) h = by_kind e.kind (since_more (time_of past) (time_of (e ∷ past)) (sleep_of past) (time_on m past e h).0 (since_by m past h.1)) (time_on m past e h).1
  where
    by_kind : (k : Kind) → SinceBy (time_of (e ∷ past)) (sleep_of past) → e.time ≤ time_of (e ∷ past) → SinceBy (time_of (e ∷ past)) (sleep_after k (position e.now) e.time (sleep_of past))
    by_kind (kind.Enter true) h l = h
    by_kind (kind.Enter false) h l = l
    by_kind (kind.Wake b) h l = tt
    by_kind _ h l = h

freeze_by : (m : Machine) (past : List Entry) → JournalPart m past → By (time_of past) (freeze_since past)
freeze_by m [] h = tt
freeze_by m (e ∷ past) h = by_kind e.kind (by_more (time_of past) (time_of (e ∷ past)) (freeze_since past) (time_on m past e h).0 (freeze_by m past h.1)) (time_on m past e h).1
  where
    by_kind : (k : Kind) → By (time_of (e ∷ past)) (freeze_since past) → e.time ≤ time_of (e ∷ past) → By (time_of (e ∷ past)) (freeze_since_after k e.time (freeze_since past))
    by_kind (kind.Freeze g) h l = l
    by_kind (kind.Froze g end) h l = tt
    by_kind _ h l = h

-- ---- the nap

abbrev day : ℕ
day = 86400000

abbrev NapBy : ℕ → Work → Type 0
NapBy t w = By t (naps_until w)

looks_nap : (t : ℕ) (w : Work) → NapBy t w → NapBy t (looks_at w)
looks_nap t (Attempting c) h = tt
looks_nap t Resting h = h
looks_nap t Reading h = h
looks_nap t (Saving c) h = h
looks_nap t (Looking c) h = h
looks_nap t (Napping u) h = h
looks_nap t Closing h = h

look_nap : (t : ℕ) (o : Option ℕ) (c : ℕ) → NapBy t (after_look o (Looking c))
look_nap t None c = tt
look_nap t (Some seen) c = by_test (seen == c)
  where
    by_test : (b : Bool) → NapBy t (cond b (Napping None) Closing)
    by_test true = tt
    by_test false = tt

module _ (m : Machine) (past : List Entry) (now : EventNow) where
  work_nap : (w : Work) (k : Kind) → WorkMade m past now w k → NapBy (time_of past + day) (work_step k w)
  work_nap _ _ (WorkMade.Looks c) = look_nap (time_of past + day) (seen_count now) c
  work_nap _ _ WorkMade.Naps = omega arith
  work_nap _ _ WorkMade.Runs = tt
  work_nap _ _ (WorkMade.Reads q) = tt
  work_nap _ _ _ = tt

  maker_nap : (there : Stage) (k : Kind) (w : Work) → Made m past now there k → NapBy (time_of past + day) w → NapBy (time_of past + day) (work_step k w)
  maker_nap _ _ w Made.Ends h = looks_nap (time_of past + day) w h
  maker_nap _ _ w _ h = h

  entry_nap : (who : Actor) (k : Kind) → EntryMade m past now who k → NapBy (time_of past + day) (work past) → NapBy (time_of past + day) (work_after who k (work past))
  entry_nap actor.Auto k (ByMaker _ here there _ a e c x) h = maker_nap there k (work past) x h
  entry_nap actor.Auto k (ByWork w _ a s o e x) h = subst (λ (v : Work). NapBy (time_of past + day) (work_step k v)) (sym e) (work_nap w k x)
  entry_nap (actor.Script i) k x h = h
  entry_nap (actor.Dev i) k x h = h
  entry_nap (actor.Timer i) k x h = h
  entry_nap actor.Time k x h = h

nap_by : (m : Machine) (past : List Entry) → JournalPart m past → NapBy (time_of past + day) (work past)
nap_by m [] h = tt
nap_by m (e ∷ past) h =
    let further = (time_on m past e h).0 in
    by_more (time_of past + day) (time_of (e ∷ past) + day) (naps_until (work (e ∷ past))) (omega (arith, further))
    (entry_nap m past e.now e.actor e.kind (entry_made m past e h) (nap_by m past h.1))

-- ---- sleeps

makes_is : (a b : Kind) → Makes a ≡ Makes b → a ≡ b
makes_is a b e = cc

module _ (m : Machine) (acc : IsAccepted m) (past : List Entry) (now : EventNow) (i : ℕ) where
  -- what is due of a task that may go on
  task_is : (s : Script) → MayGo m past i s → is_actor (actor.Script i) (maker past) ≡ false → due m past (actor.Script i) now
      ≡ cond ((freezing m i past).asked && freezes_at (is_user s.kind) (position_of m past i).waits (slice_get (entry_steps s) (position_of m past i).done)) (Makes kind.Frozen) (step_due m past now (position_of m past i) (freezing m i past).asked (slice_get (entry_steps s) (position_of m past i).done))
  task_is s go a =
      ap (λ b. cond b (attempt_due m past now) (own_due m past (actor.Script i) now)) a
      ∙ (ap (λ (x : Option Script). position_due m past now (freezing m i past) x (position_of m past i)) go.script
      ∙ (ap (λ b. cond b Nothing (task_due m past now (freezing m i past) s.kind (position_of m past i) (slice_get (entry_steps s) (position_of m past i).done))) go.there
      ∙ (ap (λ b. cond b (Waits why.Frozen) (cond (sleeps_now past && not (is_line s.kind)) (Waits why.Asleep) (cond ((freezing m i past).asked && freezes_at (is_user s.kind) (position_of m past i).waits (slice_get (entry_steps s) (position_of m past i).done)) (Makes kind.Frozen) (step_due m past now (position_of m past i) (freezing m i past).asked (slice_get (entry_steps s) (position_of m past i).done))))) go.thawed
      ∙ ap (λ b. cond b (Waits why.Asleep) (cond ((freezing m i past).asked && freezes_at (is_user s.kind) (position_of m past i).waits (slice_get (entry_steps s) (position_of m past i).done)) (Makes kind.Frozen) (step_due m past now (position_of m past i) (freezing m i past).asked (slice_get (entry_steps s) (position_of m past i).done)))) go.awake)))

  abbrev ClassNear : PositionEffect → Type 0
  ClassNear (Sleeps u) = u ≤ time_of past + day
  ClassNear _ = Unit {0}

  -- a sleep ends after its length
  slept : (b : Bool) (ms u : ℕ) (begins : ℕ → Kind) (other : Kind) → (begins u ≡ other → ⊥) → ((x y : ℕ) → begins x ≡ begins y → x ≡ y) → ms ≤ day → cond b (Makes other) (Makes (begins (time_of past + ms))) ≡ Makes (begins u) → u ≤ time_of past + day
  slept true ms u begins other n i l e = absurd (n (sym (makes_is other (begins u) e)))
  slept false ms u begins other n i l e = let same : time_of past + ms ≡ u = i (time_of past + ms) u (makes_is (begins (time_of past + ms)) (begins u) e) in omega (arith, same, l)

  step_bounded : (s : Script) (o : Option Op) (k : Kind) (time : ℕ) → MayGo m past i s → is_actor (actor.Script i) (maker past) ≡ false → slice_get (entry_steps s) (position_of m past i).done ≡ o → StepMade m past now (position_of m past i) (freezing m i past).asked o k
      → JournalStep m past (entry_of time now (actor.Script i) k) (class_of k) → ClassNear (position_effect k)
  step_bounded s _ _ time go a at (StepMade.Sleeps ms u w) d =
      let inner : step_due m past now (position_of m past i) (freezing m i past).asked (slice_get (entry_steps s) (position_of m past i).done) ≡ Makes (kind.Sleep (time_of past + ms)) =
      ap (λ (x : Option Op). step_due m past now (position_of m past i) (freezing m i past).asked x) at ∙ ap (λ b. cond b (slept_due (position_of m past i).until (time_of past)) (Makes (kind.Sleep (time_of past + ms)))) w in
      let b : Bool = (freezing m i past).asked && freezes_at (is_user s.kind) (position_of m past i).waits (slice_get (entry_steps s) (position_of m past i).done) in
      slept b ms u kind.Sleep kind.Frozen (λ e. (let bad : kind.Sleep u ≡ kind.Frozen = e in cc)) (λ x y e. cc) (entry_operation m acc.scripts i (position_of m past i).done s (op.Sleep ms) go.script at)
      (sym (ap (λ (x : Due). cond b (Makes kind.Frozen) x) inner) ∙ (sym (task_is s go a) ∙ d.0))
  step_bounded s _ _ time go a at (StepMade.SleepsD ms u w) d =
      let inner : step_due m past now (position_of m past i) (freezing m i past).asked (slice_get (entry_steps s) (position_of m past i).done) ≡ Makes (kind.SleepD (time_of past + ms)) =
      ap (λ (x : Option Op). step_due m past now (position_of m past i) (freezing m i past).asked x) at ∙ ap (λ b. cond b (slept_due (position_of m past i).until (time_of past)) (Makes (kind.SleepD (time_of past + ms)))) w in
      let b : Bool = (freezing m i past).asked && freezes_at (is_user s.kind) (position_of m past i).waits (slice_get (entry_steps s) (position_of m past i).done) in
      slept b ms u kind.SleepD kind.Frozen (λ e. (let bad : kind.SleepD u ≡ kind.Frozen = e in cc)) (λ x y e. cc) (entry_operation m acc.scripts i (position_of m past i).done s (op.SleepD ms) go.script at)
      (sym (ap (λ (x : Due). cond b (Makes kind.Frozen) x) inner) ∙ (sym (task_is s go a) ∙ d.0))
  step_bounded s _ _ time go a at StepMade.Exits d = tt
  step_bounded s _ _ time go a at _ d = tt

  maker_bounded : (there : Stage) (k : Kind) → Made m past now there k → ClassNear (position_effect k)
  maker_bounded _ _ Made.Ends = tt
  maker_bounded _ _ _ = tt

  entry_bounded : (k : Kind) (time : ℕ) → EntryMade m past now (actor.Script i) k → JournalStep m past (entry_of time now (actor.Script i) k) (class_of k) → ClassNear (position_effect k)
  entry_bounded k time (ByMaker _ here there _ a e c x) d = maker_bounded there k x
  entry_bounded _ time (ByTask i _ a (TaskMade.Freezes s go asked)) d = tt
  entry_bounded k time (ByTask i _ a (TaskMade.Steps s _ o go at x)) d = step_bounded s o k time go a at x d

  class_near : (part : PositionEffect) (script_position : ScriptPosition) → ClassNear part → By (time_of past + day) script_position.until → By (time_of past + day) (position_after part script_position).until
  class_near (Sleeps u) script_position n h = n
  class_near PositionEffect.Waits script_position n h = h
  class_near PositionEffect.Sets script_position n h = h
  class_near (PositionEffect.Reads c) script_position n h = tt
  class_near (PositionEffect.Saves ok) script_position n h = tt
  class_near PositionEffect.Steps script_position n h = tt
  class_near PositionEffect.Exits script_position n h = h
  class_near PositionEffect.Stays script_position n h = h

sleep_by : (m : Machine) → IsAccepted m → (past : List Entry) → JournalPart m past → (i : ℕ) → i < length m.actors → By (time_of past + day) (position_of m past i).until
sleep_by m acc [] j i l = subst (λ (x : ScriptPosition). By (0 + day) x.until) (sym (get_or-replicate (length m.actors) i first_position first_position l)) tt
sleep_by m acc (e ∷ past) j i l =
    let further = (time_on m past e j).0 in
    by_more (time_of past + day) (time_of (e ∷ past) + day) (position_of m (e ∷ past) i).until (omega (arith, further)) (by_actor e.actor e.kind (entry_made m past e j) j.0 (sleep_by m acc past j.1 i l))
  where
    by_actor : (a : Actor) (k : Kind) → EntryMade m past e.now a k → JournalStep m past (entry_of e.time e.now a k) (class_of k) → By (time_of past + day) (position_of m past i).until
        → By (time_of past + day) (position_at (positions_after a (position_effect k) (positions (length m.actors) past)) i).until
    by_actor (actor.Script n) k x d h = by_same (n == i) refl
      where
        by_same : (b : Bool) → (n == i) ≡ b → By (time_of past + day) (position_at (positions_after (actor.Script n) (position_effect k) (positions (length m.actors) past)) i).until
        by_same true f =
            let same : n ≡ i = grind (arith, nat_tests) in
            let own : EntryMade m past e.now (actor.Script i) k = subst (λ (y : ℕ). EntryMade m past e.now (actor.Script y) k) same x in
            let step : JournalStep m past (entry_of e.time e.now (actor.Script i) k) (class_of k) = subst (λ (y : ℕ). JournalStep m past (entry_of e.time e.now (actor.Script y) k) (class_of k)) same d in
            subst (λ (y : ℕ). By (time_of past + day) (position_at (positions_after (actor.Script y) (position_effect k) (positions (length m.actors) past)) i).until) (sym same)
            (subst (λ (y : ScriptPosition). By (time_of past + day) y.until) (sym (position_own (positions (length m.actors) past) i (position_effect k) (subst (λ (y : ℕ). i < y) (sym (positions_len (length m.actors) past)) l)))
            (class_near m acc past e.now i (position_effect k) (position_of m past i) (entry_bounded m acc past e.now i k e.time own step) h))
        by_same false f = subst (λ (y : ScriptPosition). By (time_of past + day) y.until) (sym (position_other (positions (length m.actors) past) i n (position_effect k) f)) h
    by_actor actor.Auto k x d h = h
    by_actor (actor.Dev d') k x d h = h
    by_actor (actor.Timer s) k x d h = h
    by_actor actor.Time k x d h = h

-- ---- all

none_if : (t : ℕ) (b : Bool) (o : Option ℕ) → By t o → By t (cond b None o)
none_if t true o h = tt
none_if t false o h = h

module _ (m : Machine) (acc : IsAccepted m) (past : List Entry) (j : JournalPart m past) where
  script_bounded : (i : ℕ) (o : Option Script) → slice_get m.actors i ≡ o → By (time_of past + day) (pending_sleep (sleeps_now past) (freezing m i past) o (position_of m past i))
  script_bounded i None e = tt
  script_bounded i (Some s) e = none_if (time_of past + day) _ (position_of m past i).until (sleep_by m acc past j i (slice_get_within m.actors i s e))

  sleeps_bounded : (n : ℕ) → By (time_of past + day) (next_sleep m past n)
  sleeps_bounded zero = tt
  sleeps_bounded (suc n) = sooner_by (time_of past + day) (pending_sleep (sleeps_now past) (freezing m n past) (slice_get m.actors n) (position_of m past n)) (next_sleep m past n) (script_bounded n (slice_get m.actors n) refl) (sleeps_bounded n)

  alarm_bounded : (o : Option Sleep) → SinceBy (time_of past) o → By (time_of past + day) (alarm_at m o)
  alarm_bounded None h = tt
  alarm_bounded (Some s) h = omega (arith, h, acc.alarm_most)

  deadline_bounded : (o : Option ℕ) → By (time_of past) o → By (time_of past + day) (deadline_at o)
  deadline_bounded None h = tt
  deadline_bounded (Some s) h = omega (arith, h)

expiries_bounded : (past : List Entry) (of : ℕ → List Entry) → ExpiriesAreBounded past of → (n : ℕ) → By (time_of past + day) (next_expiry n of)
expiries_bounded past of e zero = tt
expiries_bounded past of e (suc n) = sooner_by (time_of past + day) (expiry (of n)) (next_expiry n of) (e n) (expiries_bounded past of e n)

pub are_bounded : NextMomentsAreBounded
are_bounded m acc past of j e =
    let t : ℕ = time_of past + day in
    sooner_by (time_of past + day) (journal_time m past) (next_expiry (length m.sources + 1) of)
    (sooner_by (time_of past + day) (alarm_at m (sleep_of past)) (sooner (deadline_at (freeze_since past)) (sooner (pending_nap past) (next_sleep m past (length m.actors)))) (alarm_bounded m acc past j (sleep_of past) (since_by m past j))
    (sooner_by (time_of past + day) (deadline_at (freeze_since past)) (sooner (pending_nap past) (next_sleep m past (length m.actors))) (deadline_bounded m acc past j (freeze_since past) (freeze_by m past j))
    (sooner_by (time_of past + day) (pending_nap past) (next_sleep m past (length m.actors)) (none_if (time_of past + day) (sleeps_now past) (naps_until (work past)) (nap_by m past j)) (sleeps_bounded m acc past j (length m.actors)))))
    (expiries_bounded past of e (length m.sources + 1))
