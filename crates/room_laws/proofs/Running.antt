-- The autosleep work begins at most one attempt in each of its runs, and runs only if autosleep was written.
use Rattle.std.proofs.Common.{◌≡◌, ◌≤◌, ◌<◌, ◌+◌, ◌∙◌, ℕ, zero, suc, Bool, true, false, not, ◌&&◌, nat_lt, List, [], ◌∷◌, Option, slice_get, cond, refl, sym, ap, subst, arith}
use Rattle.std.specs.List.{count_by}
use Rattle.std.proofs.lemmas.Bool.{true≢false}
use Rattle.std.proofs.lemmas.Bool.Decides.{nat_tests}
use Rattle.sleep_model.specs.declared.entry.Actor.{Actor}
use Rattle.sleep_model.specs.declared.entry.Actor.TheVariants as actor
use Rattle.sleep_model.specs.declared.entry.Entry.{Entry}
use Rattle.sleep_model.specs.declared.entry.Kind.{Kind}
use Rattle.sleep_model.specs.declared.entry.Kind.TheVariants as kind
use Rattle.sleep_model.specs.declared.log.Why.TheVariants as why
use Rattle.sleep_model.specs.declared.machine.Machine.{Machine}
use Rattle.sleep_model.specs.declared.machine.Op.{Op}
use Rattle.sleep_model.specs.declared.machine.Script.{Script}
use Rattle.sleep_model.specs.declared.progress.Due.TheVariants.{Makes, Waits}
use Rattle.sleep_model.specs.declared.progress.ScriptPosition.{ScriptPosition}
use Rattle.sleep_model.specs.declared.progress.Stage.{Stage}
use Rattle.sleep_model.specs.declared.progress.Work.{Work}
use Rattle.sleep_model.specs.declared.progress.Work.TheVariants.{Resting, Attempting}
use Rattle.sleep_model.specs.declared.word.EventNow.{EventNow}
use Rattle.sleep_model.specs.Attempt.{attempt_due, sleeps_now}
use Rattle.sleep_model.specs.Autosleep.{work, work_after, work_step, work_due, looks_at, runs, runs_after, may_run, is_queued, queued_after}
use Rattle.sleep_model.specs.Due.{due, own_due, is_over}
use Rattle.sleep_model.specs.Legal.{JournalPart, JournalStep}
use Rattle.sleep_model.specs.Lock.{is_on}
use Rattle.sleep_model.specs.EntryClasses.{class_of}
use Rattle.sleep_model.specs.Path.{maker, is_actor, is_same}
use Rattle.sleep_model.specs.Places.{one_if, is_autosleep, all_operations}
use Rattle.sleep_model.specs.Scripts.{entry_steps, operations, makes_entry}
use Rattle.sleep_laws.proofs.Made.{Made, StepMade, TaskMade, WorkMade, DeviceMade, EntryMade, ByMaker, ByTask, ByWork, ByDevice, ByTime}
use Rattle.sleep_laws.proofs.MakingOwn.{made, entry_made}
use Rattle.room_laws.proofs.Limiting.{tried, tried_same, tried_other, tried_more, making_preserved, making_over, making_new}
use Rattle.room_laws.proofs.Summing.{total, count_is, one_where, total_flat, total_filter}
use Rattle.room_laws.proofs.Trying.{is_attempt, is_over as ends_attempt, done_of, steps_if, steps_in, passes, is_attempting, is_trying, TriesAt, Trial, ByMaking, ByTrying, ByWorking, ByOther, trial, same_actor, maker_other}

-- ---- one attempt a run

-- the work has that state, has begun so many attempts in so many runs, and makes the open one or not
pub record AutoTries (w : Work) (tried runs : ℕ) (making : Bool) : Type 0 where
  pub within : tried + one_if (not making && is_trying w) ≤ runs
  pub attempting : making ≡ true → is_attempting w ≡ true

abbrev pub Tries : List Entry → Type 0
Tries past = AutoTries (work past) (tried actor.Auto past) (runs past) (is_actor actor.Auto (maker past))

pub runs_more : (k : Kind) (r : ℕ) → r ≤ runs_after k r
runs_more kind.AutoRun r = omega arith
runs_more _ r = omega arith

looks_done : (w : Work) → is_attempting w ≡ true → is_trying (looks_at w) ≡ false
looks_done (Attempting c) e = refl
looks_done _ e = absurd (true≢false (sym e))

tries_still : (w : Work) → is_attempting w ≡ true → is_trying w ≡ true
tries_still (Attempting c) e = refl
tries_still _ e = absurd (true≢false (sym e))

attempt_stays : (k : Kind) (w : Work) → is_attempt k ≡ true → (work_step k w ≡ w) × ((r : ℕ) → runs_after k r ≡ r)
attempt_stays (kind.Attempt n guarded) w e = (refl, λ r. refl)
attempt_stays _ w e = absurd (true≢false (sym e))

pub work_own : (a : Actor) (k : Kind) (w : Work) → is_same a actor.Auto ≡ true → work_after a k w ≡ work_step k w
work_own actor.Auto k w e = refl
work_own _ k w e = absurd (true≢false (sym e))

pub work_other : (a : Actor) (k : Kind) (w : Work) → is_same a actor.Auto ≡ false → work_after a k w ≡ w
work_other actor.Auto k w e = absurd (true≢false e)
work_other (actor.Script i) k w e = refl
work_other (actor.Dev i) k w e = refl
work_other (actor.Timer i) k w e = refl
work_other actor.Time k w e = refl

-- what the work has yet to begin
abbrev due_still : Bool → Work → ℕ
due_still making w = one_if (not making && is_trying w)

own_tries : (m : Machine) (past : List Entry) (e : Entry) → Trial m past e.actor e.kind → is_same e.actor actor.Auto ≡ true → Tries past → Tries (e ∷ past)
own_tries m past e (ByMaking t ends steps a) s h = by_over (ends_attempt e.kind) refl
  where
    mine : is_actor actor.Auto (maker past) ≡ true
    mine = subst (λ (x : Actor). is_actor x (maker past) ≡ true) (same_actor e.actor actor.Auto s) a

    by_over : (b : Bool) → ends_attempt e.kind ≡ b → Tries (e ∷ past)
    by_over true o =
        let free = making_over e past actor.Auto t o in
        let new : work (e ∷ past) ≡ looks_at (work past) = work_own e.actor e.kind (work past) s ∙ (steps (work past) ∙ ap (λ b. cond b (looks_at (work past)) (work past)) o) in
        let none : due_still (is_actor actor.Auto (maker (e ∷ past))) (work (e ∷ past)) ≡ 0 =
        ap (λ b. due_still b (work (e ∷ past))) free ∙ ap one_if (ap is_trying new ∙ looks_done (work past) (h.attempting mine)) in
        record {
          within = omega (arith, h.within, none, tried_same actor.Auto past e t, runs_more e.kind (runs past));
          attempting = λ x. absurd (true≢false (sym x ∙ free));
        }
    by_over false o =
        let kept = making_preserved e past actor.Auto t o in
        let new : work (e ∷ past) ≡ work past = work_own e.actor e.kind (work past) s ∙ (steps (work past) ∙ ap (λ b. cond b (looks_at (work past)) (work past)) o) in
        let none : due_still (is_actor actor.Auto (maker (e ∷ past))) (work (e ∷ past)) ≡ 0 = ap (λ b. due_still b (work (e ∷ past))) (kept ∙ mine) in
        record {
          within = omega (arith, h.within, none, tried_same actor.Auto past e t, runs_more e.kind (runs past));
          attempting = λ x. ap is_attempting new ∙ h.attempting mine;
        }
own_tries m past e (ByTrying t f at) s h =
    let tries : is_attempting (work past) ≡ true = subst (TriesAt m past) (same_actor e.actor actor.Auto s) at in
    let new : work (e ∷ past) ≡ work past = work_own e.actor e.kind (work past) s ∙ (attempt_stays e.kind (work past) t).0 in
    let before : due_still (is_actor actor.Auto (maker past)) (work past) ≡ 1 = ap (λ o. due_still (is_actor actor.Auto o) (work past)) f ∙ ap one_if (tries_still (work past) tries) in
    let none : due_still (is_actor actor.Auto (maker (e ∷ past))) (work (e ∷ past)) ≡ 0 = ap (λ b. due_still b (work (e ∷ past))) (making_new e past actor.Auto t ∙ s) in
    record {
      within = omega (arith, h.within, before, none, tried_more actor.Auto past e s t, runs_more e.kind (runs past));
      attempting = λ x. ap is_attempting new ∙ tries;
    }
own_tries m past e (ByWorking t o w a l) s h =
    let free : is_actor actor.Auto (maker past) ≡ false = subst (λ (x : Actor). is_actor x (maker past) ≡ false) w a in
    let kept = making_preserved e past actor.Auto t o in
    let before : due_still (is_actor actor.Auto (maker past)) (work past) ≡ one_if (is_trying (work past)) = ap (λ b. due_still b (work past)) free in
    let after : due_still (is_actor actor.Auto (maker (e ∷ past))) (work (e ∷ past)) ≡ one_if (is_trying (work_step e.kind (work past))) =
    ap (λ b. due_still b (work (e ∷ past))) (kept ∙ free) ∙ ap (λ v. one_if (is_trying v)) (work_own e.actor e.kind (work past) s) in
    record {
      within = omega (arith, h.within, before, after, l, tried_same actor.Auto past e t);
      attempting = λ x. absurd (true≢false (sym x ∙ (kept ∙ free)));
    }
own_tries m past e (ByOther t o w a) s h = absurd (true≢false (sym s ∙ w))

other_tries : (m : Machine) (past : List Entry) (e : Entry) → Trial m past e.actor e.kind → is_same e.actor actor.Auto ≡ false → Tries past → Tries (e ∷ past)
other_tries m past e x n h =
    let kept = maker_other m past e actor.Auto x n in
    let new : work (e ∷ past) ≡ work past = work_other e.actor e.kind (work past) n in
    let after : due_still (is_actor actor.Auto (maker (e ∷ past))) (work (e ∷ past)) ≡ due_still (is_actor actor.Auto (maker past)) (work past) =
    ap (λ b. due_still b (work (e ∷ past))) kept ∙ ap (λ v. due_still (is_actor actor.Auto (maker past)) v) new in
    record {
      within = omega (arith, h.within, after, tried_other actor.Auto past e n, runs_more e.kind (runs past));
      attempting = λ x. ap is_attempting new ∙ h.attempting (sym kept ∙ x);
    }

pub work_tries : (m : Machine) (past : List Entry) → JournalPart m past → Tries past
work_tries m [] h = record { within = omega arith; attempting = λ x. absurd (true≢false (sym x)) }
work_tries m (e ∷ past) h = by_same (is_same e.actor actor.Auto) refl (work_tries m past h.1)
  where
    by_same : (b : Bool) → is_same e.actor actor.Auto ≡ b → Tries past → Tries (e ∷ past)
    by_same true s t = own_tries m past e (trial m past e h) s t
    by_same false s t = other_tries m past e (trial m past e h) s t

-- the work begins an attempt at most in each run
pub work_within : (m : Machine) (past : List Entry) → JournalPart m past → tried actor.Auto past ≤ runs past
work_within m past h = omega (arith, (work_tries m past h).within)

-- ---- how often it runs

abbrev pub is_run : Kind → Bool
is_run kind.AutoRun = true
is_run _ = false

made_no_run : (m : Machine) (past : List Entry) (now : EventNow) (there : Stage) (k : Kind) → Made m past now there k → is_run k ≡ false
made_no_run m past now _ _ Made.Ends = refl
made_no_run m past now _ _ _ = refl

step_no_run : (m : Machine) (past : List Entry) (now : EventNow) (position : ScriptPosition) (asked : Bool) (o : Option Op) (k : Kind) → StepMade m past now position asked o k → is_run k ≡ false
step_no_run m past now position asked _ _ StepMade.Exits = refl
step_no_run m past now position asked _ _ _ = refl

device_no_run : (m : Machine) (past : List Entry) (now : EventNow) (d : ℕ) (k : Kind) → DeviceMade m past now d k → is_run k ≡ false
device_no_run m past now d _ (DeviceMade.OwnFails p r w g f) = refl
device_no_run m past now d _ _ = refl

-- it runs only if it rests
run_rests : (m : Machine) (past : List Entry) (now : EventNow) (w : Work) (k : Kind) → WorkMade m past now w k → is_run k ≡ true → (w ≡ Resting) × (k ≡ kind.AutoRun)
run_rests m past now _ _ WorkMade.Runs e = (refl, refl)
run_rests m past now _ _ (WorkMade.Reads q) e = absurd (true≢false (sym e))
run_rests m past now _ _ _ e = absurd (true≢false (sym e))

-- and nothing else comes of it there
rests_run : (m : Machine) (past : List Entry) (now : EventNow) (w : Work) (k : Kind) → WorkMade m past now w k → w ≡ Resting → is_run k ≡ true
rests_run m past now _ _ WorkMade.Runs e = refl
rests_run m past now _ _ (WorkMade.Reads q) e = absurd (cc)
rests_run m past now _ _ _ e = absurd (cc)

made_where : (b : Bool) → cond b (Makes kind.AutoRun) (Waits why.NoWork) ≡ Makes kind.AutoRun → b ≡ true
made_where true e = refl
made_where false e = absurd (cc)

work_due_at : (m : Machine) (past : List Entry) (now : EventNow) → is_actor actor.Auto (maker past) ≡ false → sleeps_now past ≡ false → is_over m past ≡ false → work past ≡ Resting → due m past actor.Auto now ≡ work_due m past now Resting
work_due_at m past now a s o w =
    ap (λ b. cond b (attempt_due m past now) (own_due m past actor.Auto now)) a
    ∙ (ap (λ b. cond b (Waits why.Asleep) (cond (is_over m past) (Waits why.NoWork) (work_due m past now (work past)))) s
    ∙ (ap (λ b. cond b (Waits why.NoWork) (work_due m past now (work past))) o ∙ ap (work_due m past now) w))

-- and only if it may
run_may : (m : Machine) (past : List Entry) (now : EventNow) (who : Actor) (k : Kind) → EntryMade m past now who k → is_run k ≡ true → due m past who now ≡ Makes k → may_run m past ≡ true
run_may m past now who k (ByMaker _ here there _ a e c x) r d = absurd (true≢false (sym r ∙ made_no_run m past now there k x))
run_may m past now _ _ (ByTask i _ a (TaskMade.Freezes s go asked)) r d = absurd (true≢false (sym r))
run_may m past now _ k (ByTask i _ a (TaskMade.Steps s _ o go at x)) r d = absurd (true≢false (sym r ∙ step_no_run m past now _ _ o k x))
run_may m past now _ k (ByWork w _ a s o e x) r d =
    let rests = run_rests m past now w k x r in
    made_where (may_run m past) (sym (work_due_at m past now a s o (e ∙ rests.0)) ∙ (d ∙ ap Makes rests.1))
run_may m past now _ k (ByDevice d _ a x) r e = absurd (true≢false (sym r ∙ device_no_run m past now d k x))
run_may m past now _ _ ByTime r d = absurd (true≢false (sym r))

run_step : (m : Machine) (past : List Entry) (time : ℕ) (now : EventNow) (who : Actor) (k : Kind) → JournalStep m past (record { time = time; now = now; actor = who; kind = k }) (class_of k) → is_run k ≡ true → may_run m past ≡ true
run_step m past time now who kind.AutoRun h r = run_may m past now who kind.AutoRun (made m past now who kind.AutoRun h.0) refl h.0
run_step m past time now who _ h r = absurd (true≢false (sym r))

pub runs_is : (k : Kind) (r : ℕ) → runs_after k r ≡ one_if (is_run k) + r
runs_is kind.AutoRun r = omega arith
runs_is _ r = omega arith

and_parts : (a b : Bool) → (a && b) ≡ true → (a ≡ true) × (b ≡ true)
and_parts true true h = (refl, refl)
and_parts true false h = absurd (true≢false (sym h))
and_parts false b h = absurd (true≢false (sym h))

-- it runs at most as often as the machine says
pub runs_within : (m : Machine) (past : List Entry) → JournalPart m past → runs past ≤ m.auto_cycles
runs_within m [] h = omega arith
runs_within m (e ∷ past) h = by_run (is_run e.kind) refl (runs_within m past h.1)
  where
    by_run : (b : Bool) → is_run e.kind ≡ b → runs past ≤ m.auto_cycles → runs (e ∷ past) ≤ m.auto_cycles
    by_run true r l =
        let may : nat_lt (runs past) m.auto_cycles ≡ true = (and_parts (is_queued past) (nat_lt (runs past) m.auto_cycles) (run_step m past e.time e.now e.actor e.kind h.0 r)).1 in
        let less : runs past < m.auto_cycles = grind (arith, nat_tests) in
        omega (arith, runs_is e.kind (runs past), ap one_if r, less)
    by_run false r l = omega (arith, runs_is e.kind (runs past), ap one_if r, l)

-- ---- if autosleep is never written

-- the work never runs
record Quiet (past : List Entry) : Type 0 where
  queue : is_queued past ≡ false
  rests : work past ≡ Resting
  none : runs past ≡ 0

-- an entry that queues no work, is no run, and leaves work that rests
record IsQuiescent (who : Actor) (k : Kind) : Type 0 where
  queues : (on : Bool) → queued_after k on false ≡ false
  runs : is_run k ≡ false
  rests : work_after who k Resting ≡ Resting

work_any : (a : Actor) (k : Kind) (w : Work) → work_step k w ≡ w → work_after a k w ≡ w
work_any actor.Auto k w e = e
work_any (actor.Script i) k w e = refl
work_any (actor.Dev i) k w e = refl
work_any (actor.Timer i) k w e = refl
work_any actor.Time k w e = refl

maker_quiescent : (m : Machine) (past : List Entry) (now : EventNow) (there : Stage) (k : Kind) → Made m past now there k → (who : Actor) → IsQuiescent who k
maker_quiescent m past now _ _ Made.Ends who = record { queues = λ on. refl; runs = refl; rests = work_any who _ Resting refl }
maker_quiescent m past now _ _ _ who = record { queues = λ on. refl; runs = refl; rests = work_any who _ Resting refl }

step_quiescent : (m : Machine) (past : List Entry) (now : EventNow) (i : ℕ) (position : ScriptPosition) (asked : Bool) (o : Option Op) (k : Kind) → StepMade m past now position asked o k → (passes is_autosleep o ≡ true → ⊥) → IsQuiescent (actor.Script i) k
step_quiescent m past now i position asked _ _ (StepMade.AutoEnds text w) n = absurd (n refl)
step_quiescent m past now i position asked _ _ _ n = record { queues = λ on. refl; runs = refl; rests = refl }

device_quiescent : (m : Machine) (past : List Entry) (now : EventNow) (d : ℕ) (k : Kind) → DeviceMade m past now d k → IsQuiescent (actor.Dev d) k
device_quiescent m past now d _ (DeviceMade.OwnFails p r w g f) = record { queues = λ on. refl; runs = refl; rests = refl }
device_quiescent m past now d _ _ = record { queues = λ on. refl; runs = refl; rests = refl }

get_one : (test : Op → Bool) (xs : List Op) (k : ℕ) → passes test (slice_get xs k) ≡ true → 1 ≤ total (one_where test) xs
get_one test [] k e = absurd (true≢false (sym e))
get_one test (x ∷ xs) zero e = let one : one_where test x ≡ 1 = ap (λ b. cond b 1 0) e in omega (arith, one)
get_one test (x ∷ xs) (suc k) e = omega (arith, get_one test xs k e)

script_one : (test : Op → Bool) (xs : List Script) (i k : ℕ) → passes test (slice_get (steps_if (slice_get xs i)) k) ≡ true → 1 ≤ total (λ s. total (one_where test) (operations s)) xs
script_one test [] i k e = absurd (true≢false (sym e))
script_one test (x ∷ xs) zero k e = omega (arith, get_one test (entry_steps x) k e, total_filter (one_where test) makes_entry (operations x))
script_one test (x ∷ xs) (suc i) k e = omega (arith, script_one test xs i k e)

-- no script has such an operation
none_written : (m : Machine) → count_by is_autosleep (all_operations m.actors) ≡ 0 → (i k : ℕ) → passes is_autosleep (slice_get (steps_in m i) k) ≡ true → ⊥
none_written m z i k e =
    let one : 1 ≤ total (λ s. total (one_where is_autosleep) (operations s)) m.actors = script_one is_autosleep m.actors i k e in
    absurd (omega (arith, one, total_flat (one_where is_autosleep) operations m.actors, count_is is_autosleep (all_operations m.actors), z))

entry_quiescent : (m : Machine) → count_by is_autosleep (all_operations m.actors) ≡ 0 → (past : List Entry) (now : EventNow) (who : Actor) (k : Kind) → EntryMade m past now who k → Quiet past → (is_run k ≡ true → may_run m past ≡ true) → IsQuiescent who k
entry_quiescent m z past now who k (ByMaker _ here there _ a e c x) q r = maker_quiescent m past now there k x who
entry_quiescent m z past now _ _ (ByTask i _ a (TaskMade.Freezes s go asked)) q r = record { queues = λ on. refl; runs = refl; rests = refl }
entry_quiescent m z past now _ k (ByTask i _ a (TaskMade.Steps s _ o go at x)) q r =
    let here : slice_get (steps_in m i) (done_of m past i) ≡ o = ap (λ y. slice_get (steps_if y) (done_of m past i)) go.script ∙ at in
    step_quiescent m past now i _ _ o k x (λ p. none_written m z i (done_of m past i) (ap (passes is_autosleep) here ∙ p))
entry_quiescent m z past now _ k (ByWork w _ a s o e x) q r =
    absurd (true≢false (sym (and_parts (is_queued past) (nat_lt (runs past) m.auto_cycles) (r (rests_run m past now w k x (sym e ∙ q.rests)))).0 ∙ q.queue))
entry_quiescent m z past now _ k (ByDevice d _ a x) q r = device_quiescent m past now d k x
entry_quiescent m z past now _ _ ByTime q r = record { queues = λ on. refl; runs = refl; rests = refl }

quiet : (m : Machine) → count_by is_autosleep (all_operations m.actors) ≡ 0 → (past : List Entry) → JournalPart m past → Quiet past
quiet m z [] h = record { queue = refl; rests = refl; none = refl }
quiet m z (e ∷ past) h =
    let q = quiet m z past h.1 in
    let c = entry_quiescent m z past e.now e.actor e.kind (entry_made m past e h) q (run_step m past e.time e.now e.actor e.kind h.0) in
    record {
      queue = ap (queued_after e.kind (is_on past)) q.queue ∙ c.queues (is_on past);
      rests = ap (work_after e.actor e.kind) q.rests ∙ c.rests;
      none = omega (arith, runs_is e.kind (runs past), ap one_if c.runs, q.none);
    }

-- the work runs only if autosleep is written
pub runs_none : (m : Machine) → count_by is_autosleep (all_operations m.actors) ≡ 0 → (past : List Entry) → JournalPart m past → runs past ≡ 0
runs_none m z past h = (quiet m z past h).none
