-- Outside attempts, who holds the autosleep lock goes on: it is a script at its write to autosleep, or the work that is to make an attempt.
use Rattle.std.proofs.Common.{◌≡◌, ◌<◌, ◌+◌, ◌∙◌, ℕ, Bool, true, false, ◌==◌, ◌||◌, List, [], ◌∷◌, length, Option, Some, None, is_some, slice_get, cond, refl, sym, ap, subst, arith}
use Rattle.std.proofs.lemmas.Bool.{true≢false}
use Rattle.std.proofs.lemmas.Bool.Decides.{nat_tests}
use Rattle.std.proofs.lemmas.List.{set-get_or}
use Rattle.std.proofs.lemmas.Option.{slice_get_within}
use Rattle.sleep_model.specs.declared.entry.Actor.{Actor}
use Rattle.sleep_model.specs.declared.entry.Actor.TheVariants as actor
use Rattle.sleep_model.specs.declared.entry.Entry.{Entry}
use Rattle.sleep_model.specs.declared.entry.Kind.{Kind}
use Rattle.sleep_model.specs.declared.entry.Kind.TheVariants as kind
use Rattle.sleep_model.specs.declared.machine.Machine.{Machine}
use Rattle.sleep_model.specs.declared.machine.Op.{Op}
use Rattle.sleep_model.specs.declared.machine.Op.TheVariants as op
use Rattle.sleep_model.specs.declared.machine.Script.{Script}
use Rattle.sleep_model.specs.declared.progress.Due.TheVariants.{Makes}
use Rattle.sleep_model.specs.declared.progress.ScriptPosition.{ScriptPosition}
use Rattle.sleep_model.specs.declared.progress.Stage.{Stage}
use Rattle.sleep_model.specs.declared.progress.Work.{Work}
use Rattle.sleep_model.specs.declared.progress.Work.TheVariants.{Attempting, Closing, Looking, Napping, Reading, Resting, Saving}
use Rattle.sleep_model.specs.declared.word.EventNow.{EventNow}
use Rattle.sleep_model.specs.Autosleep.{seen_count, work, work_after, work_step}
use Rattle.sleep_model.specs.Numbers.{time_of}
use Rattle.sleep_model.specs.Word.{visible}
use Rattle.sleep_model.specs.Due.{due}
use Rattle.sleep_model.specs.Legal.{JournalPart, JournalStep}
use Rattle.sleep_model.specs.Lock.{holder, holder_after, let_go_by}
use Rattle.sleep_model.specs.EntryClasses.{class_of}
use Rattle.sleep_model.specs.Path.{is_actor, maker, maker_after}
use Rattle.sleep_model.specs.Scripts.{entry_steps}
use Rattle.sleep_model.specs.Positions.{PositionEffect, Sets, first_position, position_after, position_effect, positions, positions_after}
use Rattle.sleep_model.specs.Steps.{autosleep_due, step_due}
use Rattle.sleep_model.specs.Tasks.{is_mem, is_off}
use Rattle.sleep_laws.proofs.LockHolding.{HolderOf, lock_agrees}
use Rattle.sleep_laws.proofs.Made.{ByDevice, ByMaker, ByTask, ByTime, ByWork, DeviceMade, EntryMade, Made, MayGo, StepMade, TaskMade, WorkMade, position_of}
use Rattle.sleep_laws.proofs.MakingOwn.{made}
use Rattle.sleep_laws.proofs.Telling.{some≢none}
use Rattle.room_laws.proofs.Sitting.{IsAttempting, IsLock, IsSetting, LockAt, SetsAt, bad_text, free, op_at, position_other, position_own, positions_len, set_good, step_is}

-- ---- a task

-- a script's position is as it was after another's entry
setting_preserved : (m : Machine) (ss : List ScriptPosition) (i j : ℕ) (part : PositionEffect) → (j == i) ≡ false → SetsAt m ss i → SetsAt m (positions_after (actor.Script j) part ss) i
setting_preserved m ss i j part e h = (h.0, subst (λ (y : ScriptPosition). IsSetting (op_at (slice_get m.actors i) y.done) y) (sym (position_other ss i j part e)) h.1)

turned : (a b : ℕ) → (a == b) ≡ false → (b == a) ≡ false
turned a b e = grind (arith, nat_tests)

module _ (m : Machine) (past : List Entry) (now : EventNow) (j : JournalPart m past) (closed : maker past ≡ None) (i : ℕ) (s : Script) (go : MayGo m past i s) where
  within : i < length m.actors
  within = slice_get_within m.actors i s go.script

  -- what is due of the script is its next step
  next_is : due m past (actor.Script i) now ≡ step_due m past now (position_of m past i) false (slice_get (entry_steps s) (position_of m past i).done)
  next_is = step_is m past now i s closed go.script go.there (free m past j closed i) go.awake

  -- a script that sets autosleep makes nothing but its end
  own_lock : (asked : Bool) (o : Option Op) (k : Kind) → slice_get (entry_steps s) (position_of m past i).done ≡ o → due m past (actor.Script i) now ≡ Makes k → IsSetting o (position_of m past i) → StepMade m past now (position_of m past i) asked o k
      → (places : List ScriptPosition) → LockAt m places (work past) (holder_after k (actor.Script i) (Some (actor.Script i)))
  own_lock asked _ _ e d h (StepMade.AutoBad text) places =
      let made : autosleep_due (is_some (holder past)) (position_of m past i).waits (is_mem text) (is_off text) ≡ Makes kind.AutoBad =
      sym (next_is ∙ ap (λ (x : Option Op). step_due m past now (position_of m past i) false x) e) ∙ d in
      let bad : (is_mem text || is_off text) ≡ false = bad_text (is_some (holder past)) (is_mem text) (is_off text) (subst (λ (b : Bool). autosleep_due (is_some (holder past)) b (is_mem text) (is_off text) ≡ Makes kind.AutoBad) h.0 made) in
      absurd (true≢false (sym h.2 ∙ bad))
  own_lock asked _ _ e d h (StepMade.AutoEnds text w) places = subst (LockAt m places (work past)) (sym (gone (i == i) (same i))) tt
    where
      same : (n : ℕ) → (n == n) ≡ true
      same n = grind (arith, nat_tests)

      gone : (b : Bool) → b ≡ true → ◌≡◌ {A = Option Actor} (cond b None (Some (actor.Script i))) None
      gone true f = refl
      gone false f = absurd (true≢false (sym f))
  own_lock asked _ _ e d h (StepMade.AutoSets text state w f) places = absurd (true≢false (sym h.0 ∙ w))
  own_lock asked _ _ e d h _ places = absurd h

  -- if nobody holds the lock, a script that takes it begins to set autosleep
  free_lock : (asked : Bool) (o : Option Op) (k : Kind) → slice_get (entry_steps s) (position_of m past i).done ≡ o → due m past (actor.Script i) now ≡ Makes k → maker_after k (actor.Script i) (maker past) ≡ None → StepMade m past now (position_of m past i) asked o k
      → LockAt m (positions_after (actor.Script i) (position_effect k) (positions (length m.actors) past)) (work past) (holder_after k (actor.Script i) None)
  free_lock asked _ _ e d c (StepMade.AutoSets text state w f) =
      let made : autosleep_due (is_some (holder past)) (position_of m past i).waits (is_mem text) (is_off text) ≡ Makes (kind.AutoSet state) =
      sym (next_is ∙ ap (λ (x : Option Op). step_due m past now (position_of m past i) false x) e) ∙ d in
      let good : (is_mem text || is_off text) ≡ true = set_good (is_some (holder past)) (position_of m past i).waits (is_mem text) (is_off text) state made in
      let at : op_at (slice_get m.actors i) (position_of m past i).done ≡ Some (op.Autosleep text) = ap (λ (x : Option Script). op_at x (position_of m past i).done) go.script ∙ e in
      let sets : IsSetting (op_at (slice_get m.actors i) (position_of m past i).done) (position_after Sets (position_of m past i)) =
      subst (λ (x : Option Op). IsSetting x (position_after Sets (position_of m past i))) (sym at) (refl, go.there, good) in
      (within, subst (λ (y : ScriptPosition). IsSetting (op_at (slice_get m.actors i) y.done) y) (sym (position_own (positions (length m.actors) past) i Sets (subst (λ (n : ℕ). i < n) (sym (positions_len (length m.actors) past)) within))) sets)
  free_lock asked _ _ e d c (StepMade.Attempts text if_saved f o) = absurd (some≢none (actor.Script i) c)
  free_lock asked _ _ e d c _ = tt

  -- what the work holds, no script lets go
  work_lock : (asked : Bool) (o : Option Op) (k : Kind) → maker_after k (actor.Script i) (maker past) ≡ None → holder past ≡ Some actor.Auto → IsAttempting (work past) → StepMade m past now (position_of m past i) asked o k
      → (places : List ScriptPosition) → LockAt m places (work past) (holder_after k (actor.Script i) (Some actor.Auto))
  work_lock asked _ _ c e h (StepMade.AutoSets text state w f) places = absurd (some≢none actor.Auto (sym e ∙ f))
  work_lock asked _ _ c e h (StepMade.Attempts text if_saved f o) places = absurd (some≢none (actor.Script i) c)
  work_lock asked _ _ c e h _ places = h

  -- what another script holds, none lets go
  other_lock : (n : ℕ) → (n == i) ≡ false → (asked : Bool) (o : Option Op) (k : Kind) → maker_after k (actor.Script i) (maker past) ≡ None → holder past ≡ Some (actor.Script n) → (places : List ScriptPosition) → SetsAt m places n → StepMade m past now (position_of m past i) asked o k
      → LockAt m places (work past) (holder_after k (actor.Script i) (Some (actor.Script n)))
  other_lock n a asked _ _ c e places h (StepMade.AutoSets text state w f) = absurd (some≢none (actor.Script n) (sym e ∙ f))
  other_lock n a asked _ _ c e places h (StepMade.Attempts text if_saved f o) = absurd (some≢none (actor.Script i) c)
  other_lock n a asked _ _ c e places h (StepMade.AutoEnds text w) = subst (LockAt m places (work past)) (sym (ap (λ b. cond b None (Some (actor.Script n))) a)) h
  other_lock n a asked _ _ c e places h _ = h

  step_lock : (asked : Bool) (o : Option Op) (k : Kind) → slice_get (entry_steps s) (position_of m past i).done ≡ o → due m past (actor.Script i) now ≡ Makes k → maker_after k (actor.Script i) (maker past) ≡ None → StepMade m past now (position_of m past i) asked o k
      → (h : Option Actor) → holder past ≡ h → LockAt m (positions (length m.actors) past) (work past) h
      → LockAt m (positions_after (actor.Script i) (position_effect k) (positions (length m.actors) past)) (work past) (holder_after k (actor.Script i) h)
  step_lock asked o k e d c x None f l = free_lock asked o k e d c x
  step_lock asked o k e d c x (Some actor.Auto) f l = work_lock asked o k c f l x _
  step_lock asked o k e d c x (Some (actor.Script n)) f l = by_same (n == i) refl
    where
      by_same : (b : Bool) → (n == i) ≡ b → LockAt m (positions_after (actor.Script i) (position_effect k) (positions (length m.actors) past)) (work past) (holder_after k (actor.Script i) (Some (actor.Script n)))
      by_same true g =
          let same : n ≡ i = grind (arith, nat_tests) in
          let at : op_at (slice_get m.actors i) (position_of m past i).done ≡ o = ap (λ (x : Option Script). op_at x (position_of m past i).done) go.script ∙ e in
          let sets : IsSetting (op_at (slice_get m.actors i) (position_of m past i).done) (position_of m past i) = (subst (SetsAt m (positions (length m.actors) past)) same l).1 in
          subst (λ (y : ℕ). LockAt m (positions_after (actor.Script i) (position_effect k) (positions (length m.actors) past)) (work past) (holder_after k (actor.Script i) (Some (actor.Script y)))) (sym same)
          (own_lock asked o k e d (subst (λ (y : Option Op). IsSetting y (position_of m past i)) at sets) x _)
      by_same false g = other_lock n g asked o k c f _ (setting_preserved m (positions (length m.actors) past) n i (position_effect k) (turned n i g) l) x
  step_lock asked o k e d c x (Some (actor.Dev n)) f l = absurd l
  step_lock asked o k e d c x (Some (actor.Timer n)) f l = absurd l
  step_lock asked o k e d c x (Some actor.Time) f l = absurd l

-- an entry of a task that leaves no attempt open found none open
step_closed : (m : Machine) (past : List Entry) (now : EventNow) (position : ScriptPosition) (asked : Bool) (o : Option Op) (k : Kind) (who : Actor) (b : Option Actor) → StepMade m past now position asked o k → maker_after k who b ≡ None → b ≡ None
step_closed m past now position asked _ _ who b (StepMade.Attempts text if_saved f o) c = absurd (some≢none who c)
step_closed m past now position asked _ _ who b _ c = c

task_lock : (m : Machine) (past : List Entry) (now : EventNow) → JournalPart m past → IsLock m past → (i : ℕ) (k : Kind) → due m past (actor.Script i) now ≡ Makes k → TaskMade m past now i k → maker_after k (actor.Script i) (maker past) ≡ None
    → LockAt m (positions_after (actor.Script i) (position_effect k) (positions (length m.actors) past)) (work past) (holder_after k (actor.Script i) (holder past))
task_lock m past now j h i _ d (TaskMade.Freezes s go f) c =
    subst (λ (ss : List ScriptPosition). LockAt m ss (work past) (holder past)) (sym (set-get_or (positions (length m.actors) past) i first_position)) (h c)
task_lock m past now j h i _ d (TaskMade.Steps s k o go e x) c =
    let closed : maker past ≡ None = step_closed m past now _ _ o k (actor.Script i) (maker past) x c in
    step_lock m past now j closed i s go _ o k e d c x (holder past) refl (h closed)

-- ---- the work, a device, the maker

script_lock : (m : Machine) (ss : List ScriptPosition) (w other : Work) (h : Option Actor) → is_actor actor.Auto h ≡ false → LockAt m ss w h → LockAt m ss other h
script_lock m ss w other None a l = tt
script_lock m ss w other (Some (actor.Script i)) a l = l
script_lock m ss w other (Some actor.Auto) a l = absurd (true≢false a)
script_lock m ss w other (Some (actor.Dev d)) a l = absurd l
script_lock m ss w other (Some (actor.Timer s)) a l = absurd l
script_lock m ss w other (Some actor.Time) a l = absurd l

script_keeps : (m : Machine) (ss : List ScriptPosition) (w other : Work) (h : Option Actor) → is_actor actor.Auto h ≡ false → LockAt m ss w h → LockAt m ss other (let_go_by actor.Auto h)
script_keeps m ss w other None a l = tt
script_keeps m ss w other (Some (actor.Script i)) a l = l
script_keeps m ss w other (Some actor.Auto) a l = absurd (true≢false a)
script_keeps m ss w other (Some (actor.Dev d)) a l = absurd l
script_keeps m ss w other (Some (actor.Timer s)) a l = absurd l
script_keeps m ss w other (Some actor.Time) a l = absurd l

auto_let_go : (m : Machine) (ss : List ScriptPosition) (w : Work) (h : Option Actor) → is_actor actor.Auto h ≡ true → LockAt m ss w (let_go_by actor.Auto h)
auto_let_go m ss w (Some actor.Auto) a = tt
auto_let_go m ss w None a = absurd (true≢false (sym a))
auto_let_go m ss w (Some (actor.Script i)) a = absurd (true≢false (sym a))
auto_let_go m ss w (Some (actor.Dev d)) a = absurd (true≢false (sym a))
auto_let_go m ss w (Some (actor.Timer s)) a = absurd (true≢false (sym a))
auto_let_go m ss w (Some actor.Time) a = absurd (true≢false (sym a))

-- the work holds the lock only if it is to make an attempt
locked_by_work : (m : Machine) (ss : List ScriptPosition) (w : Work) (h : Option Actor) → is_actor actor.Auto h ≡ true → LockAt m ss w h → IsAttempting w
locked_by_work m ss w (Some actor.Auto) a l = l
locked_by_work m ss w None a l = absurd (true≢false (sym a))
locked_by_work m ss w (Some (actor.Script i)) a l = absurd (true≢false (sym a))
locked_by_work m ss w (Some (actor.Dev d)) a l = absurd (true≢false (sym a))
locked_by_work m ss w (Some (actor.Timer s)) a l = absurd (true≢false (sym a))
locked_by_work m ss w (Some actor.Time) a l = absurd (true≢false (sym a))

work_closed : (m : Machine) (past : List Entry) (now : EventNow) (w : Work) (k : Kind) (b : Option Actor) → WorkMade m past now w k → maker_after k actor.Auto b ≡ None → b ≡ None
work_closed m past now _ _ b (WorkMade.Attempts c o) e = absurd (some≢none actor.Auto e)
work_closed m past now _ _ b _ e = e

work_step_lock : (m : Machine) (past : List Entry) (now : EventNow) (w : Work) (k : Kind) → WorkMade m past now w k → (ss : List ScriptPosition) → maker_after k actor.Auto (maker past) ≡ None → (b : Bool) → is_actor actor.Auto (holder past) ≡ b → LockAt m ss w (holder past)
    → LockAt m ss (work_step k w) (holder_after k actor.Auto (holder past))
work_step_lock m past now _ _ (WorkMade.Attempts c o) ss e b a l = absurd (some≢none actor.Auto e)
work_step_lock m past now _ _ (WorkMade.Saves c f v q) ss e b a l = tt
work_step_lock m past now _ _ (WorkMade.Stops c o) ss e true a l = auto_let_go m ss (work_step kind.AutoOff (Attempting c)) (holder past) a
work_step_lock m past now _ _ (WorkMade.Stops c o) ss e false a l = script_keeps m ss (Attempting c) (work_step kind.AutoOff (Attempting c)) (holder past) a l
work_step_lock m past now _ _ (WorkMade.Closes o) ss e true a l = auto_let_go m ss (work_step kind.AutoOff Closing) (holder past) a
work_step_lock m past now _ _ (WorkMade.Closes o) ss e false a l = script_keeps m ss Closing (work_step kind.AutoOff Closing) (holder past) a l
work_step_lock m past now _ _ WorkMade.Runs ss e true a l = absurd (locked_by_work m ss Resting (holder past) a l)
work_step_lock m past now _ _ WorkMade.Runs ss e false a l = script_lock m ss Resting (work_step kind.AutoRun Resting) (holder past) a l
work_step_lock m past now _ _ (WorkMade.Reads q) ss e true a l = absurd (locked_by_work m ss Reading (holder past) a l)
work_step_lock m past now _ _ (WorkMade.Reads q) ss e false a l = script_lock m ss Reading (work_step (kind.Read (visible now)) Reading) (holder past) a l
work_step_lock m past now _ _ (WorkMade.SavesNot c f v) ss e true a l = absurd (locked_by_work m ss (Saving c) (holder past) a l)
work_step_lock m past now _ _ (WorkMade.SavesNot c f v) ss e false a l = script_lock m ss (Saving c) (work_step (kind.AutoUnsaved c) (Saving c)) (holder past) a l
work_step_lock m past now _ _ (WorkMade.Looks c) ss e true a l = absurd (locked_by_work m ss (Looking c) (holder past) a l)
work_step_lock m past now _ _ (WorkMade.Looks c) ss e false a l = script_lock m ss (Looking c) (work_step (kind.AutoAfter (seen_count now)) (Looking c)) (holder past) a l
work_step_lock m past now _ _ WorkMade.Naps ss e true a l = absurd (locked_by_work m ss (Napping None) (holder past) a l)
work_step_lock m past now _ _ WorkMade.Naps ss e false a l = script_lock m ss (Napping None) (work_step (kind.SleepD (time_of past + 500)) (Napping None)) (holder past) a l
work_step_lock m past now _ _ (WorkMade.Slept u) ss e true a l = absurd (locked_by_work m ss (Napping (Some u)) (holder past) a l)
work_step_lock m past now _ _ (WorkMade.Slept u) ss e false a l = script_lock m ss (Napping (Some u)) (work_step kind.Slept (Napping (Some u))) (holder past) a l
work_step_lock m past now _ _ (WorkMade.Again o) ss e true a l = absurd (locked_by_work m ss Closing (holder past) a l)
work_step_lock m past now _ _ (WorkMade.Again o) ss e false a l = script_lock m ss Closing (work_step kind.AutoAgain Closing) (holder past) a l

device_lock : (m : Machine) (past : List Entry) (now : EventNow) (d : ℕ) (k : Kind) → DeviceMade m past now d k → IsLock m past → maker_after k (actor.Dev d) (maker past) ≡ None
    → LockAt m (positions (length m.actors) past) (work past) (holder_after k (actor.Dev d) (holder past))
device_lock m past now d _ (DeviceMade.OwnFails p r w g f) h c = h c
device_lock m past now d _ _ h c = h c

-- the maker lets the lock go with the attempt's end
maker_exited : (who : Actor) (o h : Option Actor) → is_actor who o ≡ true → HolderOf o h → let_go_by who h ≡ None
maker_exited who None h a e = absurd (true≢false (sym a))
maker_exited who (Some w) h a e = ap (let_go_by who) e ∙ ap (λ b. cond b None (Some w)) a

none_makes : (who : Actor) (o : Option Actor) → is_actor who o ≡ true → o ≡ None → ⊥
none_makes who None a e = true≢false (sym a)
none_makes who (Some w) a e = some≢none w e

maker_lock : (m : Machine) (past : List Entry) (now : EventNow) (there : Stage) (k : Kind) (who : Actor) → Made m past now there k → is_actor who (maker past) ≡ true → HolderOf (maker past) (holder past) → maker_after k who (maker past) ≡ None
    → (ss : List ScriptPosition) (w : Work) → LockAt m ss w (holder_after k who (holder past))
maker_lock m past now _ _ who Made.Ends a h c ss w = subst (LockAt m ss w) (sym (maker_exited who (maker past) (holder past) a h)) tt
maker_lock m past now _ _ who _ a h c ss w = absurd (none_makes who (maker past) a c)

-- ---- all

entry_lock : (m : Machine) (past : List Entry) (now : EventNow) (who : Actor) (k : Kind) → JournalPart m past → IsLock m past → due m past who now ≡ Makes k → EntryMade m past now who k → maker_after k who (maker past) ≡ None
    → LockAt m (positions_after who (position_effect k) (positions (length m.actors) past)) (work_after who k (work past)) (holder_after k who (holder past))
entry_lock m past now who k j h d (ByMaker _ here there _ a e c x) closed = maker_lock m past now there k who x a (lock_agrees m past j).0 closed _ _
entry_lock m past now _ k j h d (ByTask i _ a x) closed = task_lock m past now j h i k d x closed
entry_lock m past now _ k j h d (ByWork w _ a s o e x) closed =
    subst (λ (y : Work). LockAt m (positions (length m.actors) past) (work_step k y) (holder_after k actor.Auto (holder past))) (sym e)
    (work_step_lock m past now w k x (positions (length m.actors) past) closed (is_actor actor.Auto (holder past)) refl (subst (λ (y : Work). LockAt m (positions (length m.actors) past) y (holder past)) e (h (work_closed m past now w k (maker past) x closed))))
entry_lock m past now _ k j h d (ByDevice n _ a x) closed = device_lock m past now n k x h closed
entry_lock m past now _ _ j h d ByTime closed = h closed

lock_step : (m : Machine) (past : List Entry) (time : ℕ) (now : EventNow) (who : Actor) (k : Kind) → JournalPart m past → IsLock m past → JournalStep m past (record { time = time; now = now; actor = who; kind = k }) (class_of k) → maker_after k who (maker past) ≡ None
    → LockAt m (positions_after who (position_effect k) (positions (length m.actors) past)) (work_after who k (work past)) (holder_after k who (holder past))
lock_step m past time now who (kind.Awake s) j l h c = absurd h
lock_step m past time now who (kind.Relax s) j l h c = absurd h
lock_step m past time now who (kind.Event s ms hard) j l h c = absurd h
lock_step m past time now who (kind.Expire s) j l h c = absurd h
lock_step m past time now who (kind.Start s) j l h c = absurd h
lock_step m past time now who (kind.Finish s) j l h c = absurd h
lock_step m past time now who (kind.Hard s) j l h c = absurd h
lock_step m past time now who kind.Jump j l h c = subst (λ (x : Actor). LockAt m (positions_after x (position_effect kind.Jump) (positions (length m.actors) past)) (work_after x kind.Jump (work past)) (holder past)) (sym h.0) (l c)
lock_step m past time now who k j l h c = entry_lock m past now who k j l h.0 (made m past now who k h.0) c

-- outside attempts, who holds the lock is at its write to autosleep, or is the work that is to make an attempt
pub lock : (m : Machine) (past : List Entry) → JournalPart m past → IsLock m past
lock m [] j = λ c. tt
lock m (e ∷ past) j = λ c. lock_step m past e.time e.now e.actor e.kind j.1 (lock m past j.1) j.0 c
