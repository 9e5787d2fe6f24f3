-- The positions of scripts: a sleep that has begun has its end, and who sets autosleep while no attempt is open is at its write.
use Rattle.std.proofs.Common.{◌≡◌, ◌≢◌, ◌<◌, ◌∙◌, ℕ, Bool, true, false, not, ◌==◌, ◌&&◌, ◌||◌, List, [], ◌∷◌, length, map, zero, suc, Option, Some, None, is_some, slice_get, cond, refl, sym, ap, subst, arith}
use Rattle.std.proofs.lemmas.Bool.{true≢false}
use Rattle.std.proofs.lemmas.Bool.Decides.{nat_tests}
use Rattle.std.proofs.lemmas.List.{length-set, length-replicate, get_or-set_same, get_or-set_other, get_or-replicate}
use Rattle.sleep_model.specs.declared.entry.Actor.{Actor}
use Rattle.sleep_model.specs.declared.entry.Actor.TheVariants as actor
use Rattle.sleep_model.specs.declared.entry.Entry.{Entry}
use Rattle.sleep_model.specs.declared.entry.Kind.{Kind}
use Rattle.sleep_model.specs.declared.entry.Kind.TheVariants as kind
use Rattle.sleep_model.specs.declared.entry.State.{State}
use Rattle.sleep_model.specs.declared.entry.State.TheVariants.{Mem, Off}
use Rattle.sleep_model.specs.declared.log.Why.TheVariants as why
use Rattle.sleep_model.specs.declared.machine.Machine.{Machine}
use Rattle.sleep_model.specs.declared.machine.Op.{Op}
use Rattle.sleep_model.specs.declared.machine.Op.TheVariants as op
use Rattle.sleep_model.specs.declared.machine.Script.{Script}
use Rattle.sleep_model.specs.declared.progress.Due.TheVariants.{Makes, Waits, Nothing}
use Rattle.sleep_model.specs.declared.progress.Freezing.{Freezing}
use Rattle.sleep_model.specs.declared.progress.ScriptPosition.{ScriptPosition}
use Rattle.sleep_model.specs.declared.progress.Stage.{Stage}
use Rattle.sleep_model.specs.declared.progress.Work.{Work}
use Rattle.sleep_model.specs.declared.progress.Work.TheVariants.{Attempting}
use Rattle.sleep_model.specs.declared.word.EventNow.{EventNow}
use Rattle.sleep_model.specs.Attempt.{attempt_due, sleeps_now}
use Rattle.sleep_model.specs.Autosleep.{work}
use Rattle.sleep_model.specs.Due.{due, own_due}
use Rattle.sleep_model.specs.Freezer.{freezing, freezing_at, unasked}
use Rattle.sleep_model.specs.Legal.{JournalPart}
use Rattle.sleep_model.specs.Lock.{holder}
use Rattle.sleep_model.specs.Path.{is_actor, maker}
use Rattle.sleep_model.specs.Scripts.{entry_steps}
use Rattle.sleep_model.specs.Positions.{PositionEffect, Waits as WaitsPart, Sets, Sleeps, Reads, Saves, Steps, Exits, Stays, first_position, position_after, position_at, position_effect, positions, positions_after}
use Rattle.sleep_model.specs.Steps.{autosleep_due, position_due, step_due, task_due}
use Rattle.sleep_model.specs.Tasks.{is_line, is_mem, is_off}
use Rattle.sleep_laws.proofs.LockHolding.{at_stage, lock_agrees, stage_none}
use Rattle.sleep_laws.proofs.Made.{ByMaker, ByTask, EntryMade, Made, StepMade, TaskMade, position_of}
use Rattle.sleep_laws.proofs.MakingOwn.{entry_made}
use Rattle.sleep_laws.proofs.Restoring.{IsUndone, undone_invariant}

-- ---- positions

positions_step_len : (a : Actor) (part : PositionEffect) (ss : List ScriptPosition) → length (positions_after a part ss) ≡ length ss
positions_step_len (actor.Script i) part ss = length-set ss i _
positions_step_len actor.Auto part ss = refl
positions_step_len (actor.Dev d) part ss = refl
positions_step_len (actor.Timer s) part ss = refl
positions_step_len actor.Time part ss = refl

pub positions_len : (n : ℕ) (past : List Entry) → length (positions n past) ≡ n
positions_len n [] = length-replicate n first_position
positions_len n (e ∷ past) = positions_step_len e.actor (position_effect e.kind) (positions n past) ∙ positions_len n past

-- a script's own entry moves its position
pub position_own : (ss : List ScriptPosition) (i : ℕ) (part : PositionEffect) → i < length ss → position_at (positions_after (actor.Script i) part ss) i ≡ position_after part (position_at ss i)
position_own ss i part l = get_or-set_same ss i (position_after part (position_at ss i)) first_position l

-- and no other
pub position_other : (ss : List ScriptPosition) (i j : ℕ) (part : PositionEffect) → (j == i) ≡ false → position_at (positions_after (actor.Script j) part ss) i ≡ position_at ss i
position_other ss i j part e = let apart : i ≢ j = grind (arith, nat_tests) in get_or-set_other ss j i (position_after part (position_at ss j)) first_position apart

-- the operation at which a script is
abbrev pub op_at : Option Script → ℕ → Option Op
op_at None n = None
op_at (Some s) n = slice_get (entry_steps s) n

-- ---- sleeps

-- a sleep that has begun has its end
abbrev pub SleepAt : Option Op → ScriptPosition → Type 0
SleepAt (Some (op.Sleep ms)) position = position.waits ≡ true → is_some position.until ≡ true
SleepAt (Some (op.SleepD ms)) position = position.waits ≡ true → is_some position.until ≡ true
SleepAt _ position = Unit {0}

-- the operation is no sleep
abbrev NoSleep : Option Op → Type 0
NoSleep (Some (op.Sleep ms)) = ⊥
NoSleep (Some (op.SleepD ms)) = ⊥
NoSleep _ = Unit {0}

-- an entry that begins a wait without an end is of no sleep
abbrev MayWait : PositionEffect → Option Op → Type 0
MayWait WaitsPart o = NoSleep o
MayWait Sets o = NoSleep o
MayWait _ o = Unit {0}

sleep_idle : (o : Option Op) (position : ScriptPosition) → position.waits ≡ false → SleepAt o position
sleep_idle (Some (op.Sleep ms)) position h = λ w. absurd (true≢false (sym w ∙ h))
sleep_idle (Some (op.SleepD ms)) position h = λ w. absurd (true≢false (sym w ∙ h))
sleep_idle _ position h = tt

sleep_begun : (o : Option Op) (position : ScriptPosition) → is_some position.until ≡ true → SleepAt o position
sleep_begun (Some (op.Sleep ms)) position h = λ w. h
sleep_begun (Some (op.SleepD ms)) position h = λ w. h
sleep_begun _ position h = tt

sleep_none : (o : Option Op) (position : ScriptPosition) → NoSleep o → SleepAt o position
sleep_none (Some (op.Sleep ms)) position h = absurd h
sleep_none (Some (op.SleepD ms)) position h = absurd h
sleep_none _ position h = tt

sleep_exits : (o : Option Op) (position : ScriptPosition) → SleepAt o position → SleepAt o (record position { exited = true })
sleep_exits (Some (op.Sleep ms)) position h = h
sleep_exits (Some (op.SleepD ms)) position h = h
sleep_exits _ position h = tt

class_sleep : (part : PositionEffect) (f : ℕ → Option Op) (position : ScriptPosition) → MayWait part (f position.done) → SleepAt (f position.done) position → SleepAt (f (position_after part position).done) (position_after part position)
class_sleep WaitsPart f position n h = sleep_none (f position.done) _ n
class_sleep Sets f position n h = sleep_none (f position.done) _ n
class_sleep (Sleeps until) f position n h = sleep_begun (f position.done) _ refl
class_sleep (Reads c) f position n h = sleep_idle _ _ refl
class_sleep (Saves ok) f position n h = sleep_idle _ _ refl
class_sleep Steps f position n h = sleep_idle _ _ refl
class_sleep Exits f position n h = sleep_exits (f position.done) position h
class_sleep Stays f position n h = h

step_waits : (m : Machine) (past : List Entry) (now : EventNow) (position : ScriptPosition) (asked : Bool) (o : Option Op) (k : Kind) → StepMade m past now position asked o k → MayWait (position_effect k) o
step_waits m past now position asked _ _ StepMade.Exits = tt
step_waits m past now position asked _ _ _ = tt

maker_waits : (m : Machine) (past : List Entry) (now : EventNow) (there : Stage) (k : Kind) (o : Option Op) → Made m past now there k → MayWait (position_effect k) o
maker_waits m past now _ _ o Made.Ends = tt
maker_waits m past now _ _ o _ = tt

entry_waits : (m : Machine) (past : List Entry) (now : EventNow) (i : ℕ) (k : Kind) → EntryMade m past now (actor.Script i) k → MayWait (position_effect k) (op_at (slice_get m.actors i) (position_of m past i).done)
entry_waits m past now i k (ByMaker _ here there _ a e c d) = maker_waits m past now there k _ d
entry_waits m past now _ _ (ByTask i _ a (TaskMade.Freezes s go f)) = tt
entry_waits m past now _ _ (ByTask i _ a (TaskMade.Steps s k o go e d)) =
    subst (MayWait (position_effect k)) (sym (ap (λ (x : Option Script). op_at x (position_of m past i).done) go.script ∙ e)) (step_waits m past now _ _ o k d)

-- a sleep of script i that has begun has its end
abbrev pub IsSleeper : Machine → List Entry → ℕ → Type 0
IsSleeper m past i = SleepAt (op_at (slice_get m.actors i) (position_of m past i).done) (position_of m past i)

pub sleeper : (m : Machine) (past : List Entry) → JournalPart m past → (i : ℕ) → i < length m.actors → IsSleeper m past i
sleeper m [] j i l = sleep_idle _ _ (ap (λ (x : ScriptPosition). x.waits) (get_or-replicate (length m.actors) i first_position first_position l))
sleeper m (e ∷ past) j i l = by_actor e.actor e.kind (entry_made m past e j) (sleeper m past j.1 i l)
  where
    ss : List ScriptPosition
    ss = positions (length m.actors) past

    by_actor : (a : Actor) (k : Kind) → EntryMade m past e.now a k → IsSleeper m past i
        → SleepAt (op_at (slice_get m.actors i) (position_at (positions_after a (position_effect k) (positions (length m.actors) past)) i).done) (position_at (positions_after a (position_effect k) (positions (length m.actors) past)) i)
    by_actor (actor.Script n) k x h = by_same (n == i) refl
      where
        by_same : (b : Bool) → (n == i) ≡ b → SleepAt (op_at (slice_get m.actors i) (position_at (positions_after (actor.Script n) (position_effect k) (positions (length m.actors) past)) i).done) (position_at (positions_after (actor.Script n) (position_effect k) (positions (length m.actors) past)) i)
        by_same true f =
            let same : n ≡ i = grind (arith, nat_tests) in
            let own : EntryMade m past e.now (actor.Script i) k = subst (λ (y : ℕ). EntryMade m past e.now (actor.Script y) k) same x in
            subst (λ (y : ℕ). SleepAt (op_at (slice_get m.actors i) (position_at (positions_after (actor.Script y) (position_effect k) (positions (length m.actors) past)) i).done) (position_at (positions_after (actor.Script y) (position_effect k) (positions (length m.actors) past)) i)) (sym same)
            (subst (λ (y : ScriptPosition). SleepAt (op_at (slice_get m.actors i) y.done) y) (sym (position_own (positions (length m.actors) past) i (position_effect k) (subst (λ (y : ℕ). i < y) (sym (positions_len (length m.actors) past)) l)))
            (class_sleep (position_effect k) (op_at (slice_get m.actors i)) (position_of m past i) (entry_waits m past e.now i k own) h))
        by_same false f =
            subst (λ (y : ScriptPosition). SleepAt (op_at (slice_get m.actors i) y.done) y) (sym (position_other (positions (length m.actors) past) i n (position_effect k) f)) h
    by_actor actor.Auto k x h = h
    by_actor (actor.Dev d) k x h = h
    by_actor (actor.Timer s) k x h = h
    by_actor actor.Time k x h = h

-- ---- tasks outside attempts

-- outside attempts no task is asked to freeze
pub free : (m : Machine) (past : List Entry) → JournalPart m past → maker past ≡ None → (i : ℕ) → freezing m i past ≡ unasked
free m past j closed i =
    let all = subst (λ (s : Option Stage). IsUndone m s past) (stage_none m past j closed) (at_stage m (IsUndone m) (undone_invariant m) past j) in
    ap (λ fs. freezing_at fs i) all.3 ∙ none m.actors i
  where
    none : (ss : List Script) (n : ℕ) → freezing_at (map (λ s. unasked) ss) n ≡ unasked
    none [] n = refl
    none (s ∷ ss) zero = refl
    none (s ∷ ss) (suc n) = none ss n

-- such a task makes its next step
pub step_is : (m : Machine) (past : List Entry) (now : EventNow) (i : ℕ) (s : Script) → maker past ≡ None → slice_get m.actors i ≡ Some s → (position_of m past i).exited ≡ false → freezing m i past ≡ unasked
    → (sleeps_now past && not (is_line s.kind)) ≡ false → due m past (actor.Script i) now ≡ step_due m past now (position_of m past i) false (slice_get (entry_steps s) (position_of m past i).done)
step_is m past now i s closed script there unfrozen awake =
    let o : Option Op = slice_get (entry_steps s) (position_of m past i).done in
    ap (λ (w : Option Actor). cond (is_actor (actor.Script i) w) (attempt_due m past now) (own_due m past (actor.Script i) now)) closed
    ∙ (ap (λ (x : Option Script). position_due m past now (freezing m i past) x (position_of m past i)) script
    ∙ (ap (λ b. cond b Nothing (task_due m past now (freezing m i past) s.kind (position_of m past i) o)) there
    ∙ (ap (λ (f : Freezing). task_due m past now f s.kind (position_of m past i) o) unfrozen
    ∙ ap (λ b. cond b (Waits why.Asleep) (step_due m past now (position_of m past i) false o)) awake)))

-- ---- the lock

-- a script is at its write to autosleep, which has begun
abbrev pub IsSetting : Option Op → ScriptPosition → Type 0
IsSetting (Some (op.Autosleep text)) position = (position.waits ≡ true) × (position.exited ≡ false) × ((is_mem text || is_off text) ≡ true)
IsSetting _ position = ⊥

-- the work is to make an attempt
abbrev pub IsAttempting : Work → Type 0
IsAttempting (Attempting c) = Unit {0}
IsAttempting _ = ⊥

-- script i, by its position among those, sets autosleep
abbrev pub SetsAt : Machine → List ScriptPosition → ℕ → Type 0
SetsAt m ss i = (i < length m.actors) × IsSetting (op_at (slice_get m.actors i) (position_at ss i).done) (position_at ss i)

-- who holds the lock is at its write, or is the work that is to make an attempt
abbrev pub LockAt : Machine → List ScriptPosition → Work → Option Actor → Type 0
LockAt m ss w None = Unit {0}
LockAt m ss w (Some (actor.Script i)) = SetsAt m ss i
LockAt m ss w (Some actor.Auto) = IsAttempting w
LockAt m ss w (Some (actor.Dev d)) = ⊥
LockAt m ss w (Some (actor.Timer s)) = ⊥
LockAt m ss w (Some actor.Time) = ⊥

-- so outside attempts
abbrev pub IsLock : Machine → List Entry → Type 0
IsLock m past = maker past ≡ None → LockAt m (positions (length m.actors) past) (work past) (holder past)

pub set_good : (lock_agrees waits mem off : Bool) (state : State) → autosleep_due lock_agrees waits mem off ≡ Makes (kind.AutoSet state) → (mem || off) ≡ true
set_good lock_agrees waits mem off state e = by (mem || off) refl e
  where
    by : (b : Bool) → (mem || off) ≡ b → cond b (cond waits (Makes kind.AutoDone) (cond lock_agrees (Waits why.LockHeld) (Makes (kind.AutoSet (cond mem Mem Off))))) (Makes kind.AutoBad) ≡ Makes (kind.AutoSet state) → (mem || off) ≡ true
    by true f e = f
    by false f e = absurd (let no : kind.AutoBad ≡ kind.AutoSet state = cc in cc)

pub bad_text : (lock_agrees mem off : Bool) → autosleep_due lock_agrees true mem off ≡ Makes kind.AutoBad → (mem || off) ≡ false
bad_text lock_agrees mem off e = by (mem || off) refl e
  where
    by : (b : Bool) → (mem || off) ≡ b → cond b (Makes kind.AutoDone) (Makes kind.AutoBad) ≡ Makes kind.AutoBad → (mem || off) ≡ false
    by true f e = absurd (let no : kind.AutoDone ≡ kind.AutoBad = cc in cc)
    by false f e = f
