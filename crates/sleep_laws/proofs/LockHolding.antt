-- One attempt at a time: its maker holds the lock, and so does the work from its save on.
use Rattle.std.proofs.Common.{◌≡◌, ◌∙◌, ℕ, Bool, true, false, ◌==◌, List, [], ◌∷◌, Option, Some, None, is_some, cond, refl, sym, ap, subst}
use Rattle.std.proofs.lemmas.Bool.{true≢false}
use Rattle.sleep_base.specs.declared.errno.Errno.{Errno}
use Rattle.sleep_model.specs.declared.entry.Actor.{Actor}
use Rattle.sleep_model.specs.declared.entry.Actor.TheVariants as actor
use Rattle.sleep_model.specs.declared.entry.Entry.{Entry}
use Rattle.sleep_model.specs.declared.entry.Kind.{Kind}
use Rattle.sleep_model.specs.declared.entry.Kind.TheVariants as kind
use Rattle.sleep_model.specs.declared.entry.State.{State}
use Rattle.sleep_model.specs.declared.machine.Machine.{Machine}
use Rattle.sleep_model.specs.declared.machine.Op.{Op}
use Rattle.sleep_model.specs.declared.progress.ScriptPosition.{ScriptPosition}
use Rattle.sleep_model.specs.declared.progress.Stage.{Stage}
use Rattle.sleep_model.specs.declared.progress.Stage.TheVariants as stage
use Rattle.sleep_model.specs.declared.progress.Work.{Work}
use Rattle.sleep_model.specs.declared.progress.Work.TheVariants.{Resting, Reading, Saving, Attempting, Looking, Napping, Closing}
use Rattle.sleep_model.specs.declared.word.EventNow.{EventNow}
use Rattle.sleep_model.specs.Autosleep.{work, work_after, work_step, looks_at, after_look, seen_count}
use Rattle.sleep_model.specs.Devices.{is_device}
use Rattle.sleep_model.specs.Legal.{JournalPart}
use Rattle.sleep_model.specs.Links.{is_linked, is_dependent, add_answer, state_answer, link_add_due, link_state_due}
use Rattle.sleep_model.specs.Lock.{holder, holder_after, let_go_by}
use Rattle.sleep_model.specs.Order.{links_at, parents_of}
use Rattle.sleep_model.specs.Path.{maker, maker_after, is_actor, is_same}
use Rattle.sleep_model.specs.Table.{stage_of, stage_after}
use Rattle.sleep_laws.proofs.Made.{Made, Comes, StepMade, TaskMade, WorkMade, DeviceMade, EntryMade, ByMaker, ByTask, ByWork, ByDevice, ByTime}
use Rattle.sleep_laws.proofs.MakingOwn.{entry_made, by_maker}
use Rattle.sleep_laws.proofs.Telling.{some≢none}

-- the maker holds the lock
abbrev pub HolderOf : Option Actor → Option Actor → Type 0
HolderOf None h = Unit {0}
HolderOf (Some who) h = h ≡ Some who

-- the work holds the lock if it is to make an attempt
abbrev pub WorkHolds : Work → Option Actor → Type 0
WorkHolds (Attempting c) h = h ≡ Some actor.Auto
WorkHolds _ h = Unit {0}

-- an attempt has a stage exactly if it has a maker, which is a task or the work
abbrev pub StageMaker : Option Actor → Option Stage → Type 0
StageMaker None None = Unit {0}
StageMaker (Some (actor.Script i)) (Some s) = Unit {0}
StageMaker (Some actor.Auto) (Some s) = Unit {0}
StageMaker _ _ = ⊥

abbrev pub LockAgrees : Option Actor → Option Actor → Work → Option Stage → Type 0
LockAgrees o h w s = HolderOf o h × WorkHolds w h × StageMaker o s

-- ---- small facts

script≢auto : (i : ℕ) → Some (actor.Script i) ≡ Some actor.Auto → ⊥
script≢auto i e = subst IsTask e tt
  where
    IsTask : Option Actor → Type 0
    IsTask (Some (actor.Script j)) = Unit {0}
    IsTask _ = ⊥

-- nobody makes an attempt if nobody holds the lock
free_maker : (o h : Option Actor) → HolderOf o h → h ≡ None → o ≡ None
free_maker None h e f = refl
free_maker (Some a) h e f = absurd (some≢none a (sym e ∙ f))

work_free : (w : Work) (h new : Option Actor) → WorkHolds w h → h ≡ None → WorkHolds w new
work_free (Attempting c) h new e f = absurd (some≢none actor.Auto (sym e ∙ f))
work_free Resting h new e f = tt
work_free Reading h new e f = tt
work_free (Saving c) h new e f = tt
work_free (Looking c) h new e f = tt
work_free (Napping u) h new e f = tt
work_free Closing h new e f = tt

-- another than the maker lets nothing go that the maker holds
holder_stays : (who : Actor) (o h : Option Actor) → is_actor who o ≡ false → HolderOf o h → HolderOf o (let_go_by who h)
holder_stays who None h a e = tt
holder_stays who (Some x) h a e = subst (λ (y : Option Actor). let_go_by who y ≡ Some x) (sym e) (ap (λ b. cond b None (Some x)) a)

work_stays : (i : ℕ) (w : Work) (h : Option Actor) → WorkHolds w h → WorkHolds w (let_go_by (actor.Script i) h)
work_stays i (Attempting c) h e = subst (λ (y : Option Actor). let_go_by (actor.Script i) y ≡ Some actor.Auto) (sym e) refl
work_stays i Resting h e = tt
work_stays i Reading h e = tt
work_stays i (Saving c) h e = tt
work_stays i (Looking c) h e = tt
work_stays i (Napping u) h e = tt
work_stays i Closing h e = tt

-- ---- a task

step_lock : (m : Machine) (past : List Entry) (now : EventNow) (i : ℕ) (position : ScriptPosition) (asked : Bool) (op : Option Op) (k : Kind) → StepMade m past now position asked op k → is_actor (actor.Script i) (maker past) ≡ false → LockAgrees (maker past) (holder past) (work past) (stage_of past) → LockAgrees (maker_after k (actor.Script i) (maker past)) (holder_after k (actor.Script i) (holder past)) (work past) (stage_after k (stage_of past))
step_lock m past now i position asked _ _ (StepMade.Attempts text if_saved f o) a h = (refl, work_free (work past) (holder past) (Some (actor.Script i)) h.1 f, tt)
step_lock m past now i position asked _ _ (StepMade.AutoSets text state w f) a h = (subst (λ (o : Option Actor). HolderOf o (Some (actor.Script i))) (sym (free_maker (maker past) (holder past) h.0 f)) tt, work_free (work past) (holder past) (Some (actor.Script i)) h.1 f, h.2)
step_lock m past now i position asked _ _ (StepMade.AutoEnds text w) a h = (holder_stays (actor.Script i) (maker past) (holder past) a h.0, work_stays i (work past) (holder past) h.1, h.2)
step_lock m past now i position asked _ _ _ a h = h

task_lock : (m : Machine) (past : List Entry) (now : EventNow) (i : ℕ) (k : Kind) → TaskMade m past now i k → is_actor (actor.Script i) (maker past) ≡ false → LockAgrees (maker past) (holder past) (work past) (stage_of past) → LockAgrees (maker_after k (actor.Script i) (maker past)) (holder_after k (actor.Script i) (holder past)) (work past) (stage_after k (stage_of past))
task_lock m past now i _ (TaskMade.Freezes s go f) a h = h
task_lock m past now i _ (TaskMade.Steps s k op go e step) a h = step_lock m past now i _ _ op k step a h

-- ---- the work

-- if the work is to make an attempt nobody makes one
idle_maker : (o h : Option Actor) → HolderOf o h → h ≡ Some actor.Auto → is_actor actor.Auto o ≡ false → o ≡ None
idle_maker None h e f a = refl
idle_maker (Some x) h e f a = absurd (true≢false (ap (is_actor actor.Auto) (sym f ∙ e) ∙ a))

work_lock : (m : Machine) (past : List Entry) (now : EventNow) (w : Work) (k : Kind) → WorkMade m past now w k → is_actor actor.Auto (maker past) ≡ false → LockAgrees (maker past) (holder past) w (stage_of past) → LockAgrees (maker_after k actor.Auto (maker past)) (holder_after k actor.Auto (holder past)) (work_step k w) (stage_after k (stage_of past))
work_lock m past now _ _ (WorkMade.Attempts c o) a h = (refl, refl, tt)
work_lock m past now _ _ (WorkMade.Saves c f v q) a h = (subst (λ (o : Option Actor). HolderOf o (Some actor.Auto)) (sym (free_maker (maker past) (holder past) h.0 f)) tt, refl, h.2)
work_lock m past now _ _ (WorkMade.Stops c o) a h = (holder_stays actor.Auto (maker past) (holder past) a h.0, tt, h.2)
work_lock m past now _ _ (WorkMade.Closes o) a h = (holder_stays actor.Auto (maker past) (holder past) a h.0, tt, h.2)
work_lock m past now _ _ (WorkMade.Looks c) a h = by_seen (seen_count now)
  where
    by_seen : (o : Option ℕ) → LockAgrees (maker past) (holder past) (after_look o (Looking c)) (stage_of past)
    by_seen None = (h.0, tt, h.2)
    by_seen (Some seen) = by_same (seen == c)
      where
        by_same : (b : Bool) → LockAgrees (maker past) (holder past) (cond b (Napping None) Closing) (stage_of past)
        by_same true = (h.0, tt, h.2)
        by_same false = (h.0, tt, h.2)
work_lock m past now _ _ WorkMade.Runs a h = (h.0, tt, h.2)
work_lock m past now _ _ (WorkMade.Reads q) a h = (h.0, tt, h.2)
work_lock m past now _ _ (WorkMade.SavesNot c f v) a h = (h.0, tt, h.2)
work_lock m past now _ _ WorkMade.Naps a h = (h.0, tt, h.2)
work_lock m past now _ _ (WorkMade.Slept u) a h = (h.0, tt, h.2)
work_lock m past now _ _ (WorkMade.Again o) a h = (h.0, tt, h.2)

-- ---- the maker

-- a task or the work makes it
made_by_task : (m : Machine) (past : List Entry) (now : EventNow) (i j : ℕ) (there : Stage) (k : Kind) → Made m past now there k → is_same (actor.Script j) (actor.Script i) ≡ true → (h : Option Actor) (w : Work) → LockAgrees (Some (actor.Script j)) h w (Some there) → LockAgrees (maker_after k (actor.Script i) (Some (actor.Script j))) (holder_after k (actor.Script i) h) w (stage_after k (Some there))
made_by_task m past now i j _ _ Made.Ends a h w e = (tt, let_go, tt)
  where
    not_work : (w : Work) → WorkHolds w (Some (actor.Script j)) → WorkHolds w None
    not_work (Attempting c) f = absurd (script≢auto j f)
    not_work Resting f = tt
    not_work Reading f = tt
    not_work (Saving c) f = tt
    not_work (Looking c) f = tt
    not_work (Napping u) f = tt
    not_work Closing f = tt

    let_go : WorkHolds w (let_go_by (actor.Script i) h)
    let_go =
        let gone : let_go_by (actor.Script i) h ≡ None = ap (let_go_by (actor.Script i)) e.0 ∙ ap (λ b. cond b None (Some (actor.Script j))) a in
        subst (WorkHolds w) (sym gone) (not_work w (subst (WorkHolds w) e.0 e.1))
made_by_task m past now i j _ _ (Made.Notifies x f) a h w e = e
made_by_task m past now i j _ _ _ a h w e = e

made_by_work : (m : Machine) (past : List Entry) (now : EventNow) (there : Stage) (k : Kind) → Made m past now there k → (h : Option Actor) (w : Work) → LockAgrees (Some actor.Auto) h w (Some there) → LockAgrees (maker_after k actor.Auto (Some actor.Auto)) (holder_after k actor.Auto h) (work_step k w) (stage_after k (Some there))
made_by_work m past now _ _ Made.Ends h w e = (tt, looks w, tt)
  where
    looks : (w : Work) → WorkHolds (looks_at w) (let_go_by actor.Auto h)
    looks (Attempting c) = tt
    looks Resting = tt
    looks Reading = tt
    looks (Saving c) = tt
    looks (Looking c) = tt
    looks (Napping u) = tt
    looks Closing = tt
made_by_work m past now _ _ (Made.Notifies x f) h w e = e
made_by_work m past now _ _ _ h w e = e

maker_lock : (m : Machine) (past : List Entry) (now : EventNow) (who : Actor) (there : Stage) (k : Kind) → Made m past now there k → (o h : Option Actor) (w : Work) → is_actor who o ≡ true → LockAgrees o h w (Some there) → LockAgrees (maker_after k who o) (holder_after k who h) (work_after who k w) (stage_after k (Some there))
maker_lock m past now (actor.Script i) there k d (Some (actor.Script j)) h w a e = made_by_task m past now i j there k d a h w e
maker_lock m past now actor.Auto there k d (Some actor.Auto) h w a e = made_by_work m past now there k d h w e
maker_lock m past now who there k d None h w a e = absurd (true≢false (sym a))
maker_lock m past now who there k d (Some (actor.Dev x)) h w a e = absurd e.2
maker_lock m past now who there k d (Some (actor.Timer x)) h w a e = absurd e.2
maker_lock m past now who there k d (Some actor.Time) h w a e = absurd e.2
maker_lock m past now _ there k d (Some _) h w a e = absurd (true≢false (sym a))

stage_moves : (o : Option Actor) (here there : Stage) → StageMaker o (Some here) → StageMaker o (Some there)
stage_moves (Some (actor.Script i)) here there e = tt
stage_moves (Some actor.Auto) here there e = tt
stage_moves None here there e = absurd e
stage_moves (Some (actor.Dev x)) here there e = absurd e
stage_moves (Some (actor.Timer x)) here there e = absurd e
stage_moves (Some actor.Time) here there e = absurd e

device_lock : (m : Machine) (past : List Entry) (now : EventNow) (d : ℕ) (k : Kind) → DeviceMade m past now d k → LockAgrees (maker past) (holder past) (work past) (stage_of past) → LockAgrees (maker_after k (actor.Dev d) (maker past)) (holder_after k (actor.Dev d) (holder past)) (work past) (stage_after k (stage_of past))
device_lock m past now d _ (DeviceMade.OwnFails p r w g f) h = h
device_lock m past now d _ _ h = h

-- ---- all

entry_lock : (m : Machine) (past : List Entry) (now : EventNow) (who : Actor) (k : Kind) → EntryMade m past now who k → LockAgrees (maker past) (holder past) (work past) (stage_of past) → LockAgrees (maker_after k who (maker past)) (holder_after k who (holder past)) (work_after who k (work past)) (stage_after k (stage_of past))
entry_lock m past now who k (ByMaker _ here there _ a e c d) h =
    by_maker m past now k here there (LockAgrees (maker past) (holder past) (work past)) (LockAgrees (maker_after k who (maker past)) (holder_after k who (holder past)) (work_after who k (work past))) e c d
    (λ x. (x.0, x.1, stage_moves (maker past) here there x.2)) (maker_lock m past now who there k d (maker past) (holder past) (work past) a) h
entry_lock m past now _ k (ByTask i _ a d) h = task_lock m past now i k d a h
entry_lock m past now _ k (ByWork w _ a s o e d) h =
    subst (λ (x : Work). LockAgrees (maker_after k actor.Auto (maker past)) (holder_after k actor.Auto (holder past)) (work_step k x) (stage_after k (stage_of past))) (sym e)
    (work_lock m past now w k d a (subst (λ (x : Work). LockAgrees (maker past) (holder past) x (stage_of past)) e h))
entry_lock m past now _ k (ByDevice d _ a x) h = device_lock m past now d k x h
entry_lock m past now _ _ ByTime h = h

-- the lock, the work, the maker and the stage fit together
pub lock_agrees : (m : Machine) (past : List Entry) → JournalPart m past → LockAgrees (maker past) (holder past) (work past) (stage_of past)
lock_agrees m [] h = (tt, tt, tt)
lock_agrees m (e ∷ past) h = entry_lock m past e.now e.actor e.kind (entry_made m past e h) (lock_agrees m past h.1)

no_stage : (o : Option Actor) (s : Option Stage) → StageMaker o s → o ≡ None → s ≡ None
no_stage None None h e = refl
no_stage (Some (actor.Script i)) None h e = absurd h
no_stage (Some actor.Auto) None h e = absurd h
no_stage (Some (actor.Dev i)) None h e = absurd h
no_stage (Some (actor.Timer i)) None h e = absurd h
no_stage (Some actor.Time) None h e = absurd h
no_stage None (Some s) h e = absurd h
no_stage (Some x) (Some s) h e = absurd (some≢none x e)

no_maker : (o : Option Actor) (s : Option Stage) → StageMaker o s → s ≡ None → o ≡ None
no_maker None s h e = refl
no_maker (Some x) (Some s) h e = absurd (some≢none s e)
no_maker (Some (actor.Script i)) None h e = absurd h
no_maker (Some actor.Auto) None h e = absurd h
no_maker (Some (actor.Dev i)) None h e = absurd h
no_maker (Some (actor.Timer i)) None h e = absurd h
no_maker (Some actor.Time) None h e = absurd h

-- an attempt has a stage only if it has a maker
pub stage_none : (m : Machine) (past : List Entry) → JournalPart m past → maker past ≡ None → stage_of past ≡ None
stage_none m past h e = no_stage (maker past) (stage_of past) (lock_agrees m past h).2 e

-- and a maker only if it has a stage
pub maker_none : (m : Machine) (past : List Entry) → JournalPart m past → stage_of past ≡ None → maker past ≡ None
maker_none m past h e = no_maker (maker past) (stage_of past) (lock_agrees m past h).2 e

-- ---- what an entry is to the open attempt

-- an entry of a task or of the work outside attempts, at that stage of the open one, which touches none; links change only if none is open
pub data Outside (s : Option Stage) : Kind → Type 0 where
  Frozen : Outside s kind.Frozen
  ReadWait : Outside s kind.ReadWait
  Read : (c : ℕ) → Outside s (kind.Read c)
  ReadIntr : Outside s kind.ReadIntr
  SaveWait : (c : ℕ) → Outside s (kind.SaveWait c)
  Saved : (c : ℕ) → Outside s (kind.Saved c)
  SaveErr : (c : ℕ) (r : Errno) → Outside s (kind.SaveErr c r)
  StateWait : Outside s kind.StateWait
  StateErr : (r : Errno) → Outside s (kind.StateErr r)
  StateUnsaved : Outside s kind.StateUnsaved
  AutoBad : Outside s kind.AutoBad
  AutoSet : (state : State) → Outside s (kind.AutoSet state)
  AutoDone : Outside s kind.AutoDone
  Sleep : (u : ℕ) → Outside s (kind.Sleep u)
  SleepD : (u : ℕ) → Outside s (kind.SleepD u)
  Slept : Outside s kind.Slept
  Pass : Outside s kind.Pass
  Post : (mark : ℕ) → Outside s (kind.Post mark)
  Got : (mark : ℕ) → Outside s (kind.Got mark)
  Exit : Outside s kind.Exit
  RuntimeAsk : (d : ℕ) (b : Bool) (r : Option Errno) → Outside s (kind.RuntimeAsk d b r)
  LinkAdded : (supplier consumer : ℕ) → s ≡ None → Outside s (kind.LinkAdd supplier consumer None)
  LinkRefused : (supplier consumer : ℕ) (r : Errno) → Outside s (kind.LinkAdd supplier consumer (Some r))
  LinkSet : (supplier consumer : ℕ) (active : Bool) → s ≡ None → Outside s (kind.LinkState supplier consumer active None)
  LinkLeft : (supplier consumer : ℕ) (active : Bool) (r : Errno) → Outside s (kind.LinkState supplier consumer active (Some r))
  AutoRun : Outside s kind.AutoRun
  AutoSaved : (c : ℕ) → Outside s (kind.AutoSaved c)
  AutoUnsaved : (c : ℕ) → Outside s (kind.AutoUnsaved c)
  AutoAfter : (seen : Option ℕ) → Outside s (kind.AutoAfter seen)
  AutoAgain : Outside s kind.AutoAgain
  AutoOff : Outside s kind.AutoOff
  Jump : Outside s kind.Jump

-- that actor makes the open attempt, which no device does
pub record IsMaker (past : List Entry) (who : Actor) : Type 0 where
  pub no_device : is_device who ≡ false
  pub makes : is_actor who (maker past) ≡ true

-- what an entry is to the attempt: it begins one, while none is open; its maker makes it; it touches none; or a device makes it
pub data Moved (m : Machine) (past : List Entry) (now : EventNow) : Actor → Kind → Type 0 where
  Opens : (who : Actor) (n : ℕ) (guarded : Option ℕ) → maker past ≡ None → stage_of past ≡ None → Moved m past now who (kind.Attempt n guarded)
  Makes : (who : Actor) (here there : Stage) (k : Kind) → IsMaker past who → stage_of past ≡ Some here → Comes m past here there → Made m past now there k → Moved m past now who k
  Beside : (who : Actor) (k : Kind) → is_device who ≡ false → Outside (stage_of past) k → Moved m past now who k
  Owns : (d : ℕ) (k : Kind) → DeviceMade m past now d k → Moved m past now (actor.Dev d) k

no_device : (who : Actor) (o : Option Actor) (s : Option Stage) → is_actor who o ≡ true → StageMaker o s → is_device who ≡ false
no_device (actor.Script i) o s a h = refl
no_device actor.Auto o s a h = refl
no_device (actor.Timer i) o s a h = refl
no_device actor.Time o s a h = refl
no_device (actor.Dev d) None s a h = absurd (true≢false (sym a))
no_device (actor.Dev d) (Some (actor.Dev e)) (Some s) a h = absurd h
no_device (actor.Dev d) (Some (actor.Dev e)) None a h = absurd h
no_device (actor.Dev d) (Some _) s a h = absurd (true≢false (sym a))

pub add_free : (o : Option Actor) (linked dependent : Bool) → add_answer (is_some o) linked dependent ≡ None → o ≡ None
add_free None linked dependent e = refl
add_free (Some x) linked dependent e = absurd (some≢none _ e)

pub state_free : (o : Option Actor) (linked : Bool) → state_answer (is_some o) linked ≡ None → o ≡ None
state_free None linked e = refl
state_free (Some x) linked e = absurd (some≢none _ e)

-- a task changes links only if no attempt is open
added_moved : (m : Machine) (past : List Entry) (now : EventNow) (i supplier consumer : ℕ) (r : Option Errno) → link_add_due m past supplier consumer ≡ r → StageMaker (maker past) (stage_of past) → Moved m past now (actor.Script i) (kind.LinkAdd supplier consumer r)
added_moved m past now i supplier consumer (Some r) e h = Beside (actor.Script i) _ refl (Outside.LinkRefused supplier consumer r)
added_moved m past now i supplier consumer None e h =
    let free : maker past ≡ None = add_free (maker past) (is_linked (links_at m past) supplier consumer) (is_dependent (parents_of m.devices) (links_at m past) consumer supplier) e in
    Beside (actor.Script i) _ refl (Outside.LinkAdded supplier consumer (no_stage (maker past) (stage_of past) h free))

set_moved : (m : Machine) (past : List Entry) (now : EventNow) (i supplier consumer : ℕ) (active : Bool) (r : Option Errno) → link_state_due m past supplier consumer ≡ r → StageMaker (maker past) (stage_of past) → Moved m past now (actor.Script i) (kind.LinkState supplier consumer active r)
set_moved m past now i supplier consumer active (Some r) e h = Beside (actor.Script i) _ refl (Outside.LinkLeft supplier consumer active r)
set_moved m past now i supplier consumer active None e h =
    let free : maker past ≡ None = state_free (maker past) (is_linked (links_at m past) supplier consumer) e in
    Beside (actor.Script i) _ refl (Outside.LinkSet supplier consumer active (no_stage (maker past) (stage_of past) h free))

step_moved : (m : Machine) (past : List Entry) (now : EventNow) (i : ℕ) (position : ScriptPosition) (asked : Bool) (op : Option Op) (k : Kind) → StepMade m past now position asked op k → LockAgrees (maker past) (holder past) (work past) (stage_of past) → Moved m past now (actor.Script i) k
step_moved m past now i position asked _ _ StepMade.Exits h = Beside (actor.Script i) kind.Exit refl Outside.Exit
step_moved m past now i position asked _ k (StepMade.Reads e) h = Beside (actor.Script i) _ refl (Outside.Read _)
step_moved m past now i position asked _ _ (StepMade.ReadWaits e f) h = Beside (actor.Script i) _ refl Outside.ReadWait
step_moved m past now i position asked _ _ (StepMade.ReadStops e f g) h = Beside (actor.Script i) _ refl Outside.ReadIntr
step_moved m past now i position asked _ _ (StepMade.SaveWaits c count w) h = Beside (actor.Script i) _ refl (Outside.SaveWait c)
step_moved m past now i position asked _ _ (StepMade.SaveStops c count w a) h = Beside (actor.Script i) _ refl (Outside.SaveErr c _)
step_moved m past now i position asked _ _ (StepMade.SaveBusy c count f o) h = Beside (actor.Script i) _ refl (Outside.SaveErr c _)
step_moved m past now i position asked _ _ (StepMade.Saves c count f o v q) h = Beside (actor.Script i) _ refl (Outside.Saved c)
step_moved m past now i position asked _ _ (StepMade.SavesNot c count f o v) h = Beside (actor.Script i) _ refl (Outside.SaveErr c _)
step_moved m past now i position asked _ _ (StepMade.Unsaved text s e) h = Beside (actor.Script i) _ refl Outside.StateUnsaved
step_moved m past now i position asked _ _ (StepMade.StateWaits text s w) h = Beside (actor.Script i) _ refl Outside.StateWait
step_moved m past now i position asked _ _ (StepMade.StateStops text s w a) h = Beside (actor.Script i) _ refl (Outside.StateErr _)
step_moved m past now i position asked _ _ (StepMade.StateBusy text s f o) h = Beside (actor.Script i) _ refl (Outside.StateErr _)
step_moved m past now i position asked _ _ (StepMade.StateBad text s f o) h = Beside (actor.Script i) _ refl (Outside.StateErr _)
step_moved m past now i position asked _ _ (StepMade.Attempts text s f o) h =
    let free : maker past ≡ None = free_maker (maker past) (holder past) h.0 f in
    Opens (actor.Script i) _ _ free (no_stage (maker past) (stage_of past) h.2 free)
step_moved m past now i position asked _ _ (StepMade.AutoBad text) h = Beside (actor.Script i) _ refl Outside.AutoBad
step_moved m past now i position asked _ _ (StepMade.AutoEnds text w) h = Beside (actor.Script i) _ refl Outside.AutoDone
step_moved m past now i position asked _ _ (StepMade.AutoSets text s w f) h = Beside (actor.Script i) _ refl (Outside.AutoSet s)
step_moved m past now i position asked _ _ (StepMade.Sleeps ms u w) h = Beside (actor.Script i) _ refl (Outside.Sleep u)
step_moved m past now i position asked _ _ (StepMade.Slept ms u w e) h = Beside (actor.Script i) _ refl Outside.Slept
step_moved m past now i position asked _ _ (StepMade.SleepsD ms u w) h = Beside (actor.Script i) _ refl (Outside.SleepD u)
step_moved m past now i position asked _ _ (StepMade.SleptD ms u w e) h = Beside (actor.Script i) _ refl Outside.Slept
step_moved m past now i position asked _ _ StepMade.Passes h = Beside (actor.Script i) _ refl Outside.Pass
step_moved m past now i position asked _ _ (StepMade.Posts mark) h = Beside (actor.Script i) _ refl (Outside.Post mark)
step_moved m past now i position asked _ _ (StepMade.Gets mark) h = Beside (actor.Script i) _ refl (Outside.Got mark)
step_moved m past now i position asked _ _ (StepMade.AddsLink s c r e) h = added_moved m past now i s c r e h.2
step_moved m past now i position asked _ _ (StepMade.SetsLink s c active r e) h = set_moved m past now i s c active r e h.2
step_moved m past now i position asked _ _ (StepMade.AsksRuntime d s) h = Beside (actor.Script i) _ refl (Outside.RuntimeAsk d s _)

work_moved : (m : Machine) (past : List Entry) (now : EventNow) (w : Work) (k : Kind) → WorkMade m past now w k → is_actor actor.Auto (maker past) ≡ false → LockAgrees (maker past) (holder past) w (stage_of past) → Moved m past now actor.Auto k
work_moved m past now _ _ WorkMade.Runs a h = Beside actor.Auto _ refl Outside.AutoRun
work_moved m past now _ _ (WorkMade.Reads q) a h = Beside actor.Auto _ refl (Outside.Read _)
work_moved m past now _ _ (WorkMade.Saves c f v q) a h = Beside actor.Auto _ refl (Outside.AutoSaved c)
work_moved m past now _ _ (WorkMade.SavesNot c f v) a h = Beside actor.Auto _ refl (Outside.AutoUnsaved c)
work_moved m past now _ _ (WorkMade.Attempts c o) a h =
    let free : maker past ≡ None = idle_maker (maker past) (holder past) h.0 h.1 a in
    Opens actor.Auto _ _ free (no_stage (maker past) (stage_of past) h.2 free)
work_moved m past now _ _ (WorkMade.Stops c o) a h = Beside actor.Auto _ refl Outside.AutoOff
work_moved m past now _ _ (WorkMade.Looks c) a h = Beside actor.Auto _ refl (Outside.AutoAfter _)
work_moved m past now _ _ WorkMade.Naps a h = Beside actor.Auto _ refl (Outside.SleepD _)
work_moved m past now _ _ (WorkMade.Slept u) a h = Beside actor.Auto _ refl Outside.Slept
work_moved m past now _ _ (WorkMade.Again o) a h = Beside actor.Auto _ refl Outside.AutoAgain
work_moved m past now _ _ (WorkMade.Closes o) a h = Beside actor.Auto _ refl Outside.AutoOff

pub entry_moved : (m : Machine) (past : List Entry) (now : EventNow) (who : Actor) (k : Kind) → EntryMade m past now who k → LockAgrees (maker past) (holder past) (work past) (stage_of past) → Moved m past now who k
entry_moved m past now who k (ByMaker _ here there _ a e c d) h = Makes who here there k (record { no_device = no_device who (maker past) (stage_of past) a h.2; makes = a }) e c d
entry_moved m past now _ _ (ByTask i _ a (TaskMade.Freezes s go f)) h = Beside (actor.Script i) kind.Frozen refl Outside.Frozen
entry_moved m past now _ k (ByTask i _ a (TaskMade.Steps s _ op go e step)) h = step_moved m past now i _ _ op k step h
entry_moved m past now _ k (ByWork w _ a s o e d) h = work_moved m past now w k d a (subst (λ (x : Work). LockAgrees (maker past) (holder past) x (stage_of past)) e h)
entry_moved m past now _ k (ByDevice d _ a x) h = Owns d k x
entry_moved m past now _ _ ByTime h = Beside actor.Time kind.Jump refl Outside.Jump

-- what an entry of a legal journal is to the attempt
pub moved : (m : Machine) (past : List Entry) (e : Entry) → JournalPart m (e ∷ past) → Moved m past e.now e.actor e.kind
moved m past e h = entry_moved m past e.now e.actor e.kind (entry_made m past e h) (lock_agrees m past h.1)

-- ---- what holds at each stage

-- that entry
abbrev pub entry_of : ℕ → EventNow → Actor → Kind → Entry
entry_of time now who k = record { time = time; now = now; actor = who; kind = k }

-- an invariant by stages, preserved at each point of a journal: at its beginning, when an attempt begins, past a stage that has nothing
-- left, by what the maker makes, by what touches no attempt, and by devices
pub record StageInvariant (m : Machine) (I : Option Stage → List Entry → Type 0) : Type 0 where
  pub starts : I None []
  pub opens : (past : List Entry) (time : ℕ) (now : EventNow) (who : Actor) (n : ℕ) (guarded : Option ℕ) → I None past → I (Some stage.Notifies) (entry_of time now who (kind.Attempt n guarded) ∷ past)
  pub comes : (past : List Entry) (here there : Stage) → Comes m past here there → I (Some here) past → I (Some there) past
  pub makes : (past : List Entry) (time : ℕ) (now : EventNow) (who : Actor) (there : Stage) (k : Kind) → IsMaker past who → Made m past now there k → I (Some there) past → I (stage_after k (Some there)) (entry_of time now who k ∷ past)
  pub beside : (past : List Entry) (time : ℕ) (now : EventNow) (who : Actor) (k : Kind) (s : Option Stage) → EntryMade m past now who k → is_device who ≡ false → Outside s k → I s past → I s (entry_of time now who k ∷ past)
  pub owns : (past : List Entry) (time : ℕ) (now : EventNow) (d : ℕ) (k : Kind) (s : Option Stage) → DeviceMade m past now d k → I s past → I s (entry_of time now (actor.Dev d) k ∷ past)

outside_stage : (k : Kind) (s : Option Stage) → Outside s k → stage_after k s ≡ s
outside_stage _ s Outside.Frozen = refl
outside_stage _ s _ = refl

own_stage : (m : Machine) (past : List Entry) (now : EventNow) (d : ℕ) (k : Kind) (s : Option Stage) → DeviceMade m past now d k → stage_after k s ≡ s
own_stage m past now d _ s (DeviceMade.OwnFails p r w g f) = refl
own_stage m past now d _ s _ = refl

invariant_step : (m : Machine) (I : Option Stage → List Entry → Type 0) → StageInvariant m I → (past : List Entry) (time : ℕ) (now : EventNow) (who : Actor) (k : Kind) → EntryMade m past now who k → Moved m past now who k → I (stage_of past) past → I (stage_after k (stage_of past)) (entry_of time now who k ∷ past)
invariant_step m I r past time now who _ x (Opens _ n guarded f e) h = r.opens past time now who n guarded (subst (λ (s : Option Stage). I s past) e h)
invariant_step m I r past time now who k x (Makes _ here there _ a e c d) h =
    by_maker m past now k here there (λ s. I s past) (λ s. I s (entry_of time now who k ∷ past)) e c d (r.comes past here there c) (r.makes past time now who there k a d) h
invariant_step m I r past time now who k x (Beside _ _ a d) h = subst (λ (s : Option Stage). I s (entry_of time now who k ∷ past)) (sym (outside_stage k (stage_of past) d)) (r.beside past time now who k (stage_of past) x a d h)
invariant_step m I r past time now _ k x (Owns d _ y) h = subst (λ (s : Option Stage). I s (entry_of time now (actor.Dev d) k ∷ past)) (sym (own_stage m past now d k (stage_of past) y)) (r.owns past time now d k (stage_of past) y h)

-- an invariant by stages holds at each point
pub at_stage : (m : Machine) (I : Option Stage → List Entry → Type 0) → StageInvariant m I → (past : List Entry) → JournalPart m past → I (stage_of past) past
at_stage m I r [] h = r.starts
at_stage m I r (e ∷ past) h = invariant_step m I r past e.time e.now e.actor e.kind (entry_made m past e h) (moved m past e h) (at_stage m I r past h.1)

-- if an entry was made by the maker, an invariant by stages holds at the stage at which it was made
pub at_made : (m : Machine) (I : Option Stage → List Entry → Type 0) → StageInvariant m I → (past : List Entry) → JournalPart m past → (here there : Stage) → stage_of past ≡ Some here → Comes m past here there → I (Some there) past
at_made m I r past h here there e c = r.comes past here there c (subst (λ (s : Option Stage). I s past) e (at_stage m I r past h))
