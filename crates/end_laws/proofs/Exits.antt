-- Who has not exited makes something or waits, and so is named if a log goes no further.
use Rattle.std.proofs.Common.{◌≡◌, ◌<◌, ◌+◌, ◌∙◌, ◌⊎◌, inl, inr, ℕ, zero, suc, Bool, true, false, not, ◌==◌, ◌&&◌, ◌||◌, nat_lt, nat_le, List, [], ◌∷◌, length, Option, Some, None, is_none, is_some, slice_get, cond, refl, sym, ap, subst, arith}
use Rattle.std.specs.List.{list_any}
use Rattle.std.proofs.lemmas.Bool.{true≢false}
use Rattle.std.proofs.lemmas.Bool.Decides.{nat_tests}
use Rattle.sleep_base.specs.declared.errno.Errno.{Errno}
use Rattle.phase_table.specs.declared.phase.Phase.{Phase}
use Rattle.phase_table.specs.Phases.{is_down, mirror}
use Rattle.sleep_model.specs.declared.entry.Actor.{Actor}
use Rattle.sleep_model.specs.declared.entry.Actor.TheVariants as actor
use Rattle.sleep_model.specs.declared.entry.Entry.{Entry}
use Rattle.sleep_model.specs.declared.entry.Group.{Group}
use Rattle.sleep_model.specs.declared.entry.Group.TheVariants as group
use Rattle.sleep_model.specs.declared.entry.Kind.{Kind}
use Rattle.sleep_model.specs.declared.entry.Kind.TheVariants as kind
use Rattle.sleep_model.specs.declared.log.Waiting.{Waiting}
use Rattle.sleep_model.specs.declared.log.Why.{Why}
use Rattle.sleep_model.specs.declared.log.Why.TheVariants as why
use Rattle.sleep_model.specs.declared.machine.Machine.{Machine}
use Rattle.sleep_model.specs.declared.machine.What.TheVariants as what
use Rattle.sleep_model.specs.declared.machine.Op.{Op}
use Rattle.sleep_model.specs.declared.machine.Op.TheVariants as op
use Rattle.sleep_model.specs.declared.machine.Script.{Script}
use Rattle.sleep_model.specs.declared.progress.AsyncWork.{AsyncWork}
use Rattle.sleep_model.specs.declared.progress.Callback.{Callback}
use Rattle.sleep_model.specs.declared.progress.AsyncWork.TheVariants.{Idle, Scheduled, Inside}
use Rattle.sleep_model.specs.declared.progress.Due.{Due}
use Rattle.sleep_model.specs.declared.progress.Due.TheVariants.{Makes, Waits, Nothing}
use Rattle.sleep_model.specs.declared.progress.Freezing.{Freezing}
use Rattle.sleep_model.specs.declared.progress.ScriptPosition.{ScriptPosition}
use Rattle.sleep_model.specs.declared.progress.Sleep.{Sleep}
use Rattle.sleep_model.specs.declared.progress.Stage.{Stage}
use Rattle.sleep_model.specs.declared.progress.Stage.TheVariants as stage
use Rattle.sleep_model.specs.declared.progress.Work.{Work}
use Rattle.sleep_model.specs.declared.progress.Work.TheVariants.{Resting, Reading, Saving, Attempting, Looking, Napping, Closing}
use Rattle.sleep_model.specs.declared.word.EventNow.{EventNow}
use Rattle.sleep_model.specs.Attempt.{answered, attempt_due, cpu_kind, due_at, enter_due, freeze_due, freeze_since, froze_due, gives_up_at, if_left, or_next, sleep_of, sleeps_now, stage_due, stage_or_next}
use Rattle.sleep_model.specs.Autosleep.{may_run, work, work_due}
use Rattle.sleep_model.specs.Devices.{after_device, async_work, callback, complete_due, device_due, down_due, is_async_device, next_completed, next_down, next_prepared, next_to_schedule, next_up, phase_error, phase_failed, prepare_due, take_down, taken, unless_failed, up_due, waits_above, waits_for_subordinates, waits_down, waits_up, walk_down, walk_up}
use Rattle.sleep_model.specs.Due.{due, is_over, own_due}
use Rattle.sleep_model.specs.Freezer.{freezing, left}
use Rattle.sleep_model.specs.Guard.{pending}
use Rattle.sleep_model.specs.Legal.{JournalPart, is_made, none_enabled, put_waiting, waiting, waiting_from}
use Rattle.sleep_model.specs.Lock.{holder, is_on}
use Rattle.sleep_model.specs.Marks.{mark_at, raised}
use Rattle.sleep_model.specs.Notifiers.{next_notified, next_cpu_off, next_cpu_on, next_post_notified, next_syscore_resumed, next_syscore_suspended}
use Rattle.sleep_model.specs.Numbers.{numbers, time_of}
use Rattle.sleep_model.specs.EntryClasses.{journal}
use Rattle.sleep_model.specs.Path.{is_actor, is_same, maker, maker_after}
use Rattle.sleep_model.specs.Scripts.{entry_steps, makes_entry}
use Rattle.sleep_model.specs.Positions.{PositionEffect, Waits as WaitsPart, Sets, Sleeps, Reads, Saves, Steps, Exits, Stays, position_after, position_at, position_effect, positions, positions_after}
use Rattle.sleep_model.specs.Sources.{history}
use Rattle.sleep_model.specs.Steps.{lock_due, saved_number, position_due, slept_due, step_due, task_due}
use Rattle.sleep_model.specs.Table.{next_stage, stage_of}
use Rattle.sleep_model.specs.Tasks.{freezes_at, is_line, is_mem, is_off, is_user}
use Rattle.sleep_model.specs.Word.{position, visible}
use Rattle.sleep_laws.proofs.Ending.{and_left, none_of, not_made}
use Rattle.sleep_laws.proofs.LockHolding.{StageMaker, lock_agrees}
use Rattle.sleep_laws.proofs.Made.{ByMaker, ByTask, EntryMade, Made, StepMade, TaskMade, position_of}
use Rattle.sleep_laws.proofs.MakingOwn.{entry_made}
use Rattle.room_laws.proofs.Sitting.{SleepAt, op_at, position_other, position_own, positions_len, sleeper}
use Rattle.room_laws.proofs.Waiting.{at_entry, there_at}
use Rattle.end_laws.specs.Exits.{DoneHaveExited, HasExited, HasTurns, NoneWaitStale, StuckNamesAll, names}

-- ---- what is due is an entry, or a wait for something of the machine

-- a cause that the machine gives
abbrev IsOwn : Why → Type 0
IsOwn (why.Stale calls time) = ⊥
IsOwn _ = Unit {0}

-- an entry is due, or a wait for such a cause
abbrev pub Determined : Due → Type 0
Determined (Makes k) = Unit {0}
Determined (Waits cause) = IsOwn cause
Determined Nothing = ⊥

if_determined : (b : Bool) (x y : Due) → (b ≡ true → Determined x) → (b ≡ false → Determined y) → Determined (cond b x y)
if_determined true x y h g = h refl
if_determined false x y h g = g refl

after_determined : (o : Option ℕ) (next : Due) → Determined next → Determined (after_device o next)
after_determined None next h = h
after_determined (Some d) next h = tt

first_determined : (x y : Due) → Determined x → Determined (or_next x y)
first_determined (Makes k) y h = tt
first_determined (Waits cause) y h = h
first_determined Nothing y h = absurd h

left_determined : (k : ℕ → Kind) (o : Option ℕ) (y : Due) → Determined y → Determined (or_next (if_left k o) y)
left_determined k None y h = h
left_determined k (Some x) y h = tt

-- ---- an attempt

module _ (m : Machine) (past : List Entry) (now : EventNow) where
  froze_determined : (g : Group) (since : ℕ) (tasks : List ℕ) → Determined (froze_due past now g since tasks)
  froze_determined g since [] = tt
  froze_determined g since (x ∷ rest) = if_determined (nat_le (gives_up_at since) (time_of past)) _ _ (λ e. tt) (λ e. if_determined (pending past now) _ _ (λ f. tt) (λ f. tt))

  freeze_determined : (g : Group) (since : Option ℕ) → Determined (freeze_due m past now g since)
  freeze_determined g None = tt
  freeze_determined g (Some since) = froze_determined g since (left m g past)

  enter_determined : (s : Option Sleep) → Determined (enter_due m past now s)
  enter_determined None = tt
  enter_determined (Some s) = if_determined (nat_lt s.pos (position now)) _ _ (λ e. tt) (λ e. if_determined (nat_le (s.since + m.alarm_ms) (time_of past)) _ _ (λ f. tt) (λ f. tt))

  take_determined : (p : Phase) (d : ℕ) → Determined (take_down m past now p d)
  take_determined p d = if_determined (is_async_device m d) _ _ (λ e. tt) (λ e. after_determined (waits_for_subordinates m past p d) (Makes (taken m past now p d)) tt)

  walk_down_determined : (p : Phase) (error : Option Errno) (next : Option ℕ) → Determined (walk_down m past now p error next)
  walk_down_determined p None (Some d) = take_determined p d
  walk_down_determined p None None = after_determined (waits_down m past p) (Makes (kind.Done p (phase_error past))) tt
  walk_down_determined p (Some r) None = after_determined (waits_down m past p) (Makes (kind.Done p (phase_error past))) tt
  walk_down_determined p (Some r) (Some d) = after_determined (waits_down m past p) (Makes (kind.Done p (phase_error past))) tt

  down_determined : (p : Phase) (c : Option Callback) → Determined (down_due m past now p c)
  down_determined p (Some c) = tt
  down_determined p None = walk_down_determined p (phase_failed past) (next_down m past p)

  walk_up_determined : (p : Phase) (there next : Option ℕ) → Determined (walk_up m past p there next)
  walk_up_determined p (Some d) next = tt
  walk_up_determined p None (Some d) = after_determined (waits_above m past (mirror p) d) (Makes (kind.Begin p d)) tt
  walk_up_determined p None None = after_determined (waits_up m past (mirror p)) (Makes (kind.Done p None)) tt

  up_determined : (p : Phase) (c : Option Callback) → Determined (up_due m past p c)
  up_determined p (Some c) = tt
  up_determined p None = walk_up_determined p (next_to_schedule m past (mirror p)) (next_up m past (mirror p))

  prepare_determined : (error : Option Errno) (next : Option ℕ) → Determined (prepare_due m past error next)
  prepare_determined None (Some d) = tt
  prepare_determined None None = tt
  prepare_determined (Some r) None = tt
  prepare_determined (Some r) (Some d) = tt

  complete_determined : (next : Option ℕ) → Determined (complete_due next)
  complete_determined None = tt
  complete_determined (Some d) = tt

  stage_determined : (here : Stage) → Determined (stage_or_next m past now here)
  stage_determined stage.Notifies = left_determined (λ x. kind.NotifyPrepare x (answered m past (what.Notifier x))) (next_notified m past) (stage_due m past now (next_stage stage.Notifies)) (freeze_determined group.User (freeze_since past))
  stage_determined (stage.Freezes g) = first_determined (stage_due m past now (stage.Freezes g)) (stage_due m past now (next_stage (stage.Freezes g))) (freeze_determined g (freeze_since past))
  stage_determined (stage.PlatformDo step) = tt
  stage_determined stage.Prepares = first_determined (stage_due m past now stage.Prepares) (stage_due m past now (next_stage stage.Prepares)) (prepare_determined (phase_failed past) (next_prepared m past))
  stage_determined (stage.Downs p) = first_determined (stage_due m past now (stage.Downs p)) (stage_due m past now (next_stage (stage.Downs p))) (down_determined p (callback past))
  stage_determined stage.StopsCpus = left_determined (cpu_kind (pending past now)) (next_cpu_off m past) (stage_due m past now stage.StopsIrqs) tt
  stage_determined stage.StopsIrqs = tt
  stage_determined stage.ChecksWakeup = tt
  stage_determined stage.StopsSyscore = left_determined (λ x. kind.SyscoreSuspend x (answered m past (what.Syscore x))) (next_syscore_suspended m past) (stage_due m past now stage.Enters) (enter_determined (sleep_of past))
  stage_determined stage.Enters = first_determined (stage_due m past now stage.Enters) (stage_due m past now (next_stage stage.Enters)) (enter_determined (sleep_of past))
  stage_determined stage.StartsSyscore = left_determined kind.SyscoreResume (next_syscore_resumed m past) (stage_due m past now stage.StartsIrqs) tt
  stage_determined stage.StartsIrqs = tt
  stage_determined stage.StartsCpus = left_determined kind.CpuOn (next_cpu_on m past) (stage_due m past now (next_stage stage.StartsCpus)) tt
  stage_determined (stage.PlatformUndo step) = tt
  stage_determined (stage.Ups p) = first_determined (stage_due m past now (stage.Ups p)) (stage_due m past now (next_stage (stage.Ups p))) (up_determined p (callback past))
  stage_determined stage.Completes = first_determined (stage_due m past now stage.Completes) (stage_due m past now (next_stage stage.Completes)) (complete_determined (next_completed m past))
  stage_determined stage.ClearsEventsCheck = tt
  stage_determined (stage.Thaws those) = tt
  stage_determined stage.NotifiesPost = left_determined kind.NotifyPost (next_post_notified m past) (stage_due m past now stage.Ends) tt
  stage_determined stage.Ends = tt

  at_determined : (o : Option Stage) (w : Option Actor) (who : Actor) → is_actor who w ≡ true → StageMaker w o → Determined (due_at m past now o)
  at_determined (Some here) w who is s = stage_determined here
  at_determined None None who is s = absurd (true≢false (sym is))
  at_determined None (Some (actor.Script i)) who is s = absurd s
  at_determined None (Some actor.Auto) who is s = absurd s
  at_determined None (Some (actor.Dev d)) who is s = absurd s
  at_determined None (Some (actor.Timer t)) who is s = absurd s
  at_determined None (Some actor.Time) who is s = absurd s

  -- ---- a script, the autosleep work, a device

  lock_determined : (waits asked : Bool) (says gives_up : Due) → Determined says → Determined gives_up → Determined (lock_due waits asked says gives_up)
  lock_determined waits asked says gives_up h g = if_determined waits _ _ (λ e. if_determined asked _ _ (λ f. g) (λ f. tt)) (λ e. h)

  slept_determined : (script_position : ScriptPosition) → (script_position.waits ≡ true → is_some script_position.until ≡ true) → (next : Due) → Determined next → Determined (cond script_position.waits (slept_due script_position.until (time_of past)) next)
  slept_determined script_position begun next h = if_determined script_position.waits _ _ (λ e. ended script_position.until (begun e)) (λ e. h)
    where
      ended : (o : Option ℕ) → is_some o ≡ true → Determined (slept_due o (time_of past))
      ended None e = absurd (true≢false (sym e))
      ended (Some until) e = if_determined (nat_le until (time_of past)) _ _ (λ f. tt) (λ f. tt)

  step_determined : (script_position : ScriptPosition) (asked : Bool) (o : Option Op) → SleepAt o script_position → ((x : Op) → o ≡ Some x → makes_entry x ≡ true) → Determined (step_due m past now script_position asked o)
  step_determined script_position asked None begun made = tt
  step_determined script_position asked (Some op.Read) begun made = if_determined (now.inpr == 0) _ _ (λ e. tt) (λ e. if_determined script_position.waits _ _ (λ f. if_determined asked _ _ (λ g. tt) (λ g. tt)) (λ f. tt))
  step_determined script_position asked (Some (op.Save count)) begun made =
      if_determined (is_some (holder past)) _ _ (λ e. lock_determined script_position.waits asked _ _ tt tt)
      (λ e. if_determined (is_on past) _ _ (λ f. tt) (λ f. if_determined ((visible now == saved_number count script_position.last_read) && (now.inpr == 0)) _ _ (λ g. tt) (λ g. tt)))
  step_determined script_position asked (Some (op.State text if_saved)) begun made =
      if_determined (if_saved && not script_position.saved) _ _ (λ e. tt)
      (λ e. if_determined (is_some (holder past)) _ _ (λ f. lock_determined script_position.waits asked _ _ tt tt) (λ f. if_determined (is_on past) _ _ (λ g. tt) (λ g. if_determined (is_mem text) _ _ (λ h. tt) (λ h. tt))))
  step_determined script_position asked (Some (op.Autosleep text)) begun made =
      if_determined (is_mem text || is_off text) _ _ (λ e. if_determined script_position.waits _ _ (λ f. tt) (λ f. if_determined (is_some (holder past)) _ _ (λ g. tt) (λ g. tt))) (λ e. tt)
  step_determined script_position asked (Some (op.Sleep ms)) begun made = slept_determined script_position begun (Makes (kind.Sleep (time_of past + ms))) tt
  step_determined script_position asked (Some (op.SleepD ms)) begun made = slept_determined script_position begun (Makes (kind.SleepD (time_of past + ms))) tt
  step_determined script_position asked (Some op.FreezePoint) begun made = tt
  step_determined script_position asked (Some (op.Post mark)) begun made = tt
  step_determined script_position asked (Some (op.Wait mark)) begun made = if_determined (nat_lt 0 (mark_at (raised (length m.marks) past) mark)) _ _ (λ e. tt) (λ e. tt)
  step_determined script_position asked (Some (op.Runtime d to_suspended)) begun made = tt
  step_determined script_position asked (Some (op.Link supplier consumer)) begun made = tt
  step_determined script_position asked (Some (op.LinkState supplier consumer active)) begun made = tt
  step_determined script_position asked (Some (op.Awake s)) begun made = absurd (true≢false (sym (made (op.Awake s) refl)))
  step_determined script_position asked (Some (op.Relax s)) begun made = absurd (true≢false (sym (made (op.Relax s) refl)))
  step_determined script_position asked (Some (op.Event s ms hard)) begun made = absurd (true≢false (sym (made (op.Event s ms hard) refl)))

  work_determined : (w : Work) → Determined (work_due m past now w)
  work_determined Resting = if_determined (may_run m past) _ _ (λ e. tt) (λ e. tt)
  work_determined Reading = if_determined (now.inpr == 0) _ _ (λ e. tt) (λ e. tt)
  work_determined (Saving c) = if_determined (is_none (holder past)) _ _ (λ e. tt) (λ e. tt)
  work_determined (Attempting c) = if_determined (is_on past) _ _ (λ e. tt) (λ e. tt)
  work_determined (Looking c) = tt
  work_determined (Napping None) = tt
  work_determined (Napping (Some until)) = if_determined (nat_le until (time_of past)) _ _ (λ e. tt) (λ e. tt)
  work_determined Closing = if_determined (is_on past) _ _ (λ e. tt) (λ e. tt)

  device_determined : (d : ℕ) (w : AsyncWork) → Determined (device_due m past now d w)
  device_determined d Idle = tt
  device_determined d (Scheduled p) =
      if_determined (is_down p) _ _ (λ e. after_determined (waits_for_subordinates m past p d) (Makes (unless_failed (phase_failed past) p d (taken m past now p d))) tt)
      (λ e. after_determined (waits_above m past (mirror p) d) (Makes (kind.Begin p d)) tt)
  device_determined d (Inside p) = tt

  module _ (j : JournalPart m past) where
    -- a script that has not exited
    script_determined : (i : ℕ) → i < length m.actors → (position_of m past i).exited ≡ false → Determined (own_due m past (actor.Script i) now)
    script_determined i l there =
        let at = there_at m.actors i l in
        let s = at.0 in
        let o : Option Op = slice_get (entry_steps s) (position_of m past i).done in
        let begun : SleepAt o (position_of m past i) = subst (λ (x : Option Script). SleepAt (op_at x (position_of m past i).done) (position_of m past i)) at.1 (sleeper m past j i l) in
        let f : Freezing = freezing m i past in
        let task : Determined (task_due m past now f s.kind (position_of m past i) o) =
        if_determined f.frozen _ _ (λ e. tt) (λ e. if_determined (sleeps_now past && not (is_line s.kind)) _ _ (λ g. tt)
        (λ g. if_determined (f.asked && freezes_at (is_user s.kind) (position_of m past i).waits o) _ _ (λ h. tt)
        (λ h. step_determined (position_of m past i) f.asked o begun (λ x k. at_entry s (position_of m past i).done x k)))) in
        subst (λ (x : Option Script). Determined (position_due m past now f x (position_of m past i))) (sym at.1)
        (subst (λ b. Determined (cond b Nothing (task_due m past now f s.kind (position_of m past i) o))) (sym there) task)

    own_determined : (who : Actor) → HasTurns m who → (HasExited m past who → ⊥) → Determined (own_due m past who now)
    own_determined (actor.Script i) l not_exited = by (position_of m past i).exited refl
      where
        by : (b : Bool) → (position_of m past i).exited ≡ b → Determined (own_due m past (actor.Script i) now)
        by true e = absurd (not_exited e)
        by false e = script_determined i l e
    own_determined actor.Auto l not_exited = if_determined (sleeps_now past) _ _ (λ e. tt) (λ e. if_determined (is_over m past) _ _ (λ f. tt) (λ f. work_determined (work past)))
    own_determined (actor.Dev d) l not_exited = device_determined d (async_work m past d)
    own_determined (actor.Timer s) l not_exited = absurd l
    own_determined actor.Time l not_exited = absurd l

    -- so of each actor that has not exited
    pub due_determined : (who : Actor) → HasTurns m who → (HasExited m past who → ⊥) → Determined (due m past who now)
    due_determined who l not_exited = by (is_actor who (maker past)) refl
      where
        by : (b : Bool) → is_actor who (maker past) ≡ b → Determined (cond b (attempt_due m past now) (own_due m past who now))
        by true e = at_determined (stage_of past) (maker past) who e (lock_agrees m past j).2
        by false e = own_determined who l not_exited

-- ---- the maker of an open attempt has not exited

-- this effect does not let a script exit
NoExit : PositionEffect → Type 0
NoExit Exits = ⊥
NoExit _ = Unit {0}

class_stays : (part : PositionEffect) (script_position : ScriptPosition) → NoExit part → script_position.exited ≡ false → (position_after part script_position).exited ≡ false
unfolding NoExit
class_stays WaitsPart script_position n h = h
class_stays Sets script_position n h = h
class_stays (Sleeps until) script_position n h = h
class_stays (Reads c) script_position n h = h
class_stays (Saves ok) script_position n h = h
class_stays Steps script_position n h = h
class_stays Exits script_position n h = absurd n
class_stays Stays script_position n h = h

maker_stays : (m : Machine) (past : List Entry) (now : EventNow) (there : Stage) (k : Kind) → Made m past now there k → NoExit (position_effect k)
unfolding NoExit
maker_stays m past now _ _ Made.Ends = tt
maker_stays m past now _ _ _ = tt

step_exits : (m : Machine) (past : List Entry) (now : EventNow) (script_position : ScriptPosition) (asked : Bool) (o : Option Op) (k : Kind) → StepMade m past now script_position asked o k → (k ≡ kind.Exit) ⊎ NoExit (position_effect k)
unfolding NoExit
step_exits m past now script_position asked _ _ StepMade.Exits = inl refl
step_exits m past now script_position asked _ _ _ = inr tt

-- who makes an attempt after an entry made it before, or makes it now
same_maker : (k : Kind) (who maker' : Actor) (before : Option Actor) → maker_after k who before ≡ Some maker' → (before ≡ Some maker') ⊎ (who ≡ maker')
same_maker (kind.Attempt n guarded) who maker' before e = inr (let is : Some who ≡ Some maker' = e in cc)
same_maker (kind.Over n r) who maker' before e = absurd (let is : None ≡ Some maker' = e in cc)
same_maker k who maker' before e = inl e

exit_maker : (k : Kind) (who : Actor) (before : Option Actor) → k ≡ kind.Exit → maker_after k who before ≡ before
exit_maker k who before e = ap (λ (x : Kind). maker_after x who before) e

-- after such an entry the script has not exited
abbrev IsThere : Machine → List Entry → ℕ → Actor → Kind → Type 0
IsThere m past i a k = (position_at (positions_after a (position_effect k) (positions (length m.actors) past)) i).exited ≡ false

module _ (m : Machine) (i : ℕ) (l : i < length m.actors) where
  -- the entry of that script itself
  own_stays : (past : List Entry) (now : EventNow) (k : Kind) → EntryMade m past now (actor.Script i) k → (maker past ≡ Some (actor.Script i) → (position_of m past i).exited ≡ false)
      → maker_after k (actor.Script i) (maker past) ≡ Some (actor.Script i) → (position_after (position_effect k) (position_of m past i)).exited ≡ false
  own_stays past now k (ByMaker _ here there _ a e c d) h is = class_stays (position_effect k) (position_of m past i) (maker_stays m past now there k d) (h (of_maker (maker past) a))
    where
      same_is : (w : Actor) → is_same w (actor.Script i) ≡ true → w ≡ actor.Script i
      same_is (actor.Script n) f = let same : n ≡ i = grind (arith, nat_tests) in ap actor.Script same
      same_is actor.Auto f = absurd (true≢false (sym f))
      same_is (actor.Dev n) f = absurd (true≢false (sym f))
      same_is (actor.Timer n) f = absurd (true≢false (sym f))
      same_is actor.Time f = absurd (true≢false (sym f))

      of_maker : (o : Option Actor) → is_actor (actor.Script i) o ≡ true → o ≡ Some (actor.Script i)
      of_maker None f = absurd (true≢false (sym f))
      of_maker (Some w) f = ap Some (same_is w f)
  own_stays past now _ (ByTask i _ a (TaskMade.Freezes s go f)) h is = go.there
  own_stays past now _ (ByTask i _ a (TaskMade.Steps s k o go e d)) h is = by (step_exits m past now _ _ o k d)
    where
      by : (k ≡ kind.Exit) ⊎ NoExit (position_effect k) → (position_after (position_effect k) (position_of m past i)).exited ≡ false
      by (inl x) =
          let before : maker past ≡ Some (actor.Script i) = sym (exit_maker k (actor.Script i) (maker past) x) ∙ is in
          absurd (true≢false (sym (ap (is_actor (actor.Script i)) before ∙ same i) ∙ a))
        where
          same : (n : ℕ) → is_actor (actor.Script n) (Some (actor.Script n)) ≡ true
          same n = let e : (n == n) ≡ true = grind (arith, nat_tests) in e
      by (inr n) = class_stays (position_effect k) (position_of m past i) n go.there

  maker_there : (past : List Entry) → JournalPart m past → maker past ≡ Some (actor.Script i) → (position_of m past i).exited ≡ false
  maker_there [] j is = absurd (let e : None ≡ Some (actor.Script i) = is in cc)
  maker_there (e ∷ past) j is = by_actor e.actor e.kind (entry_made m past e j) (maker_there past j.1) is
    where
      of_other : (a : Actor) (k : Kind) → (a ≡ actor.Script i → ⊥) → (maker past ≡ Some (actor.Script i) → (position_of m past i).exited ≡ false) → maker_after k a (maker past) ≡ Some (actor.Script i)
          → (position_of m past i).exited ≡ false
      of_other a k other h f = both (same_maker k a (actor.Script i) (maker past) f)
        where
          both : (maker past ≡ Some (actor.Script i)) ⊎ (a ≡ actor.Script i) → (position_of m past i).exited ≡ false
          both (inl g) = h g
          both (inr g) = absurd (other g)

      by_actor : (a : Actor) (k : Kind) → EntryMade m past e.now a k → (maker past ≡ Some (actor.Script i) → (position_of m past i).exited ≡ false) → maker_after k a (maker past) ≡ Some (actor.Script i) → IsThere m past i a k
      by_actor (actor.Script n) k x h f = by_same (n == i) refl
        where
          by_same : (b : Bool) → (n == i) ≡ b → IsThere m past i (actor.Script n) k
          by_same true g =
              let same : n ≡ i = grind (arith, nat_tests) in
              let own : EntryMade m past e.now (actor.Script i) k = subst (λ (y : ℕ). EntryMade m past e.now (actor.Script y) k) same x in
              let is : maker_after k (actor.Script i) (maker past) ≡ Some (actor.Script i) = subst (λ (y : ℕ). maker_after k (actor.Script y) (maker past) ≡ Some (actor.Script i)) same f in
              subst (λ (y : ℕ). (position_at (positions_after (actor.Script y) (position_effect k) (positions (length m.actors) past)) i).exited ≡ false) (sym same)
              (ap (λ (s : ScriptPosition). s.exited) (position_own (positions (length m.actors) past) i (position_effect k) (subst (λ (y : ℕ). i < y) (sym (positions_len (length m.actors) past)) l)) ∙ own_stays past e.now k own h is)
          by_same false g =
              let apart : actor.Script n ≡ actor.Script i → ⊥ = (λ same. (let e : n ≡ i = cc in absurd (true≢false (sym (let s : (n == i) ≡ true = grind (arith, nat_tests) in s) ∙ g)))) in
              ap (λ (s : ScriptPosition). s.exited) (position_other (positions (length m.actors) past) i n (position_effect k) g) ∙ of_other (actor.Script n) k apart h f
      by_actor actor.Auto k x h f = of_other actor.Auto k (λ g. cc) h f
      by_actor (actor.Dev d) k x h f = of_other (actor.Dev d) k (λ g. cc) h f
      by_actor (actor.Timer s) k x h f = of_other (actor.Timer s) k (λ g. cc) h f
      by_actor actor.Time k x h f = of_other actor.Time k (λ g. cc) h f

-- ---- the laws

module _ (m : Machine) (past : List Entry) (j : JournalPart m past) where
  exited_done : (who : Actor) → HasTurns m who → (now : EventNow) → HasExited m past who → due m past who now ≡ Nothing
  exited_done (actor.Script i) l now h = by (is_actor (actor.Script i) (maker past)) refl
    where
      none : is_actor (actor.Script i) (maker past) ≡ true → ⊥
      none e = true≢false (sym h ∙ maker_there m i l past j (of_maker (maker past) e))
        where
          same_is : (w : Actor) → is_same w (actor.Script i) ≡ true → w ≡ actor.Script i
          same_is (actor.Script n) f = let same : n ≡ i = grind (arith, nat_tests) in ap actor.Script same
          same_is actor.Auto f = absurd (true≢false (sym f))
          same_is (actor.Dev n) f = absurd (true≢false (sym f))
          same_is (actor.Timer n) f = absurd (true≢false (sym f))
          same_is actor.Time f = absurd (true≢false (sym f))

          of_maker : (o : Option Actor) → is_actor (actor.Script i) o ≡ true → o ≡ Some (actor.Script i)
          of_maker None f = absurd (true≢false (sym f))
          of_maker (Some w) f = ap Some (same_is w f)

      by_script : (o : Option Script) → position_due m past now (freezing m i past) o (position_of m past i) ≡ Nothing
      by_script None = refl
      by_script (Some s) = ap (λ b. cond b Nothing (task_due m past now (freezing m i past) s.kind (position_of m past i) (slice_get (entry_steps s) (position_of m past i).done))) h

      by : (b : Bool) → is_actor (actor.Script i) (maker past) ≡ b → cond b (attempt_due m past now) (own_due m past (actor.Script i) now) ≡ Nothing
      by true e = absurd (none e)
      by false e = by_script (slice_get m.actors i)
  exited_done actor.Auto l now h = absurd h
  exited_done (actor.Dev d) l now h = absurd h
  exited_done (actor.Timer s) l now h = absurd h
  exited_done actor.Time l now h = absurd h

  -- a fact of a script that has not exited holds of each actor that has not
  has_exited : (who : Actor) → HasTurns m who → (now : EventNow) → (Determined (due m past who now) → ⊥) → HasExited m past who
  has_exited (actor.Script i) l now e = by (position_of m past i).exited refl
    where
      by : (b : Bool) → (position_of m past i).exited ≡ b → HasExited m past (actor.Script i)
      by true f = f
      by false f = absurd (e (due_determined m past now j (actor.Script i) l (λ g. true≢false (sym g ∙ f))))
  has_exited actor.Auto l now e = absurd (e (due_determined m past now j actor.Auto l (λ g. g)))
  has_exited (actor.Dev d) l now e = absurd (e (due_determined m past now j (actor.Dev d) l (λ g. g)))
  has_exited (actor.Timer s) l now e = absurd l
  has_exited actor.Time l now e = absurd l

pub exited_exited : DoneHaveExited
exited_exited m past j who l now = (λ e. has_exited m past j who l now (λ t. subst Determined e t), λ h. exited_done m past j who l now h)

pub none_stale : NoneWaitStale
none_stale m past j who l now calls time e =
    let gone : due m past who now ≡ Nothing = exited_done m past j who l now (has_exited m past j who l now (λ t. subst Determined e t)) in
    let no : Waits (why.Stale calls time) ≡ Nothing = sym e ∙ gone in cc

-- ---- the end of a log

module _ (m : Machine) (past : List Entry) (now : EventNow) where
  put_names : (exited : Bool) (i : ℕ) (d : Due) (others : List Waiting) → exited ≡ false → Determined d → is_made d ≡ false → names (actor.Script i) (put_waiting exited i d others)
  put_names true i d others e t h = absurd (true≢false e)
  put_names false i (Waits cause) others e t h = let same : (i == i) ≡ true = grind (arith, nat_tests) in ap (λ b. b || list_any (λ (w : Waiting). is_same w.actor (actor.Script i)) others) same
  put_names false i (Makes k) others e t h = absurd (true≢false h)
  put_names false i Nothing others e t h = absurd t

  put_more : (exited : Bool) (i n : ℕ) (d : Due) (others : List Waiting) → names (actor.Script n) others → names (actor.Script n) (put_waiting exited i d others)
  put_more true i n d others h = h
  put_more false i n (Waits cause) others h = by (i == n) h
    where
      by : (b : Bool) → names (actor.Script n) others → (b || list_any (λ (w : Waiting). is_same w.actor (actor.Script n)) others) ≡ true
      by true g = refl
      by false g = g
  put_more false i n (Makes k) others h = h
  put_more false i n Nothing others h = h

  all_named : (i k : ℕ) (places : List ScriptPosition) → k < length places → (position_at places k).exited ≡ false → Determined (due m past (actor.Script (i + k)) now) → is_made (due m past (actor.Script (i + k)) now) ≡ false
      → names (actor.Script (i + k)) (waiting_from m past now i places)
  all_named i k [] l there determined made = absurd (omega (arith, l))
  all_named i zero (script_position ∷ rest) l there determined made =
      let same : i ≡ i + 0 = omega arith in
      subst (λ (n : ℕ). names (actor.Script n) (put_waiting script_position.exited i (due m past (actor.Script i) now) (waiting_from m past now (suc i) rest))) same
      (put_names script_position.exited i (due m past (actor.Script i) now) (waiting_from m past now (suc i) rest) there
      (subst (λ (n : ℕ). Determined (due m past (actor.Script n) now)) (sym same) determined) (subst (λ (n : ℕ). is_made (due m past (actor.Script n) now) ≡ false) (sym same) made))
  all_named i (suc k) (script_position ∷ rest) l there determined made =
      let same : suc i + k ≡ i + suc k = omega arith in
      put_more script_position.exited i (i + suc k) (due m past (actor.Script i) now) (waiting_from m past now (suc i) rest)
      (subst (λ (n : ℕ). names (actor.Script n) (waiting_from m past now (suc i) rest)) same
      (all_named (suc i) k rest (omega (arith, l)) there (subst (λ (n : ℕ). Determined (due m past (actor.Script n) now)) (sym same) determined)
      (subst (λ (n : ℕ). is_made (due m past (actor.Script n) now) ≡ false) (sym same) made)))

pub stuck_names : StuckNamesAll
stuck_names m past legal stuck i l there =
    let p : List Entry = journal past in
    let now : EventNow = numbers past in
    let of : ℕ → List Entry = λ s. history s past in
    let idle : none_enabled m p of now actor.Script (length m.actors) ≡ true =
    and_left _ _ (and_left _ _ (and_left _ _ stuck.idle)) in
    let rests : is_made (due m p (actor.Script i) now) ≡ false = not_made m p of now (actor.Script i) (none_of m p of now actor.Script (length m.actors) idle i l) in
    let determined : Determined (due m p (actor.Script i) now) = due_determined m p now legal.journal (actor.Script i) l (λ g. true≢false (sym g ∙ there)) in
    let same : i ≡ 0 + i = omega arith in
    subst (λ (n : ℕ). names (actor.Script n) (waiting m p now)) (sym same)
    (all_named m p now 0 i (positions (length m.actors) p) (subst (λ (n : ℕ). i < n) (sym (positions_len (length m.actors) p)) l) there
    (subst (λ (n : ℕ). Determined (due m p (actor.Script n) now)) same determined) (subst (λ (n : ℕ). is_made (due m p (actor.Script n) now) ≡ false) same rests))
