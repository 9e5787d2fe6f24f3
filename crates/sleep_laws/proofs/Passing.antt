-- The states of devices from stage to stage, and so at each point of a legal journal.
use Rattle.std.proofs.Common.{◌≡◌, ◌≤◌, ◌∙◌, ℕ, Bool, true, false, nat_lt, arith, List, [], ◌∷◌, length, replicate, is_some, Option, Some, None, refl, sym, ap, subst}
use Rattle.std.proofs.lemmas.Bool.{true≢false}
use Rattle.std.proofs.lemmas.Bool.Decides.{nat_tests}
use Rattle.std.proofs.lemmas.List.{get_or-replicate, get_or_past, length-replicate}
use Rattle.sleep_base.specs.declared.errno.Errno.{Errno}
use Rattle.sleep_model.specs.declared.entry.Actor.{Actor}
use Rattle.sleep_model.specs.declared.entry.Entry.{Entry}
use Rattle.sleep_model.specs.declared.entry.Kind.{Kind}
use Rattle.sleep_model.specs.declared.entry.Kind.TheVariants as kind
use Rattle.sleep_model.specs.declared.machine.Machine.{Machine}
use Rattle.sleep_model.specs.declared.machine.PlatDo.TheVariants as down
use Rattle.sleep_model.specs.declared.machine.PlatUndo.TheVariants as undo
use Rattle.sleep_model.specs.declared.progress.Stage.{Stage}
use Rattle.sleep_model.specs.declared.progress.Stage.TheVariants as stage
use Rattle.sleep_model.specs.declared.progress.PhaseState.{PhaseState}
use Rattle.sleep_model.specs.declared.progress.PhaseState.TheVariants as state
use Rattle.sleep_model.specs.declared.word.EventNow.{EventNow}
use Rattle.phase_table.specs.declared.phase.Phase.{Phase}
use Rattle.phase_table.specs.declared.phase.Phase.TheVariants as phase
use Rattle.sleep_model.specs.Devices.{callback, is_device, is_async_device, state_in, waits_down, waits_up, next_down, next_prepared, next_completed}
use Rattle.sleep_model.specs.Legal.{JournalPart}
use Rattle.sleep_model.specs.Order.{order, is_among}
use Rattle.sleep_model.specs.PhaseStates.{state_at, is_unprepared, is_prepared, is_ready, is_going_down, is_not_up}
use Rattle.sleep_model.specs.Table.{stage_of, stage_after}
use Rattle.sleep_laws.proofs.Boards.{Three, at, at_is, three, all_three, first_none, last_none}
use Rattle.sleep_laws.proofs.LockHolding.{StageInvariant, Outside, at_stage, at_made}
use Rattle.sleep_laws.proofs.Made.{Down, InSuspend, InLate, InNoirq, Made, Comes, AtOnce, PastNotifiers, PastCpus, PastParts, PastPartsUp, PastCpusUp, PastPosts, Breaks, Settles, Rises}
use Rattle.sleep_laws.proofs.Moods.{Mood, Empty, Fresh, Going, Settled, Halted, Coming, Risen, in_down, in_up, in_suspend, allows, when_empty, when_going, empty_fresh, fresh_going, fresh_halted, fresh_risen, settled_coming, halted_coming, going_halted, going_settled, coming_risen}
use Rattle.sleep_laws.proofs.DevicePhases.{When, IsFine, unprepared_fine, empty_fine, fine_else, none_so, errs, Fines, DevicePhases}
use Rattle.sleep_laws.proofs.Turning.{schedules_down, finds_down, leaves_down, begins_down, ends_down, schedules_up, begins_up, ends_up, prepares, completes, device_stands, free_call}

-- ---- from one stage to another

module _ (m : Machine) (past : List Entry) where
  -- the devices have come to something else
  else_fines : (moods then : Phase → Mood) (full all after : Bool) → Fines m past moods full → ((x : ℕ) (q : Phase) → Down q → allows (moods q) (errs past) (at (three m past x) q) ≡ true → allows (then q) after (at (three m past x) q) ≡ true) → ((x : ℕ) → When all (is_among (order m past) x ≡ true → is_prepared (state_in m past phase.Suspend x) ≡ true)) → (x : ℕ) → IsFine (order m past) (is_async_device m x) then all after x (three m past x)
  else_fines moods then full all after h right every x =
      fine_else (order m past) (is_async_device m x) moods full (errs past) x (three m past x) (h x) then all after (λ q i. right x q i ((h x).allowed q i)) (every x)

  full_fine : (moods : Phase → Mood) → Fines m past moods true → (x : ℕ) → is_among (order m past) x ≡ true → is_prepared (state_in m past phase.Suspend x) ≡ true
  full_fine moods h x = (h x).prepared

  -- no device is scheduled and not done, if the walk down waits for none
  none_goes : (moods : Phase → Mood) (full : Bool) → Fines m past moods full → (p : Phase) → Down p → waits_down m past p ≡ None → (x : ℕ) → is_going_down (at (three m past x) p) ≡ false
  none_goes moods full h p i w x =
      none_so (order m past) (is_async_device m x) moods full (errs past) x (three m past x) (h x) is_going_down refl p i
      (λ o. ap is_going_down (at_is m past p x i) ∙ first_none (λ d. is_going_down (state_in m past p d)) (order m past) w x o)

  none_ready : (moods : Phase → Mood) (full : Bool) → Fines m past moods full → (p : Phase) → Down p → next_down m past p ≡ None → (x : ℕ) → is_ready (at (three m past x) p) ≡ false
  none_ready moods full h p i n x =
      none_so (order m past) (is_async_device m x) moods full (errs past) x (three m past x) (h x) is_ready refl p i
      (λ o. ap is_ready (at_is m past p x i) ∙ last_none (λ d. is_ready (state_in m past p d)) (order m past) n x o)

  none_not_up : (moods : Phase → Mood) (full : Bool) → Fines m past moods full → (p : Phase) → Down p → waits_up m past p ≡ None → (x : ℕ) → is_not_up (at (three m past x) p) ≡ false
  none_not_up moods full h p i w x =
      none_so (order m past) (is_async_device m x) moods full (errs past) x (three m past x) (h x) is_not_up refl p i
      (λ o. ap is_not_up (at_is m past p x i) ∙ first_none (λ d. is_not_up (state_in m past p d)) (order m past) w x o)

  -- a phase on the way down stops by an error, or settles
  stops : (moods : Phase → Mood) (full : Bool) → Fines m past moods full → (p : Phase) → Down p → moods p ≡ Going → waits_down m past p ≡ None → (x : ℕ) → allows Halted false (at (three m past x) p) ≡ true
  stops moods full h p i g w x =
      going_halted (errs past) (at (three m past x) p) (subst (λ (a : Mood). allows a (errs past) (at (three m past x) p) ≡ true) g ((h x).allowed p i)) (none_goes moods full h p i w x)

  settles : (moods : Phase → Mood) (full : Bool) → Fines m past moods full → (p : Phase) → Down p → moods p ≡ Going → Settles m past p → (x : ℕ) → allows Settled false (at (three m past x) p) ≡ true
  settles moods full h p i g s x =
      let going : when_going (errs past) (at (three m past x) p) ≡ true = subst (λ (a : Mood). allows a (errs past) (at (three m past x) p) ≡ true) g ((h x).allowed p i) in
      going_settled (at (three m past x) p) (subst (λ (r : Option Errno). when_going (is_some r) (at (three m past x) p) ≡ true) s.well going)
      (none_ready moods full h p i s.next x) (none_goes moods full h p i s.waits x)

  rises : (moods : Phase → Mood) (full : Bool) → Fines m past moods full → (p : Phase) → Down p → moods p ≡ Coming → Rises m past p → (x : ℕ) → allows Risen false (at (three m past x) p) ≡ true
  rises moods full h p i c r x =
      coming_risen (at (three m past x) p) (subst (λ (a : Mood). allows a (errs past) (at (three m past x) p) ≡ true) c ((h x).allowed p i)) (none_not_up moods full h p i r.waits x)

prepared_of : (s : PhaseState) → is_unprepared s ≡ false → is_prepared s ≡ true
prepared_of state.Unprepared e = absurd (true≢false e)
prepared_of _ e = refl

-- ---- what the maker makes

module _ (m : Machine) (past : List Entry) (time : ℕ) (now : EventNow) (who : Actor) (task : is_device who ≡ false) where
  abbrev by : Kind → Entry
  by k = record { time = time; now = now; actor = who; kind = k }

  platform_begins : DevicePhases m past (Some (stage.PlatformDo down.Begin)) → DevicePhases m (by (kind.PlatformDo down.Begin None) ∷ past) (Some stage.Prepares)
  platform_begins h = (else_fines m past (λ q. Empty) (λ q. Fresh) false false (errs past) h.0 (λ x q i a. empty_fresh (at (three m past x) q) a) (λ x. tt), h.1)

  platform_prepares : DevicePhases m past (Some (stage.PlatformDo down.Prepare)) → DevicePhases m (by (kind.PlatformDo down.Prepare None) ∷ past) (Some (stage.Downs phase.Late))
  platform_prepares h = (else_fines m past (in_suspend Settled Fresh) (in_down phase.Late) true true (errs past) h.0 allowed (full_fine m past (in_suspend Settled Fresh) h.0), free_call m (callback past) state.Suspending phase.Late (three m past) h.1)
    where
      allowed : (x : ℕ) (q : Phase) → Down q → allows (in_suspend Settled Fresh q) (errs past) (at (three m past x) q) ≡ true → allows (in_down phase.Late q) (errs past) (at (three m past x) q) ≡ true
      allowed x _ InSuspend a = a
      allowed x _ InLate a = fresh_going (errs past) (at (three m past x) phase.Late) a
      allowed x _ InNoirq a = a

  prepare_fails : (r : Errno) → DevicePhases m past (Some (stage.PlatformDo down.Prepare)) → DevicePhases m (by (kind.PlatformDo down.Prepare (Some r)) ∷ past) (Some (stage.PlatformUndo undo.Finish))
  prepare_fails r h = (else_fines m past (in_suspend Settled Fresh) (in_suspend Settled Risen) true false (errs past) h.0 allowed (λ x. tt), h.1)
    where
      allowed : (x : ℕ) (q : Phase) → Down q → allows (in_suspend Settled Fresh q) (errs past) (at (three m past x) q) ≡ true → allows (in_suspend Settled Risen q) (errs past) (at (three m past x) q) ≡ true
      allowed x _ InSuspend a = a
      allowed x _ InLate a = fresh_risen (at (three m past x) phase.Late) a
      allowed x _ InNoirq a = fresh_risen (at (three m past x) phase.Noirq) a

  -- all stay settled if the attempt turns back
  turns_back : (full : Bool) → Fines m past (λ q. Settled) full → Fines m past (λ q. Settled) false
  turns_back full h = else_fines m past (λ q. Settled) (λ q. Settled) full false (errs past) h (λ x q i a. a) (λ x. tt)

  prepares_not : (r : Errno) → DevicePhases m past (Some stage.Prepares) → DevicePhases m (by (kind.Done phase.Prepare (Some r)) ∷ past) (Some (stage.PlatformUndo undo.Recover))
  prepares_not r h = (else_fines m past (λ q. Fresh) (in_suspend Halted Risen) false false false h.0 allowed (λ x. tt), h.1)
    where
      allowed : (x : ℕ) (q : Phase) → Down q → allows Fresh (errs past) (at (three m past x) q) ≡ true → allows (in_suspend Halted Risen q) false (at (three m past x) q) ≡ true
      allowed x _ InSuspend a = fresh_halted (at (three m past x) phase.Suspend) a
      allowed x _ InLate a = fresh_risen (at (three m past x) phase.Late) a
      allowed x _ InNoirq a = fresh_risen (at (three m past x) phase.Noirq) a

  prepared : next_prepared m past ≡ None → DevicePhases m past (Some stage.Prepares) → DevicePhases m (by (kind.Done phase.Prepare None) ∷ past) (Some (stage.Downs phase.Suspend))
  prepared n h = (
    else_fines m past (λ q. Fresh) (in_down phase.Suspend) false true false h.0 allowed (λ x o. prepared_of (state_in m past phase.Suspend x) (first_none (λ d. is_unprepared (state_in m past phase.Suspend d)) (order m past) n x o)),
    free_call m (callback past) state.Suspending phase.Suspend (three m past) h.1,
  )
    where
      allowed : (x : ℕ) (q : Phase) → Down q → allows Fresh (errs past) (at (three m past x) q) ≡ true → allows (in_down phase.Suspend q) false (at (three m past x) q) ≡ true
      allowed x _ InSuspend a = fresh_going false (at (three m past x) phase.Suspend) a
      allowed x _ InLate a = a
      allowed x _ InNoirq a = a

  suspend_fails : (r : Errno) → Breaks m past phase.Suspend r → DevicePhases m past (Some (stage.Downs phase.Suspend)) → DevicePhases m (by (kind.Done phase.Suspend (Some r)) ∷ past) (Some (stage.PlatformUndo undo.Recover))
  suspend_fails r b h = (else_fines m past (in_down phase.Suspend) (in_suspend Halted Risen) true false false h.0 allowed (λ x. tt), b.free)
    where
      allowed : (x : ℕ) (q : Phase) → Down q → allows (in_down phase.Suspend q) (errs past) (at (three m past x) q) ≡ true → allows (in_suspend Halted Risen q) false (at (three m past x) q) ≡ true
      allowed x _ InSuspend a = stops m past (in_down phase.Suspend) true h.0 phase.Suspend InSuspend refl b.waits x
      allowed x _ InLate a = fresh_risen (at (three m past x) phase.Late) a
      allowed x _ InNoirq a = fresh_risen (at (three m past x) phase.Noirq) a

  late_fails : (r : Errno) → Breaks m past phase.Late r → DevicePhases m past (Some (stage.Downs phase.Late)) → DevicePhases m (by (kind.Done phase.Late (Some r)) ∷ past) (Some (stage.Ups phase.Early))
  late_fails r b h = (else_fines m past (in_down phase.Late) (in_up phase.Early) true false false h.0 allowed (λ x. tt), free_call m (callback past) state.Resuming phase.Late (three m past) b.free)
    where
      allowed : (x : ℕ) (q : Phase) → Down q → allows (in_down phase.Late q) (errs past) (at (three m past x) q) ≡ true → allows (in_up phase.Early q) false (at (three m past x) q) ≡ true
      allowed x _ InSuspend a = a
      allowed x _ InLate a = halted_coming (at (three m past x) phase.Late) (stops m past (in_down phase.Late) true h.0 phase.Late InLate refl b.waits x)
      allowed x _ InNoirq a = fresh_risen (at (three m past x) phase.Noirq) a

  noirq_fails : (r : Errno) → Breaks m past phase.Noirq r → DevicePhases m past (Some (stage.Downs phase.Noirq)) → DevicePhases m (by (kind.Done phase.Noirq (Some r)) ∷ past) (Some (stage.Ups phase.ResumeNoirq))
  noirq_fails r b h = (else_fines m past (in_down phase.Noirq) (in_up phase.ResumeNoirq) true false false h.0 allowed (λ x. tt), free_call m (callback past) state.Resuming phase.Noirq (three m past) b.free)
    where
      allowed : (x : ℕ) (q : Phase) → Down q → allows (in_down phase.Noirq q) (errs past) (at (three m past x) q) ≡ true → allows (in_up phase.ResumeNoirq q) false (at (three m past x) q) ≡ true
      allowed x _ InSuspend a = a
      allowed x _ InLate a = a
      allowed x _ InNoirq a = halted_coming (at (three m past x) phase.Noirq) (stops m past (in_down phase.Noirq) true h.0 phase.Noirq InNoirq refl b.waits x)

  suspend_ends : Settles m past phase.Suspend → DevicePhases m past (Some (stage.Downs phase.Suspend)) → DevicePhases m (by (kind.Done phase.Suspend None) ∷ past) (Some (stage.PlatformDo down.Prepare))
  suspend_ends s h = (else_fines m past (in_down phase.Suspend) (in_suspend Settled Fresh) true true false h.0 allowed (full_fine m past (in_down phase.Suspend) h.0), s.free)
    where
      allowed : (x : ℕ) (q : Phase) → Down q → allows (in_down phase.Suspend q) (errs past) (at (three m past x) q) ≡ true → allows (in_suspend Settled Fresh q) false (at (three m past x) q) ≡ true
      allowed x _ InSuspend a = settles m past (in_down phase.Suspend) true h.0 phase.Suspend InSuspend refl s x
      allowed x _ InLate a = a
      allowed x _ InNoirq a = a

  late_ends : Settles m past phase.Late → DevicePhases m past (Some (stage.Downs phase.Late)) → DevicePhases m (by (kind.Done phase.Late None) ∷ past) (Some (stage.Downs phase.Noirq))
  late_ends s h = (else_fines m past (in_down phase.Late) (in_down phase.Noirq) true true false h.0 allowed (full_fine m past (in_down phase.Late) h.0), free_call m (callback past) state.Suspending phase.Noirq (three m past) s.free)
    where
      allowed : (x : ℕ) (q : Phase) → Down q → allows (in_down phase.Late q) (errs past) (at (three m past x) q) ≡ true → allows (in_down phase.Noirq q) false (at (three m past x) q) ≡ true
      allowed x _ InSuspend a = a
      allowed x _ InLate a = settles m past (in_down phase.Late) true h.0 phase.Late InLate refl s x
      allowed x _ InNoirq a = fresh_going false (at (three m past x) phase.Noirq) a

  noirq_ends : Settles m past phase.Noirq → DevicePhases m past (Some (stage.Downs phase.Noirq)) → DevicePhases m (by (kind.Done phase.Noirq None) ∷ past) (Some (stage.PlatformDo down.PrepareLate))
  noirq_ends s h = (else_fines m past (in_down phase.Noirq) (λ q. Settled) true true false h.0 allowed (full_fine m past (in_down phase.Noirq) h.0), s.free)
    where
      allowed : (x : ℕ) (q : Phase) → Down q → allows (in_down phase.Noirq q) (errs past) (at (three m past x) q) ≡ true → allows Settled false (at (three m past x) q) ≡ true
      allowed x _ InSuspend a = a
      allowed x _ InLate a = a
      allowed x _ InNoirq a = settles m past (in_down phase.Noirq) true h.0 phase.Noirq InNoirq refl s x

  platform_wakes : DevicePhases m past (Some (stage.PlatformUndo undo.Wake)) → DevicePhases m (by (kind.PlatformUndo undo.Wake) ∷ past) (Some (stage.Ups phase.ResumeNoirq))
  platform_wakes h = (else_fines m past (λ q. Settled) (in_up phase.ResumeNoirq) false false (errs past) h.0 allowed (λ x. tt), free_call m (callback past) state.Resuming phase.Noirq (three m past) h.1)
    where
      allowed : (x : ℕ) (q : Phase) → Down q → allows Settled (errs past) (at (three m past x) q) ≡ true → allows (in_up phase.ResumeNoirq q) (errs past) (at (three m past x) q) ≡ true
      allowed x _ InSuspend a = a
      allowed x _ InLate a = a
      allowed x _ InNoirq a = settled_coming (at (three m past x) phase.Noirq) a

  platform_finishes : DevicePhases m past (Some (stage.PlatformUndo undo.Finish)) → DevicePhases m (by (kind.PlatformUndo undo.Finish) ∷ past) (Some (stage.Ups phase.Resume))
  platform_finishes h = (else_fines m past (in_suspend Settled Risen) (in_up phase.Resume) false false (errs past) h.0 allowed (λ x. tt), free_call m (callback past) state.Resuming phase.Suspend (three m past) h.1)
    where
      allowed : (x : ℕ) (q : Phase) → Down q → allows (in_suspend Settled Risen q) (errs past) (at (three m past x) q) ≡ true → allows (in_up phase.Resume q) (errs past) (at (three m past x) q) ≡ true
      allowed x _ InSuspend a = settled_coming (at (three m past x) phase.Suspend) a
      allowed x _ InLate a = a
      allowed x _ InNoirq a = a

  platform_recovers : DevicePhases m past (Some (stage.PlatformUndo undo.Recover)) → DevicePhases m (by (kind.PlatformUndo undo.Recover) ∷ past) (Some (stage.Ups phase.Resume))
  platform_recovers h = (else_fines m past (in_suspend Halted Risen) (in_up phase.Resume) false false (errs past) h.0 allowed (λ x. tt), free_call m (callback past) state.Resuming phase.Suspend (three m past) h.1)
    where
      allowed : (x : ℕ) (q : Phase) → Down q → allows (in_suspend Halted Risen q) (errs past) (at (three m past x) q) ≡ true → allows (in_up phase.Resume q) (errs past) (at (three m past x) q) ≡ true
      allowed x _ InSuspend a = halted_coming (at (three m past x) phase.Suspend) a
      allowed x _ InLate a = a
      allowed x _ InNoirq a = a

  resume_noirq_ends : Rises m past phase.Noirq → DevicePhases m past (Some (stage.Ups phase.ResumeNoirq)) → DevicePhases m (by (kind.Done phase.ResumeNoirq None) ∷ past) (Some (stage.Ups phase.Early))
  resume_noirq_ends r h = (else_fines m past (in_up phase.ResumeNoirq) (in_up phase.Early) false false false h.0 allowed (λ x. tt), free_call m (callback past) state.Resuming phase.Late (three m past) r.free)
    where
      allowed : (x : ℕ) (q : Phase) → Down q → allows (in_up phase.ResumeNoirq q) (errs past) (at (three m past x) q) ≡ true → allows (in_up phase.Early q) false (at (three m past x) q) ≡ true
      allowed x _ InSuspend a = a
      allowed x _ InLate a = settled_coming (at (three m past x) phase.Late) a
      allowed x _ InNoirq a = rises m past (in_up phase.ResumeNoirq) false h.0 phase.Noirq InNoirq refl r x

  early_ends : Rises m past phase.Late → DevicePhases m past (Some (stage.Ups phase.Early)) → DevicePhases m (by (kind.Done phase.Early None) ∷ past) (Some (stage.PlatformUndo undo.Finish))
  early_ends r h = (else_fines m past (in_up phase.Early) (in_suspend Settled Risen) false false false h.0 allowed (λ x. tt), r.free)
    where
      allowed : (x : ℕ) (q : Phase) → Down q → allows (in_up phase.Early q) (errs past) (at (three m past x) q) ≡ true → allows (in_suspend Settled Risen q) false (at (three m past x) q) ≡ true
      allowed x _ InSuspend a = a
      allowed x _ InLate a = rises m past (in_up phase.Early) false h.0 phase.Late InLate refl r x
      allowed x _ InNoirq a = a

  resume_ends : Rises m past phase.Suspend → DevicePhases m past (Some (stage.Ups phase.Resume)) → DevicePhases m (by (kind.Done phase.Resume None) ∷ past) (Some stage.Completes)
  resume_ends r h = (else_fines m past (in_up phase.Resume) (λ q. Risen) false false false h.0 allowed (λ x. tt), r.free)
    where
      allowed : (x : ℕ) (q : Phase) → Down q → allows (in_up phase.Resume q) (errs past) (at (three m past x) q) ≡ true → allows Risen false (at (three m past x) q) ≡ true
      allowed x _ InSuspend a = rises m past (in_up phase.Resume) false h.0 phase.Suspend InSuspend refl r x
      allowed x _ InLate a = a
      allowed x _ InNoirq a = a

  completed : next_completed m past ≡ None → DevicePhases m past (Some stage.Completes) → DevicePhases m (by (kind.Done phase.Complete None) ∷ past) (Some (stage.PlatformUndo undo.End))
  completed n h = (else_fines m past (λ q. Risen) (λ q. Empty) false false false h.0 allowed (λ x. tt), h.1)
    where
      unprepared : (s : PhaseState) → is_prepared s ≡ false → when_empty s ≡ true
      unprepared state.Unprepared e = refl
      unprepared _ e = absurd (true≢false e)

      allowed : (x : ℕ) (q : Phase) → Down q → allows Risen (errs past) (at (three m past x) q) ≡ true → allows Empty false (at (three m past x) q) ≡ true
      allowed x q i a =
          unprepared (at (three m past x) q)
          ((h.0 x).alike q i ∙ none_so (order m past) (is_async_device m x) (λ r. Risen) false (errs past) x (three m past x) (h.0 x) is_prepared refl phase.Suspend InSuspend (λ o. last_none (λ d. is_prepared (state_in m past phase.Suspend d)) (order m past) n x o))

  -- what the maker makes leaves the devices in states that they may have at the stage after
  pub maker_stands : (there : Stage) (k : Kind) → Made m past now there k → DevicePhases m past (Some there) → DevicePhases m (by k ∷ past) (stage_after k (Some there))
  maker_stands _ _ Made.PlatformBegins h = platform_begins h
  maker_stands _ _ Made.PlatformPrepares h = platform_prepares h
  maker_stands _ _ (Made.PrepareFails r) h = prepare_fails r h
  maker_stands _ _ (Made.PrepareLateFails r) h = (turns_back true h.0, h.1)
  maker_stands _ _ (Made.Prepares d r f n) h = prepares m past time now who task d r n h
  maker_stands _ _ (Made.PreparesNot r f) h = prepares_not r h
  maker_stands _ _ (Made.Prepared f n) h = prepared n h
  maker_stands _ _ (Made.EndsDown p q d r i c) h = ends_down m past time now who task p q d r i c h
  maker_stands _ _ (Made.SchedulesDown p d i c f n a) h = schedules_down m past time now who task p d i c n a h
  maker_stands _ _ (Made.FindsDown p d i t e w) h = finds_down m past time now who task p d i t h
  maker_stands _ _ (Made.LeavesDown p d i t e a) h = leaves_down m past time now who task p d i t a h
  maker_stands _ _ (Made.BeginsDown p d i t e a) h = begins_down m past time now who task p d i t h
  maker_stands _ _ (Made.SuspendFails r b) h = suspend_fails r b h
  maker_stands _ _ (Made.LateFails r b) h = late_fails r b h
  maker_stands _ _ (Made.NoirqFails r b) h = noirq_fails r b h
  maker_stands _ _ (Made.SuspendEnds s) h = suspend_ends s h
  maker_stands _ _ (Made.LateEnds s) h = late_ends s h
  maker_stands _ _ (Made.NoirqEnds s) h = noirq_ends s h
  maker_stands _ _ (Made.FindsCpu k n w) h = (turns_back true h.0, h.1)
  maker_stands _ _ (Made.FindsCheck w) h = (turns_back true h.0, h.1)
  maker_stands _ _ (Made.PartFails x r n) h = (turns_back true h.0, h.1)
  maker_stands _ _ (Made.EntersNot s w) h = (turns_back true h.0, h.1)
  maker_stands _ _ (Made.Wakes s e f) h = (turns_back true h.0, h.1)
  maker_stands _ _ Made.PlatformWakes h = platform_wakes h
  maker_stands _ _ Made.PlatformFinishes h = platform_finishes h
  maker_stands _ _ Made.PlatformRecovers h = platform_recovers h
  maker_stands _ _ (Made.EndsUp p q d r u c) h = ends_up m past time now who task p q d r u c h
  maker_stands _ _ (Made.SchedulesUp p d u c n) h = schedules_up m past time now who task p d u c n h
  maker_stands _ _ (Made.BeginsUp p d u c g n w) h = begins_up m past time now who task p d u n h
  maker_stands _ _ (Made.ResumeNoirqEnds r) h = resume_noirq_ends r h
  maker_stands _ _ (Made.EarlyEnds r) h = early_ends r h
  maker_stands _ _ (Made.ResumeEnds r) h = resume_ends r h
  maker_stands _ _ (Made.Completes d n) h = completes m past time now who task d h
  maker_stands _ _ (Made.Completed n) h = completed n h
  maker_stands _ _ _ h = h

-- ---- at each point

-- at the beginning no device is prepared
starts_unprepared : (n d : ℕ) → state_at (replicate n state.Unprepared) d ≡ state.Unprepared
starts_unprepared n d = by_test (nat_lt d n) refl
  where
    by_test : (b : Bool) → nat_lt d n ≡ b → state_at (replicate n state.Unprepared) d ≡ state.Unprepared
    by_test true e = get_or-replicate n d state.Unprepared state.Unprepared (grind (arith, nat_tests))
    by_test false e =
        let l : n ≤ d = grind (arith, nat_tests) in
        get_or_past (replicate n state.Unprepared) d state.Unprepared (omega (arith, length-replicate n state.Unprepared))

starts_three : (m : Machine) (d : ℕ) → three m [] d ≡ all_three state.Unprepared
starts_three m d = ap all_three (starts_unprepared (length m.devices) d)

stands_starts : (m : Machine) → DevicePhases m [] None
stands_starts m = (λ d. subst (λ (t : Three). IsFine (order m []) (is_async_device m d) (λ q. Empty) false false d t) (sym (starts_three m d)) (unprepared_fine (order m []) (is_async_device m d) (λ q. Empty) false d), refl)

stands_comes : (m : Machine) (past : List Entry) (here there : Stage) → Comes m past here there → DevicePhases m past (Some here) → DevicePhases m past (Some there)
stands_comes m past _ _ (AtOnce s) h = h
stands_comes m past _ _ (PastNotifiers e) h = h
stands_comes m past _ _ (PastCpus e) h = h
stands_comes m past _ _ (PastParts e) h = h
stands_comes m past _ _ (PastPartsUp e) h = h
stands_comes m past _ _ (PastCpusUp e) h = h
stands_comes m past _ _ (PastPosts e) h = h

-- links change while no attempt is open, so that no phase has a device
relinked : (m : Machine) (past : List Entry) (e : Entry) (s : Option Stage) → s ≡ None → ((d : ℕ) → three m (e ∷ past) d ≡ three m past d) → errs (e ∷ past) ≡ errs past → callback (e ∷ past) ≡ callback past → DevicePhases m past s → DevicePhases m (e ∷ past) s
relinked m past e s none same failed calls h = subst (λ (o : Option Stage). DevicePhases m (e ∷ past) o) (sym none) (by_none (subst (λ (o : Option Stage). DevicePhases m past o) none h))
  where
    by_none : DevicePhases m past None → DevicePhases m (e ∷ past) None
    by_none g = (
      λ d. subst (λ (t : Three). IsFine (order m (e ∷ past)) (is_async_device m d) (λ q. Empty) false (errs (e ∷ past)) d t) (sym (same d))
          (subst (λ (b : Bool). IsFine (order m (e ∷ past)) (is_async_device m d) (λ q. Empty) false b d (three m past d)) (sym failed)
          (empty_fine (order m past) (order m (e ∷ past)) (is_async_device m d) (errs past) d (three m past d) (g.0 d))),
      calls ∙ g.1,
    )

stands_beside : (m : Machine) (past : List Entry) (time : ℕ) (now : EventNow) (who : Actor) (k : Kind) (s : Option Stage) → Outside s k → DevicePhases m past s → DevicePhases m (record { time = time; now = now; actor = who; kind = k } ∷ past) s
stands_beside m past time now who _ s Outside.Frozen h = h
stands_beside m past time now who _ s (Outside.LinkAdded supplier consumer e) h =
    relinked m past (record { time = time; now = now; actor = who; kind = kind.LinkAdd supplier consumer None }) s e (λ d. refl) refl refl h
stands_beside m past time now who _ s (Outside.LinkSet supplier consumer active e) h =
    relinked m past (record { time = time; now = now; actor = who; kind = kind.LinkState supplier consumer active None }) s e (λ d. refl) refl refl h
stands_beside m past time now who _ s _ h = h

pub device_phases_invariant : (m : Machine) → StageInvariant m (λ (s : Option Stage) (past : List Entry). DevicePhases m past s)
device_phases_invariant m = record {
  starts = stands_starts m;
  opens = λ past time now who n guarded h. (else_fines m past (λ q. Empty) (λ q. Empty) false false false h.0 (λ x q i a. a) (λ x. tt), h.1);
  comes = λ past here there c h. stands_comes m past here there c h;
  makes = λ past time now who there k task x h. maker_stands m past time now who task.no_device there k x h;
  beside = λ past time now who k s x task a h. stands_beside m past time now who k s a h;
  owns = λ past time now d k s x h. device_stands m past time now d s k h x;
}

-- the states of devices at each point of a legal journal
pub device_phases : (m : Machine) (past : List Entry) → JournalPart m past → DevicePhases m past (stage_of past)
device_phases m past h = at_stage m (λ (s : Option Stage) (l : List Entry). DevicePhases m l s) (device_phases_invariant m) past h

-- and at the stage at which the maker makes an entry
pub device_phases_made : (m : Machine) (past : List Entry) → JournalPart m past → (here there : Stage) → stage_of past ≡ Some here → Comes m past here there → DevicePhases m past (Some there)
device_phases_made m past h here there e c = at_made m (λ (s : Option Stage) (l : List Entry). DevicePhases m l s) (device_phases_invariant m) past h here there e c
