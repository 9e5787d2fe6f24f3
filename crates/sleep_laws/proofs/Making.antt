-- From what is due to the families of what is made.
use Rattle.std.proofs.Common.{◌≡◌, ◌+◌, ℕ, Bool, true, false, ◌&&◌, nat_le, nat_lt, List, [], ◌∷◌, length, Option, Some, None, cond, refl, sym, subst}
use Rattle.sleep_laws.proofs.Telling.{some≢none}
use Rattle.sleep_base.specs.declared.errno.Errno.{Errno}
use Rattle.sleep_base.specs.declared.errno.Errno.TheVariants.{EBUSY}
use Rattle.sleep_model.specs.declared.entry.Actor.{Actor}
use Rattle.sleep_model.specs.declared.entry.Entry.{Entry}
use Rattle.sleep_model.specs.declared.entry.FrozeEnd.{FrozeEnd}
use Rattle.sleep_model.specs.declared.entry.FrozeEnd.TheVariants as froze
use Rattle.sleep_model.specs.declared.entry.Group.{Group}
use Rattle.sleep_model.specs.declared.entry.Group.TheVariants as group
use Rattle.sleep_model.specs.declared.entry.Kind.{Kind}
use Rattle.sleep_model.specs.declared.entry.Kind.TheVariants as kind
use Rattle.sleep_model.specs.declared.entry.SkipCause.TheVariants as skip
use Rattle.sleep_model.specs.declared.entry.Thaw.TheVariants as thaw
use Rattle.sleep_model.specs.declared.machine.Machine.{Machine}
use Rattle.sleep_model.specs.declared.machine.PlatDo.{PlatDo}
use Rattle.sleep_model.specs.declared.machine.PlatDo.TheVariants as down
use Rattle.sleep_model.specs.declared.machine.PlatUndo.{PlatUndo}
use Rattle.sleep_model.specs.declared.machine.PlatUndo.TheVariants as undo
use Rattle.sleep_model.specs.declared.machine.What.TheVariants as what
use Rattle.sleep_model.specs.declared.progress.Due.{Due}
use Rattle.sleep_model.specs.declared.progress.Due.TheVariants.{Makes, Waits, Nothing}
use Rattle.sleep_model.specs.declared.progress.Stage.{Stage}
use Rattle.sleep_model.specs.declared.progress.Stage.TheVariants as stage
use Rattle.sleep_model.specs.declared.progress.Sleep.{Sleep}
use Rattle.sleep_model.specs.declared.progress.Callback.{Callback}
use Rattle.sleep_model.specs.declared.word.EventNow.{EventNow}
use Rattle.phase_table.specs.declared.phase.Phase.{Phase}
use Rattle.phase_table.specs.declared.phase.Phase.TheVariants as phase
use Rattle.phase_table.specs.Phases.{is_down, mirror, tests_wakeup}
use Rattle.sleep_model.specs.Answers.{answer, answer_number, error_of_number}
use Rattle.sleep_model.specs.Attempt.{answered, failed, freeze_since, gives_up_at, sleep_of, if_left, stage_due, froze_due, freeze_due, cpu_kind, enter_due, busy_error, or_next, stage_or_next, due_at}
use Rattle.sleep_model.specs.Devices.{callback, phase_failed, phase_error, own_error, own_error_after, phase_failed_after, error_in, unless_own, is_device, is_direct, is_async_device, waits_for_subordinates, waits_above, waits_down, waits_up, next_down, next_to_schedule, next_up, next_prepared, next_completed, down_due, walk_down, take_down, after_device, up_due, walk_up, prepare_due, complete_due, device_error}
use Rattle.sleep_model.specs.Freezer.{left}
use Rattle.sleep_model.specs.Guard.{pending}
use Rattle.sleep_model.specs.Notifiers.{next_notified, next_post_notified, next_cpu_off, next_cpu_on, next_syscore_suspended, next_syscore_resumed}
use Rattle.sleep_model.specs.Numbers.{time_of}
use Rattle.sleep_model.specs.Path.{attempts, maker, is_actor}
use Rattle.sleep_model.specs.Table.{stage_of, stage_after, next_stage, by_error, by_froze, by_case, stage_after_down, stage_after_platform_down, failed_platform_down, failed_freeze, failed_phase, stage_after_freeze, stage_after_platform_up, after_done}
use Rattle.sleep_model.specs.Walk.{or_else}
use Rattle.sleep_model.specs.Word.{position}
use Rattle.sleep_laws.proofs.Made.{Down, InSuspend, InLate, InNoirq, Up, InResume, InEarly, InResumeNoirq, AtTurn, Breaks, Settles, Rises, Made, Comes, AtOnce, PastNotifiers, PastCpus, PastParts, PastPartsUp, PastCpusUp, PastPosts, EntryMade, ByMaker}

-- ---- what is due, if something is

-- what holds of the kind that is due; the other claim if there is nothing left
abbrev pub OnDue : (Kind → Type 0) → Type 0 → Due → Type 0
OnDue P none (Makes k) = P k
OnDue P none (Waits w) = Unit {0}
OnDue P none Nothing = none

on_if : (P : Kind → Type 0) (none : Type 0) (b : Bool) (x y : Due) → (b ≡ true → OnDue P none x) → (b ≡ false → OnDue P none y) → OnDue P none (cond b x y)
on_if P none true x y f g = f refl
on_if P none false x y f g = g refl

on_after : (P : Kind → Type 0) (none : Type 0) (o : Option ℕ) (x : Due) → (o ≡ None → OnDue P none x) → OnDue P none (after_device o x)
on_after P none None x f = f refl
on_after P none (Some d) x f = tt

-- ---- the stages that there are

-- the phases of a stage are such as it has
abbrev pub Proper : Stage → Type 0
Proper (stage.Downs p) = Down p
Proper (stage.Ups p) = Up p
Proper _ = Unit {0}

abbrev pub ProperIf : Option Stage → Type 0
ProperIf None = Unit {0}
ProperIf (Some s) = Proper s

by_error_proper : (r : Option Errno) (good failed : Stage) → Proper good → Proper failed → Proper (by_error r good failed)
by_error_proper None good failed g f = g
by_error_proper (Some r) good failed g f = f

by_froze_proper : (end : FrozeEnd) (good failed : Stage) → Proper good → Proper failed → Proper (by_froze end good failed)
by_froze_proper froze.AllFrozen good failed g f = g
by_froze_proper (froze.Timeout n x) good failed g f = f
by_froze_proper (froze.Wakeup n x) good failed g f = f

by_case_proper : (b : Bool) (here there : Stage) → Proper here → Proper there → Proper (by_case b here there)
by_case_proper true here there h t = h
by_case_proper false here there h t = t

after_freeze_proper : (g : Group) → Proper (stage_after_freeze g)
after_freeze_proper group.User = tt
after_freeze_proper group.Kernel = tt

failed_freeze_proper : (g : Group) → Proper (failed_freeze g)
failed_freeze_proper group.User = tt
failed_freeze_proper group.Kernel = tt

after_platform_down_proper : (a : PlatDo) → Proper (stage_after_platform_down a)
after_platform_down_proper down.Begin = tt
after_platform_down_proper down.Prepare = InLate
after_platform_down_proper down.PrepareLate = tt

failed_platform_down_proper : (a : PlatDo) → Proper (failed_platform_down a)
failed_platform_down_proper down.Begin = tt
failed_platform_down_proper down.Prepare = tt
failed_platform_down_proper down.PrepareLate = tt

after_platform_up_proper : (a : PlatUndo) → Proper (stage_after_platform_up a)
after_platform_up_proper undo.Recover = InResume
after_platform_up_proper undo.Wake = InResumeNoirq
after_platform_up_proper undo.Finish = InResume
after_platform_up_proper undo.End = tt

done_proper : (p : Phase) (r : Option Errno) → Proper (after_done p r)
done_proper phase.Prepare r = by_error_proper r (stage.Downs phase.Suspend) (failed_phase phase.Prepare) InSuspend tt
done_proper phase.Suspend r = by_error_proper r (stage_after_down phase.Suspend) (failed_phase phase.Suspend) tt tt
done_proper phase.Late r = by_error_proper r (stage_after_down phase.Late) (failed_phase phase.Late) InNoirq InEarly
done_proper phase.Noirq r = by_error_proper r (stage_after_down phase.Noirq) (failed_phase phase.Noirq) tt InResumeNoirq
done_proper phase.Syscore r = tt
done_proper phase.SyscoreResume r = tt
done_proper phase.ResumeNoirq r = InEarly
done_proper phase.Early r = tt
done_proper phase.Resume r = tt
done_proper phase.Complete r = tt

after_proper : (k : Kind) (before : Option Stage) → ProperIf before → ProperIf (stage_after k before)
after_proper (kind.NotifyPrepare x r) before h = by_error_proper r stage.Notifies stage.NotifiesPost tt tt
after_proper (kind.Froze g end) before h = by_froze_proper end (stage_after_freeze g) (failed_freeze g) (after_freeze_proper g) (failed_freeze_proper g)
after_proper (kind.PlatformDo step r) before h = by_error_proper r (stage_after_platform_down step) (failed_platform_down step) (after_platform_down_proper step) (failed_platform_down_proper step)
after_proper (kind.Done p r) before h = done_proper p r
after_proper (kind.Irqs on) before h = by_case_proper on stage.StartsCpus stage.ChecksWakeup tt tt
after_proper (kind.SyscoreCheck r) before h = by_error_proper r stage.StopsSyscore stage.StartsIrqs tt tt
after_proper (kind.SyscoreSuspend x r) before h = by_error_proper r stage.StopsSyscore stage.StartsSyscore tt tt
after_proper (kind.Enter busy) before h = by_case_proper busy stage.StartsSyscore stage.Enters tt tt
after_proper (kind.PlatformUndo step) before h = after_platform_up_proper step
after_proper (kind.Thaw thaw.Kernel) before h = tt
after_proper (kind.Thaw thaw.All) before h = tt
after_proper (kind.Attempt n guarded) before h = tt
after_proper (kind.Freeze g) before h = tt
after_proper (kind.CpuOff k) before h = tt
after_proper (kind.CpuBusy k) before h = tt
after_proper (kind.Wake e) before h = tt
after_proper (kind.SyscoreResume x) before h = tt
after_proper (kind.CpuOn k) before h = tt
after_proper kind.Clear before h = tt
after_proper (kind.NotifyPost x) before h = tt
after_proper (kind.Over n r) before h = tt
after_proper _ before h = h

-- the stage of an attempt is one of the table's
pub stage_proper : (past : List Entry) → ProperIf (stage_of past)
stage_proper [] = tt
stage_proper (e ∷ past) = after_proper e.kind (stage_of past) (stage_proper past)

-- ---- what a stage makes

notify_made : (m : Machine) (past : List Entry) (now : EventNow) (o : Option ℕ) → next_notified m past ≡ o → OnDue (Made m past now stage.Notifies) (Comes m past stage.Notifies (stage.Freezes group.User)) (if_left (λ x. kind.NotifyPrepare x (answered m past (what.Notifier x))) o)
notify_made m past now None e = PastNotifiers e
notify_made m past now (Some x) e = by_answer (answered m past (what.Notifier x))
  where
    by_answer : (r : Option Errno) → Made m past now stage.Notifies (kind.NotifyPrepare x r)
    by_answer None = Made.Notifies x e
    by_answer (Some r) = Made.NotifyFails x r e

froze_user_made : (m : Machine) (past : List Entry) (now : EventNow) (none : Type 0) (since : ℕ) (xs : List ℕ) → freeze_since past ≡ Some since → left m group.User past ≡ xs → OnDue (Made m past now (stage.Freezes group.User)) none (froze_due past now group.User since xs)
froze_user_made m past now none since [] s e = Made.FrozeUser since s e
froze_user_made m past now none since (x ∷ rest) s e =
    on_if _ _ (nat_le (gives_up_at since) (time_of past)) _ _ (λ t. Made.UserTimesOut since (length (x ∷ rest)) x s)
    (λ t. on_if _ _ (pending past now) _ _ (λ w. Made.UserWakes since (length (x ∷ rest)) x s w) (λ w. tt))

froze_kernel_made : (m : Machine) (past : List Entry) (now : EventNow) (none : Type 0) (since : ℕ) (xs : List ℕ) → freeze_since past ≡ Some since → left m group.Kernel past ≡ xs → OnDue (Made m past now (stage.Freezes group.Kernel)) none (froze_due past now group.Kernel since xs)
froze_kernel_made m past now none since [] s e = Made.FrozeKernel since s e
froze_kernel_made m past now none since (x ∷ rest) s e =
    on_if _ _ (nat_le (gives_up_at since) (time_of past)) _ _ (λ t. Made.KernelTimesOut since (length (x ∷ rest)) x s)
    (λ t. on_if _ _ (pending past now) _ _ (λ w. Made.KernelWakes since (length (x ∷ rest)) x s w) (λ w. tt))

freeze_user_made : (m : Machine) (past : List Entry) (now : EventNow) (none : Type 0) (since : Option ℕ) → freeze_since past ≡ since → OnDue (Made m past now (stage.Freezes group.User)) none (freeze_due m past now group.User since)
freeze_user_made m past now none None e = Made.FreezesUser e
freeze_user_made m past now none (Some since) e = froze_user_made m past now none since (left m group.User past) e refl

freeze_kernel_made : (m : Machine) (past : List Entry) (now : EventNow) (none : Type 0) (since : Option ℕ) → freeze_since past ≡ since → OnDue (Made m past now (stage.Freezes group.Kernel)) none (freeze_due m past now group.Kernel since)
freeze_kernel_made m past now none None e = Made.FreezesKernel e
freeze_kernel_made m past now none (Some since) e = froze_kernel_made m past now none since (left m group.Kernel past) e refl

ask_made : (m : Machine) (past : List Entry) (now : EventNow) (step : PlatDo) (r : Option Errno) → Made m past now (stage.PlatformDo step) (kind.PlatformDo step r)
ask_made m past now down.Begin None = Made.PlatformBegins
ask_made m past now down.Begin (Some r) = Made.BeginFails r
ask_made m past now down.Prepare None = Made.PlatformPrepares
ask_made m past now down.Prepare (Some r) = Made.PrepareFails r
ask_made m past now down.PrepareLate None = Made.PlatformPreparesLate
ask_made m past now down.PrepareLate (Some r) = Made.PrepareLateFails r

prepare_made : (m : Machine) (past : List Entry) (now : EventNow) (none : Type 0) (r : Option Errno) (o : Option ℕ) → phase_failed past ≡ r → next_prepared m past ≡ o → OnDue (Made m past now stage.Prepares) none (prepare_due m past r o)
prepare_made m past now none (Some r) o e f = Made.PreparesNot r e
prepare_made m past now none None (Some d) e f = Made.Prepares d (answer_number (answer m (what.Device d phase.Prepare) (attempts past))) e f
prepare_made m past now none None None e f = Made.Prepared e f

-- ---- a phase on the way down

-- no error is a callback's own if the phase has none
own_none_after : (k : Kind) (own : Bool) (mine all : Option Errno) → (all ≡ None → mine ≡ None) → phase_failed_after k all ≡ None → own_error_after k own mine ≡ None
own_none_after (kind.Attempt n guarded) own mine all h e = refl
own_none_after (kind.Done p r) own mine all h e = refl
own_none_after (kind.Prepare d r) own mine all h e = h (rest (error_of_number r) all e)
  where
    rest : (a b : Option Errno) → or_else a b ≡ None → b ≡ None
    rest None b e = e
    rest (Some x) b e = absurd (some≢none x e)
own_none_after (kind.End p d r) own mine all h e = by_own own r e
  where
    by_error_in : (down : Bool) (x : Errno) → cond down (Some x) all ≡ None → cond down (Some x) mine ≡ None
    by_error_in true x e = absurd (some≢none x e)
    by_error_in false x e = h e

    before_error : (down : Bool) (x : Errno) → cond down (Some x) all ≡ None → mine ≡ None
    before_error true x e = absurd (some≢none x e)
    before_error false x e = h e

    by_own : (own : Bool) (r : Option Errno) → error_in p r all ≡ None → unless_own own mine (error_in p r mine) ≡ None
    by_own true None e = h e
    by_own true (Some x) e = before_error (is_down p) x e
    by_own false None e = h e
    by_own false (Some x) e = by_error_in (is_down p) x e
own_none_after (kind.Skip p d skip.Pending) own mine all h e = absurd (some≢none EBUSY e)
own_none_after (kind.Skip p d skip.Error) own mine all h e = h e
own_none_after (kind.Skip p d skip.Direct) own mine all h e = h e
own_none_after _ own mine all h e = h e

-- if the phase has no error none is a synchronous callback's
pub no_own_error : (past : List Entry) → phase_failed past ≡ None → own_error past ≡ None
no_own_error [] e = refl
no_own_error (e ∷ past) f = own_none_after e.kind (is_device e.actor) (own_error past) (phase_failed past) (no_own_error past) f

well_answers : (past : List Entry) → phase_failed past ≡ None → phase_error past ≡ None
well_answers past e = rw (no_own_error past e) e

-- some error is answered if there is one
some_error : (mine all : Option Errno) (x : Errno) → all ≡ Some x → (r : Errno) × (or_else mine all ≡ Some r)
some_error None all x e = (x, e)
some_error (Some r) all x e = (r, refl)

fails_made : (m : Machine) (past : List Entry) (now : EventNow) (p : Phase) (r : Errno) → Down p → Breaks m past p r → Made m past now (stage.Downs p) (kind.Done p (Some r))
fails_made m past now _ r InSuspend b = Made.SuspendFails r b
fails_made m past now _ r InLate b = Made.LateFails r b
fails_made m past now _ r InNoirq b = Made.NoirqFails r b

settles_made : (m : Machine) (past : List Entry) (now : EventNow) (p : Phase) → Down p → Settles m past p → Made m past now (stage.Downs p) (kind.Done p None)
settles_made m past now _ InSuspend b = Made.SuspendEnds b
settles_made m past now _ InLate b = Made.LateEnds b
settles_made m past now _ InNoirq b = Made.NoirqEnds b

take_made : (m : Machine) (past : List Entry) (now : EventNow) (none : Type 0) (p : Phase) (d : ℕ) → Down p → callback past ≡ None → phase_failed past ≡ None → next_down m past p ≡ Some d → OnDue (Made m past now (stage.Downs p)) none (take_down m past now p d)
take_made m past now none p d down c f n =
    on_if _ _ (is_async_device m d) _ _ (λ a. Made.SchedulesDown p d down c f n a)
    (λ a. on_after _ _ (waits_for_subordinates m past p d) _ (λ w.
    let at : AtTurn m past p d = record { free = c; well = f; next = n; beside = a; waits = w } in
    by_taken at (tests_wakeup p) (pending past now) (is_direct m past p d) refl refl refl))
  where
    by_taken : AtTurn m past p d → (t b a : Bool) → tests_wakeup p ≡ t → pending past now ≡ b → is_direct m past p d ≡ a → Made m past now (stage.Downs p) (cond (t && b) (kind.Skip p d skip.Pending) (cond a (kind.Skip p d skip.Direct) (kind.Begin p d)))
    by_taken at true true a e f g = Made.FindsDown p d down at e f
    by_taken at true false true e f g = Made.LeavesDown p d down at (rw (e, f) refl) g
    by_taken at true false false e f g = Made.BeginsDown p d down at (rw (e, f) refl) g
    by_taken at false b true e f g = Made.LeavesDown p d down at (rw e refl) g
    by_taken at false b false e f g = Made.BeginsDown p d down at (rw e refl) g

walk_down_made : (m : Machine) (past : List Entry) (now : EventNow) (none : Type 0) (p : Phase) → Down p → callback past ≡ None → (r : Option Errno) (o : Option ℕ) → phase_failed past ≡ r → next_down m past p ≡ o → OnDue (Made m past now (stage.Downs p)) none (walk_down m past now p r o)
walk_down_made m past now none p down c (Some x) o f n =
    on_after _ _ (waits_down m past p) _ (λ w.
    let r : (y : Errno) × (phase_error past ≡ Some y) = some_error (own_error past) (phase_failed past) x f in
    subst (λ (z : Option Errno). Made m past now (stage.Downs p) (kind.Done p z)) (sym r.1) (fails_made m past now p r.0 down (record { free = c; first = x; fails = f; waits = w; answers = r.1 })))
walk_down_made m past now none p down c None None f n =
    on_after _ _ (waits_down m past p) _ (λ w.
    subst (λ (z : Option Errno). Made m past now (stage.Downs p) (kind.Done p z)) (sym (well_answers past f)) (settles_made m past now p down (record { free = c; well = f; next = n; waits = w })))
walk_down_made m past now none p down c None (Some d) f n = take_made m past now none p d down c f n

down_made : (m : Machine) (past : List Entry) (now : EventNow) (none : Type 0) (p : Phase) → Down p → (c : Option Callback) → callback past ≡ c → OnDue (Made m past now (stage.Downs p)) none (down_due m past now p c)
down_made m past now none p down (Some c) e = Made.EndsDown p c.phase c.device (device_error m past p c.device) down e
down_made m past now none p down None e = walk_down_made m past now none p down e (phase_failed past) (next_down m past p) refl refl

-- ---- a phase on the way up

rises_made : (m : Machine) (past : List Entry) (now : EventNow) (p : Phase) → Up p → Rises m past (mirror p) → Made m past now (stage.Ups p) (kind.Done p None)
rises_made m past now _ InResume b = Made.ResumeEnds b
rises_made m past now _ InEarly b = Made.EarlyEnds b
rises_made m past now _ InResumeNoirq b = Made.ResumeNoirqEnds b

walk_up_made : (m : Machine) (past : List Entry) (now : EventNow) (none : Type 0) (p : Phase) → Up p → callback past ≡ None → (g o : Option ℕ) → next_to_schedule m past (mirror p) ≡ g → next_up m past (mirror p) ≡ o → OnDue (Made m past now (stage.Ups p)) none (walk_up m past p g o)
walk_up_made m past now none p up c (Some d) o e f = Made.SchedulesUp p d up c e
walk_up_made m past now none p up c None (Some d) e f = on_after _ _ (waits_above m past (mirror p) d) _ (λ w. Made.BeginsUp p d up c e f w)
walk_up_made m past now none p up c None None e f = on_after _ _ (waits_up m past (mirror p)) _ (λ w. rises_made m past now p up (record { free = c; scheduled = e; next = f; waits = w }))

up_made : (m : Machine) (past : List Entry) (now : EventNow) (none : Type 0) (p : Phase) → Up p → (c : Option Callback) → callback past ≡ c → OnDue (Made m past now (stage.Ups p)) none (up_due m past p c)
up_made m past now none p up (Some c) e = Made.EndsUp p c.phase c.device (device_error m past p c.device) up e
up_made m past now none p up None e = walk_up_made m past now none p up e (next_to_schedule m past (mirror p)) (next_up m past (mirror p)) refl refl

-- ---- the other stages

cpu_made : (m : Machine) (past : List Entry) (now : EventNow) (o : Option ℕ) (b : Bool) → next_cpu_off m past ≡ o → pending past now ≡ b → OnDue (Made m past now stage.StopsCpus) (Comes m past stage.StopsCpus stage.StopsIrqs) (if_left (cpu_kind b) o)
cpu_made m past now None b e f = PastCpus e
cpu_made m past now (Some k) true e f = Made.FindsCpu k e f
cpu_made m past now (Some k) false e f = Made.StopsCpu k e f

check_made : (m : Machine) (past : List Entry) (now : EventNow) (b : Bool) → pending past now ≡ b → Made m past now stage.ChecksWakeup (kind.SyscoreCheck (busy_error b))
check_made m past now true e = Made.FindsCheck e
check_made m past now false e = Made.Checks e

stop_made : (m : Machine) (past : List Entry) (now : EventNow) (o : Option ℕ) → next_syscore_suspended m past ≡ o → OnDue (Made m past now stage.StopsSyscore) (Comes m past stage.StopsSyscore stage.Enters) (if_left (λ x. kind.SyscoreSuspend x (answered m past (what.Syscore x))) o)
stop_made m past now None e = PastParts e
stop_made m past now (Some x) e = by_answer (answered m past (what.Syscore x))
  where
    by_answer : (r : Option Errno) → Made m past now stage.StopsSyscore (kind.SyscoreSuspend x r)
    by_answer None = Made.StopsPart x e
    by_answer (Some r) = Made.PartFails x r e

enter_made : (m : Machine) (past : List Entry) (now : EventNow) (none : Type 0) (s : Option Sleep) (b : Bool) → sleep_of past ≡ s → pending past now ≡ b → OnDue (Made m past now stage.Enters) none (enter_due m past now s)
enter_made m past now none None b e f = subst (λ (z : Bool). Made m past now stage.Enters (kind.Enter z)) (sym f) (by_pending b f)
  where
    by_pending : (z : Bool) → pending past now ≡ z → Made m past now stage.Enters (kind.Enter z)
    by_pending true g = Made.EntersNot e g
    by_pending false g = Made.Enters e g
enter_made m past now none (Some s) b e f =
    on_if (Made m past now stage.Enters) none (nat_lt s.pos (position now)) _ _ (λ t. Made.Wakes s true e)
    (λ t. on_if (Made m past now stage.Enters) none (nat_le (s.since + m.alarm_ms) (time_of past)) _ _ (λ u. Made.Wakes s false e) (λ u. tt))

start_made : (m : Machine) (past : List Entry) (now : EventNow) (o : Option ℕ) → next_syscore_resumed m past ≡ o → OnDue (Made m past now stage.StartsSyscore) (Comes m past stage.StartsSyscore stage.StartsIrqs) (if_left kind.SyscoreResume o)
start_made m past now None e = PastPartsUp e
start_made m past now (Some x) e = Made.StartsPart x e

cpu_on_made : (m : Machine) (past : List Entry) (now : EventNow) (o : Option ℕ) → next_cpu_on m past ≡ o → OnDue (Made m past now stage.StartsCpus) (Comes m past stage.StartsCpus (stage.PlatformUndo undo.Wake)) (if_left kind.CpuOn o)
cpu_on_made m past now None e = PastCpusUp e
cpu_on_made m past now (Some x) e = Made.StartsCpu x e

complete_made : (m : Machine) (past : List Entry) (now : EventNow) (none : Type 0) (o : Option ℕ) → next_completed m past ≡ o → OnDue (Made m past now stage.Completes) none (complete_due o)
complete_made m past now none None e = Made.Completed e
complete_made m past now none (Some d) e = Made.Completes d e

post_made : (m : Machine) (past : List Entry) (now : EventNow) (o : Option ℕ) → next_post_notified m past ≡ o → OnDue (Made m past now stage.NotifiesPost) (Comes m past stage.NotifiesPost stage.Ends) (if_left kind.NotifyPost o)
post_made m past now None e = PastPosts e
post_made m past now (Some x) e = Made.Posts x e

-- what is made at a stage, or that it has nothing left
stage_made : (m : Machine) (past : List Entry) (now : EventNow) (here : Stage) → Proper here → OnDue (Made m past now here) (Comes m past here (next_stage here)) (stage_due m past now here)
stage_made m past now stage.Notifies h = notify_made m past now (next_notified m past) refl
stage_made m past now (stage.Freezes group.User) h = freeze_user_made m past now _ (freeze_since past) refl
stage_made m past now (stage.Freezes group.Kernel) h = freeze_kernel_made m past now _ (freeze_since past) refl
stage_made m past now (stage.PlatformDo step) h = ask_made m past now step (answered m past (what.Platform step))
stage_made m past now stage.Prepares h = prepare_made m past now _ (phase_failed past) (next_prepared m past) refl refl
stage_made m past now (stage.Downs p) h = down_made m past now _ p h (callback past) refl
stage_made m past now stage.StopsCpus h = cpu_made m past now (next_cpu_off m past) (pending past now) refl refl
stage_made m past now stage.StopsIrqs h = Made.StopsIrqs
stage_made m past now stage.ChecksWakeup h = check_made m past now (pending past now) refl
stage_made m past now stage.StopsSyscore h = stop_made m past now (next_syscore_suspended m past) refl
stage_made m past now stage.Enters h = enter_made m past now _ (sleep_of past) (pending past now) refl refl
stage_made m past now stage.StartsSyscore h = start_made m past now (next_syscore_resumed m past) refl
stage_made m past now stage.StartsIrqs h = Made.StartsIrqs
stage_made m past now stage.StartsCpus h = cpu_on_made m past now (next_cpu_on m past) refl
stage_made m past now (stage.PlatformUndo undo.Wake) h = Made.PlatformWakes
stage_made m past now (stage.PlatformUndo undo.Finish) h = Made.PlatformFinishes
stage_made m past now (stage.PlatformUndo undo.Recover) h = Made.PlatformRecovers
stage_made m past now (stage.PlatformUndo undo.End) h = Made.PlatformEnds
stage_made m past now (stage.Ups p) h = up_made m past now _ p h (callback past) refl
stage_made m past now stage.Completes h = complete_made m past now _ (next_completed m past) refl
stage_made m past now stage.ClearsEventsCheck h = Made.Clears
stage_made m past now (stage.Thaws thaw.Kernel) h = Made.ThawsKernel
stage_made m past now (stage.Thaws thaw.All) h = Made.ThawsAll
stage_made m past now stage.NotifiesPost h = post_made m past now (next_post_notified m past) refl
stage_made m past now stage.Ends h = Made.Ends

-- ---- the stage that the maker comes to

-- what is made at a stage, or at the one after it
pub data AtStage (m : Machine) (past : List Entry) (now : EventNow) (here : Stage) (k : Kind) : Type 0 where
  Come : (there : Stage) → Comes m past here there → Made m past now there k → AtStage m past now here k

next_proper : (m : Machine) (past : List Entry) (here there : Stage) → Comes m past here there → Proper here → Proper there
next_proper m past _ _ (AtOnce s) h = h
next_proper m past _ _ (PastNotifiers e) h = tt
next_proper m past _ _ (PastCpus e) h = tt
next_proper m past _ _ (PastParts e) h = tt
next_proper m past _ _ (PastPartsUp e) h = tt
next_proper m past _ _ (PastCpusUp e) h = tt
next_proper m past _ _ (PastPosts e) h = tt

or_next_made : (m : Machine) (past : List Entry) (now : EventNow) (here there : Stage) (none : Type 0) (x y : Due) → OnDue (Made m past now here) (Comes m past here there) x → (Comes m past here there → OnDue (Made m past now there) none y) → OnDue (AtStage m past now here) none (or_next x y)
or_next_made m past now here there none (Makes k) y h f = Come here (AtOnce here) h
or_next_made m past now here there none (Waits w) y h f = tt
or_next_made m past now here there none Nothing (Makes k) h f = Come there h (f h)
or_next_made m past now here there none Nothing (Waits w) h f = tt
or_next_made m past now here there none Nothing Nothing h f = f h

at_made : (m : Machine) (past : List Entry) (now : EventNow) (here : Stage) → Proper here → OnDue (AtStage m past now here) (Comes m past (next_stage here) (next_stage (next_stage here))) (stage_or_next m past now here)
at_made m past now here h =
    or_next_made m past now here (next_stage here) _ (stage_due m past now here) (stage_due m past now (next_stage here)) (stage_made m past now here h)
    (λ c. stage_made m past now (next_stage here) (next_proper m past here (next_stage here) c h))

abbrev pub OnlyMade : (Kind → Type 0) → Due → Type 0
OnlyMade P (Makes k) = P k
OnlyMade P _ = Unit {0}

pub maker_made : (m : Machine) (past : List Entry) (now : EventNow) (who : Actor) → is_actor who (maker past) ≡ true → (o : Option Stage) → stage_of past ≡ o → ProperIf o → OnlyMade (EntryMade m past now who) (due_at m past now o)
maker_made m past now who a None e h = tt
maker_made m past now who a (Some here) e h = by_due (stage_or_next m past now here) (at_made m past now here h)
  where
    by_due : (x : Due) → OnDue (AtStage m past now here) (Comes m past (next_stage here) (next_stage (next_stage here))) x → OnlyMade (EntryMade m past now who) x
    by_due (Makes k) (Come there c d) = ByMaker who here there k a e c d
    by_due (Waits w) h = tt
    by_due Nothing h = tt
