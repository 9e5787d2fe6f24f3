-- Inside an attempt: what its maker makes by all rules is what is due at the row.
use Rattle.std.proofs.Common.{◌≡◌, ◌∙◌, ℕ, Bool, true, false, List, Option, Some, None, is_some, refl, sym, ap, subst}
use Rattle.sleep_base.specs.declared.errno.Errno.{Errno}
use Rattle.sleep_model.specs.declared.entry.Entry.{Entry}
use Rattle.sleep_model.specs.declared.entry.FrozeEnd.{FrozeEnd}
use Rattle.sleep_model.specs.declared.entry.Group.{Group}
use Rattle.sleep_model.specs.declared.entry.Kind.{Kind}
use Rattle.sleep_model.specs.declared.entry.Kind.TheVariants as kind
use Rattle.sleep_model.specs.declared.machine.Machine.{Machine}
use Rattle.sleep_model.specs.declared.progress.Callback.{Callback}
use Rattle.sleep_model.specs.declared.progress.Due.TheVariants.{Makes}
use Rattle.sleep_model.specs.declared.progress.Sleep.{Sleep}
use Rattle.sleep_model.specs.declared.progress.Stage.{Stage}
use Rattle.sleep_model.specs.declared.progress.Stage.TheVariants as stage
use Rattle.sleep_model.specs.declared.word.EventNow.{EventNow}
use Rattle.phase_table.specs.declared.phase.Phase.{Phase}
use Rattle.phase_table.specs.declared.phase.Phase.TheVariants as phase
use Rattle.sleep_model.specs.Attempt.{enter_due, freeze_due, freeze_since, sleep_of, stage_due}
use Rattle.sleep_model.specs.Devices.{callback, device_error, down_due, is_async_device, next_down, next_prepared, phase_error, phase_failed, prepare_due, taken, unless_failed, up_due, waits_down, walk_down}
use Rattle.sleep_laws.proofs.Made.{Down, InSuspend, InLate, InNoirq, Up, InResume, InEarly, InResumeNoirq}
use Rattle.sleep_laws.proofs.Making.{Proper}
use Rattle.rule_definitions.specs.Answers.{KeepsAnswers, phase_answer}
use Rattle.rule_definitions.specs.Attempts.{KeepsAttempts}
use Rattle.rule_definitions.specs.Enabled.{WakesBy}
use Rattle.rule_definitions.specs.Freezer.{FreezeEnds}
use Rattle.rule_definitions.specs.Path.{IsOfRow, IsOfDown, IsOfUp}
use Rattle.rule_definitions.specs.Questions.{row_now, turn_of}
use Rattle.rule_definitions.specs.Skip.{KeepsSkip, IsTurn, IsNextDown}
use Rattle.rule_definitions.specs.Steps.{IsMakerStep}
use Rattle.rule_definitions.specs.Walk.{KeepsWalk, PreparesAt, CompletesAt, SchedulesAt, BeginsAt, BeginsBy, IsInside, EndsAt, EndsBy, is_done, DoneAt}
use Rattle.log_rules.proofs.Facts.{never}

-- ---- what phases answer

pub down_answer : (past : List Entry) (p : Phase) → Down p → phase_answer past p ≡ phase_error past
down_answer past _ InSuspend = refl
down_answer past _ InLate = refl
down_answer past _ InNoirq = refl

pub up_answer : (past : List Entry) (p : Phase) → Up p → phase_answer past p ≡ None
up_answer past _ InResume = refl
up_answer past _ InEarly = refl
up_answer past _ InResumeNoirq = refl

-- ---- single rows

froze_back : (m : Machine) (past : List Entry) (now : EventNow) (g : Group) (end : FrozeEnd) (o : Option ℕ) → FreezeEnds m past now o (kind.Froze g end) → freeze_due m past now g o ≡ Makes (kind.Froze g end)
froze_back m past now g end None h = absurd h
froze_back m past now g end (Some since) h = h

prepare_done : (m : Machine) (past : List Entry) (error : Option Errno) (next : Option ℕ) → is_done error next ≡ true → prepare_due m past error next ≡ Makes (kind.Done phase.Prepare error)
prepare_done m past None None h = refl
prepare_done m past None (Some d) h = never h
prepare_done m past (Some r) next h = refl

wake_back : (m : Machine) (past : List Entry) (now : EventNow) (by_event : Bool) (o : Option Sleep) → is_some o ≡ true → WakesBy m past now o (kind.Wake by_event) → enter_due m past now o ≡ Makes (kind.Wake by_event)
wake_back m past now b None s h = never s
wake_back m past now b (Some x) s h = h

-- ---- a phase on the way down

taken_back : (m : Machine) (past : List Entry) (now : EventNow) (p : Phase) (d : ℕ) (k : Kind) → is_async_device m d ≡ false → IsNextDown m past p d → turn_of m past now p d ≡ k → down_due m past now p (callback past) ≡ Makes k
taken_back m past now p d k a h t =
    let well : unless_failed None p d (taken m past now p d) ≡ k = subst (λ (o : Option Errno). unless_failed o p d (taken m past now p d) ≡ k) h.well t in
    rw (h.free) (rw (h.well) (rw (h.next) (rw a (rw (h.waits) (ap Makes well)))))

end_down : (m : Machine) (past : List Entry) (now : EventNow) (p : Phase) (d : ℕ) (o : Option Callback) → IsInside d o → down_due m past now p o ≡ Makes (kind.End p d (device_error m past p d))
end_down m past now p d None h = absurd h
end_down m past now p d (Some c) h = rw h refl

done_down : (m : Machine) (past : List Entry) (now : EventNow) (p : Phase) (error : Option Errno) (next : Option ℕ) → waits_down m past p ≡ None → is_done error next ≡ true → walk_down m past now p error next ≡ Makes (kind.Done p (phase_error past))
done_down m past now p None None w h = rw w refl
done_down m past now p None (Some d) w h = never h
done_down m past now p (Some r) next w h = rw w refl

down_back : (m : Machine) (past : List Entry) (now : EventNow) (p : Phase) (k : Kind) → Down p → row_now m past ≡ Some (stage.Downs p) → IsOfDown p k → KeepsWalk m past now k → KeepsSkip m past now k → KeepsAnswers past k → IsMakerStep m k → down_due m past now p (callback past) ≡ Makes k
down_back m past now p (kind.Schedule q d) i e o w s n b =
    let h : SchedulesAt m past q d (Some (stage.Downs p)) = subst (SchedulesAt m past q d) e w in
    rw (h.1) (rw (h.2) (rw (h.3) (rw (h.4) (rw (h.0) refl))))
down_back m past now p (kind.Begin q d) i e o w s n b =
    let h : BeginsAt m past now q d (Some (stage.Downs p)) = subst (BeginsAt m past now q d) e (subst (λ (x : Bool). BeginsBy m past now q d x (row_now m past)) b w) in
    taken_back m past now p d (kind.Begin p d) b h.1 h.2 ∙ ap (λ x. Makes (kind.Begin x d)) (sym o)
down_back m past now p (kind.Skip q d cause) i e o w s n b =
    let h : IsTurn m past q d false (Some (stage.Downs p)) = subst (IsTurn m past q d false) e (subst (λ (x : Bool). IsTurn m past q d x (row_now m past)) b s.0) in
    let turn : turn_of m past now p d ≡ kind.Skip p d cause = subst (λ (x : Phase). turn_of m past now x d ≡ kind.Skip x d cause) o s.1 in
    taken_back m past now p d (kind.Skip p d cause) b h.1 turn ∙ ap (λ x. Makes (kind.Skip x d cause)) (sym o)
down_back m past now p (kind.End q d r) i e o w s n b =
    let h : EndsAt past q d (Some (stage.Downs p)) = subst (EndsAt past q d) e (subst (λ (x : Bool). EndsBy m past q d x (row_now m past)) b w.0) in
    let same : kind.End p d (device_error m past p d) ≡ kind.End q d r = rw (w.1) (rw o refl) in
    end_down m past now p d (callback past) h.1 ∙ ap Makes same
down_back m past now p (kind.Done q r) i e o w s n b =
    let h : DoneAt m past q (Some (stage.Downs p)) = subst (DoneAt m past q) e w in
    let answers : r ≡ phase_error past = n ∙ ap (phase_answer past) o ∙ down_answer past p i in
    let same : kind.Done p (phase_error past) ≡ kind.Done q r = rw answers (rw o refl) in
    rw (h.1.free) (done_down m past now p (phase_failed past) (next_down m past p) h.1.waits h.1.through ∙ ap Makes same)
down_back m past now p _ i e o w s n b = absurd o

-- ---- a phase on the way up

end_up : (m : Machine) (past : List Entry) (p : Phase) (d : ℕ) (o : Option Callback) → IsInside d o → up_due m past p o ≡ Makes (kind.End p d (device_error m past p d))
end_up m past p d None h = absurd h
end_up m past p d (Some c) h = rw h refl

up_back : (m : Machine) (past : List Entry) (now : EventNow) (p : Phase) (k : Kind) → Up p → row_now m past ≡ Some (stage.Ups p) → IsOfUp p k → KeepsWalk m past now k → KeepsAnswers past k → IsMakerStep m k → up_due m past p (callback past) ≡ Makes k
up_back m past now p (kind.Schedule q d) i e o w n b =
    let h : SchedulesAt m past q d (Some (stage.Ups p)) = subst (SchedulesAt m past q d) e w in
    rw (h.1) (rw (h.2) (rw (h.0) refl))
up_back m past now p (kind.Begin q d) i e o w n b =
    let h : BeginsAt m past now q d (Some (stage.Ups p)) = subst (BeginsAt m past now q d) e (subst (λ (x : Bool). BeginsBy m past now q d x (row_now m past)) b w) in
    rw (h.1.free) (rw (h.1.scheduled) (rw (h.1.next) (rw (h.1.waits) (rw o refl))))
up_back m past now p (kind.End q d r) i e o w n b =
    let h : EndsAt past q d (Some (stage.Ups p)) = subst (EndsAt past q d) e (subst (λ (x : Bool). EndsBy m past q d x (row_now m past)) b w.0) in
    let same : kind.End p d (device_error m past p d) ≡ kind.End q d r = rw (w.1) (rw o refl) in
    end_up m past p d (callback past) h.1 ∙ ap Makes same
up_back m past now p (kind.Done q r) i e o w n b =
    let h : DoneAt m past q (Some (stage.Ups p)) = subst (DoneAt m past q) e w in
    let answers : r ≡ None = n ∙ ap (phase_answer past) o ∙ up_answer past p i in
    rw (h.1.free) (rw (h.1.scheduled) (rw (h.1.next) (rw (h.1.waits) (rw answers (rw o refl)))))
up_back m past now p _ i e o w n b = absurd o

-- ---- all rows

pub row_back : (m : Machine) (past : List Entry) (now : EventNow) (s : Stage) (k : Kind) → Proper s → row_now m past ≡ Some s → IsOfRow m past now s k → KeepsAttempts past k → KeepsWalk m past now k → KeepsSkip m past now k → FreezeEnds m past now (freeze_since past) k → KeepsAnswers past k → WakesBy m past now (sleep_of past) k → IsMakerStep m k → stage_due m past now s ≡ Makes k
row_back m past now stage.Notifies (kind.NotifyPrepare x r) i e o a w s f n z b = rw (o.0, o.1) refl
row_back m past now (stage.Freezes g) (kind.Freeze h) i e o a w s f n z b = rw (o.0, o.1) refl
row_back m past now (stage.Freezes g) (kind.Froze h end) i e o a w s f n z b =
    subst (λ (x : Group). freeze_due m past now x (freeze_since past) ≡ Makes (kind.Froze h end)) o.0 (froze_back m past now h end (freeze_since past) f)
row_back m past now (stage.PlatformDo step) (kind.PlatformDo asked r) i e o a w s f n z b = rw (o.0, o.1) refl
row_back m past now stage.Prepares (kind.Prepare d r) i e o a w s f n z b =
    let h : PreparesAt m past d r (Some stage.Prepares) = subst (PreparesAt m past d r) e w in
    rw (h.0, h.1, h.2) refl
row_back m past now stage.Prepares (kind.Done q r) i e o a w s f n z b =
    let h : DoneAt m past q (Some stage.Prepares) = subst (DoneAt m past q) e w in
    let answers : r ≡ phase_failed past = n ∙ ap (phase_answer past) o in
    let same : kind.Done phase.Prepare (phase_failed past) ≡ kind.Done q r = rw answers (rw o refl) in
    prepare_done m past (phase_failed past) (next_prepared m past) h.1 ∙ ap Makes same
row_back m past now (stage.Downs p) k i e o a w s f n z b = down_back m past now p k i e o w s n b
row_back m past now stage.StopsCpus (kind.CpuOff x) i e o a w s f n z b = rw (o.0, o.1) refl
row_back m past now stage.StopsCpus (kind.CpuBusy x) i e o a w s f n z b = rw (o.0, o.1) refl
row_back m past now stage.StopsIrqs (kind.Irqs on) i e o a w s f n z b = rw o refl
row_back m past now stage.ChecksWakeup (kind.SyscoreCheck r) i e o a w s f n z b = rw o refl
row_back m past now stage.StopsSyscore (kind.SyscoreSuspend x r) i e o a w s f n z b = rw (o.0, o.1) refl
row_back m past now stage.Enters (kind.Enter busy) i e o a w s f n z b = rw (o.0, o.1) refl
row_back m past now stage.Enters (kind.Wake by_event) i e o a w s f n z b = wake_back m past now by_event (sleep_of past) o z
row_back m past now stage.StartsSyscore (kind.SyscoreResume x) i e o a w s f n z b = rw o refl
row_back m past now stage.StartsIrqs (kind.Irqs on) i e o a w s f n z b = rw o refl
row_back m past now stage.StartsCpus (kind.CpuOn x) i e o a w s f n z b = rw o refl
row_back m past now (stage.PlatformUndo step) (kind.PlatformUndo notified_flags) i e o a w s f n z b = rw o refl
row_back m past now (stage.Ups p) k i e o a w s f n z b = up_back m past now p k i e o w n b
row_back m past now stage.Completes (kind.Complete d) i e o a w s f n z b =
    let h : CompletesAt m past d (Some stage.Completes) = subst (CompletesAt m past d) e w in
    rw h refl
row_back m past now stage.Completes (kind.Done q r) i e o a w s f n z b =
    let h : DoneAt m past q (Some stage.Completes) = subst (DoneAt m past q) e w in
    let answers : r ≡ None = n ∙ ap (phase_answer past) o in
    rw (h.1) (rw answers (rw o refl))
row_back m past now stage.ClearsEventsCheck kind.Clear i e o a w s f n z b = refl
row_back m past now (stage.Thaws those) (kind.Thaw notified_flags) i e o a w s f n z b = rw o refl
row_back m past now stage.NotifiesPost (kind.NotifyPost x) i e o a w s f n z b = rw o refl
row_back m past now stage.Ends (kind.Over n r) i e o a w s f x z b = rw (a.0, x.0) refl
row_back m past now _ _ i e o a w s f n z b = absurd o
