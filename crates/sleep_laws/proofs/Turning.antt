-- An entry of a device leaves the devices in states that they may have: the maker's walks, prepare and complete, and the device's own
-- entries.
use Rattle.std.proofs.Common.{◌≡◌, ◌∙◌, ℕ, ℤ, pos, negsuc, Bool, true, false, not, ◌&&◌, List, ◌∷◌, is_some, Option, Some, None, refl, sym, ap, subst}
use Rattle.std.proofs.lemmas.Bool.{true≢false}
use Rattle.sleep_base.specs.declared.errno.Errno.{Errno}
use Rattle.sleep_model.specs.declared.entry.Actor.{Actor}
use Rattle.sleep_model.specs.declared.entry.Actor.TheVariants as actor
use Rattle.sleep_model.specs.declared.entry.Entry.{Entry}
use Rattle.sleep_model.specs.declared.entry.Kind.{Kind}
use Rattle.sleep_model.specs.declared.entry.Kind.TheVariants as kind
use Rattle.sleep_model.specs.declared.entry.SkipCause.TheVariants as skip
use Rattle.sleep_model.specs.declared.machine.Machine.{Machine}
use Rattle.sleep_model.specs.declared.progress.Callback.{Callback}
use Rattle.sleep_model.specs.declared.progress.Stage.{Stage}
use Rattle.sleep_model.specs.declared.progress.Stage.TheVariants as stage
use Rattle.sleep_model.specs.declared.progress.PhaseState.{PhaseState}
use Rattle.sleep_model.specs.declared.progress.PhaseState.TheVariants as state
use Rattle.sleep_model.specs.declared.word.EventNow.{EventNow}
use Rattle.phase_table.specs.declared.phase.Phase.{Phase}
use Rattle.phase_table.specs.declared.phase.Phase.TheVariants as phase
use Rattle.phase_table.specs.Phases.{mirror}
use Rattle.sleep_model.specs.Devices.{callback, unless_own, phase_failed, error_in, is_device, is_async_device, is_direct, state_in, next_down, next_up, next_to_schedule, next_prepared}
use Rattle.sleep_model.specs.Order.{order, is_among}
use Rattle.sleep_model.specs.PhaseStates.{is_unprepared, is_prepared, is_ready, is_down_in, is_direct_complete, ended_by, device_of}
use Rattle.sleep_laws.proofs.Boards.{Three, at, at_is, three, three_after, moved_all, moved_other, moved_own, turned, turned_down, turned_up, all_three, mirror_down, first_found, last_found}
use Rattle.sleep_laws.proofs.Made.{Down, InSuspend, InLate, InNoirq, Up, InResume, InEarly, InResumeNoirq, AtTurn, DeviceMade}
use Rattle.sleep_laws.proofs.Moods.{Mood, Fresh, Risen, mood_if, in_down, in_up, allows}
use Rattle.sleep_laws.proofs.DevicePhases.{IsFine, unprepared_fine, prepared_fine, fine_else, errs, Fines, Inside, InsideIf, CallIf, DevicePhases, turn, going_allows, coming_allows, scheduled_goes, suspending_goes, rescheduled_comes, resuming_comes, ready_is, down_is, fails_error, error_stays, ended_prepared, ended_apart, ended_scheduled, is_full_if}

pub never : {A : Type 0} → false ≡ true → A
never e = absurd (true≢false (sym e))

and_both : (a b : Bool) → (a && b) ≡ true → (a ≡ true) × (b ≡ true)
and_both true true e = (refl, refl)
and_both true false e = never e
and_both false b e = never e

-- if no callback runs
pub free_call : (m : Machine) (o : Option Callback) (s : PhaseState) (p : Phase) (states : ℕ → Three) → o ≡ None → InsideIf m o s p states
free_call m o s p states e = subst (λ (x : Option Callback). InsideIf m x s p states) (sym e) tt

pub turned_at : (p : Phase) (s : PhaseState) (up t : Three) → Down p → at (turned p s up t) p ≡ s
turned_at _ s up t InSuspend = refl
turned_at _ s up t InLate = refl
turned_at _ s up t InNoirq = refl

pub turned_mirror : (p : Phase) (other s : PhaseState) (t : Three) → Up p → at (turned p other (all_three s) t) (mirror p) ≡ s
turned_mirror _ other s t InResume = refl
turned_mirror _ other s t InEarly = refl
turned_mirror _ other s t InResumeNoirq = refl

-- ---- the maker's walk down

module _ (m : Machine) (past : List Entry) (time : ℕ) (now : EventNow) (who : Actor) (task : is_device who ≡ false) where
  -- an entry of the maker
  abbrev by : Kind → Entry
  by k = record { time = time; now = now; actor = who; kind = k }

  pub ready_stands : (p : Phase) (d : ℕ) → next_down m past p ≡ Some d → state_in m past p d ≡ state.Prepared
  ready_stands p d n = ready_is (state_in m past p d) (last_found (λ x. is_ready (state_in m past p x)) (order m past) d n).passes

  pub schedules_down : (p : Phase) (d : ℕ) → Down p → callback past ≡ None → next_down m past p ≡ Some d → is_async_device m d ≡ true → DevicePhases m past (Some (stage.Downs p)) → DevicePhases m (by (kind.Schedule p d) ∷ past) (Some (stage.Downs p))
  schedules_down p d i c n a h = (
    turn m past (by (kind.Schedule p d)) d refl (in_down p) true h.0 p i state.Prepared state.Scheduled (ready_stands p d n) refl refl refl
        (going_allows p i (errs past) state.Scheduled refl) (λ x. x) (λ x. never x) (λ x. a)
        (λ q j. turned_down p q state.Scheduled (all_three state.Rescheduled) (three m past d) i j),
    free_call m (callback past) state.Suspending p (three m (by (kind.Schedule p d) ∷ past)) c,
  )

  pub finds_down : (p : Phase) (d : ℕ) → Down p → AtTurn m past p d → DevicePhases m past (Some (stage.Downs p)) → DevicePhases m (by (kind.Skip p d skip.Pending) ∷ past) (Some (stage.Downs p))
  finds_down p d i t h = (
    turn m past (by (kind.Skip p d skip.Pending)) d refl (in_down p) true h.0 p i state.Prepared state.Failed (ready_stands p d t.next) refl refl refl
        (going_allows p i true state.Failed refl) (λ x. refl) (λ x. never x) (λ x. never x)
        (λ q j. turned_down p q state.Failed (three m past d) (three m past d) i j),
    free_call m (callback past) state.Suspending p (three m (by (kind.Skip p d skip.Pending) ∷ past)) t.free,
  )

  direct_alone : (p : Phase) (d : ℕ) → Down p → is_direct m past p d ≡ true → is_direct_complete (three_after (kind.Skip p d skip.Direct) (three m past d)).suspend ≡ true
  direct_alone _ d InSuspend e = refl
  direct_alone _ d InLate e = e
  direct_alone _ d InNoirq e = e

  pub leaves_down : (p : Phase) (d : ℕ) → Down p → AtTurn m past p d → is_direct m past p d ≡ true → DevicePhases m past (Some (stage.Downs p)) → DevicePhases m (by (kind.Skip p d skip.Direct) ∷ past) (Some (stage.Downs p))
  leaves_down p d i t a h = (
    turn m past (by (kind.Skip p d skip.Direct)) d refl (in_down p) true h.0 p i state.Prepared state.Direct (ready_stands p d t.next) refl refl refl
        (going_allows p i (errs past) state.Direct refl) (λ x. x) (λ x. direct_alone p d i a) (λ x. never x)
        (λ q j. turned_down p q state.Direct (three m past d) (three m past d) i j),
    free_call m (callback past) state.Suspending p (three m (by (kind.Skip p d skip.Direct) ∷ past)) t.free,
  )

  -- a device that is prepared in one phase is prepared
  pub prepared_all : (moods : Phase → Mood) (full : Bool) → Fines m past moods full → (p : Phase) (d : ℕ) (s : PhaseState) → Down p → state_in m past p d ≡ s → is_prepared s ≡ true → is_prepared (state_in m past phase.Suspend d) ≡ true
  prepared_all moods full h p d s i e r = sym ((h d).alike p i) ∙ (ap is_prepared (at_is m past p d i ∙ e) ∙ r)

  -- the maker runs a callback
  runs_call : (c : Callback) (s : PhaseState) (p : Phase) (states : ℕ → Three) → Inside m c s p states → InsideIf m (unless_own (is_device who) (callback past) (Some c)) s p states
  runs_call c s p states x = subst (λ (b : Bool). InsideIf m (unless_own b (callback past) (Some c)) s p states) (sym task) x

  ends_call : (s : PhaseState) (p : Phase) (states : ℕ → Three) → InsideIf m (unless_own (is_device who) (callback past) None) s p states
  ends_call s p states = subst (λ (b : Bool). InsideIf m (unless_own b (callback past) None) s p states) (sym task) tt

  pub begins_down : (p : Phase) (d : ℕ) → Down p → AtTurn m past p d → DevicePhases m past (Some (stage.Downs p)) → DevicePhases m (by (kind.Begin p d) ∷ past) (Some (stage.Downs p))
  begins_down p d i t h = (
    turn m past (by (kind.Begin p d)) d refl (in_down p) true h.0 p i state.Prepared state.Suspending (ready_stands p d t.next) refl refl refl
        (going_allows p i (errs past) state.Suspending refl) (λ x. x) (λ x. never x) (λ x. never x)
        (λ q j. turned_down p q state.Suspending (all_three state.Resuming) (three m past d) i j),
    runs_call (record { phase = p; device = d }) state.Suspending p (three m (by (kind.Begin p d) ∷ past)) (record {
      beside = t.beside;
      inside =
          ap (λ (x : Three). at x p) (moved_own m past (by (kind.Begin p d)) d refl (prepared_all (in_down p) true h.0 p d state.Prepared i (ready_stands p d t.next) refl))
          ∙ turned_at p state.Suspending (all_three state.Resuming) (three m past d) i;
    }),
  )

  pub called : (o : Option Callback) (c : Callback) (s : PhaseState) (p : Phase) (states : ℕ → Three) → o ≡ Some c → InsideIf m o s p states → Inside m c s p states
  called o c s p states e h = subst (λ (x : Option Callback). InsideIf m x s p states) e h

  pub ends_down : (p q : Phase) (d : ℕ) (r : Option Errno) → Down p → callback past ≡ Some (record { phase = q; device = d }) → DevicePhases m past (Some (stage.Downs p)) → DevicePhases m (by (kind.End p d r) ∷ past) (Some (stage.Downs p))
  ends_down p q d r i c h =
      let x : Inside m (record { phase = q; device = d }) state.Suspending p (three m past) = called (callback past) (record { phase = q; device = d }) state.Suspending p (three m past) c h.1 in (
        turn m past (by (kind.End p d r)) d refl (in_down p) true h.0 p i state.Suspending (ended_by r) (sym (at_is m past p d i) ∙ x.inside) refl refl (ended_prepared r)
            (going_allows p i (is_some (error_in p r (phase_failed past))) (ended_by r) (fails_error p i r (phase_failed past))) (error_stays p r (phase_failed past))
            (λ y. absurd (true≢false (sym y ∙ ended_apart r))) (λ y. absurd (true≢false (sym y ∙ ended_scheduled r)))
            (λ k j. turned_down p k (ended_by r) (all_three state.Resumed) (three m past d) i j),
        ends_call state.Suspending p (three m (by (kind.End p d r) ∷ past)),
      )

  -- ---- the maker's walk up

  pub scheduled_stands : (p : Phase) (d : ℕ) → next_to_schedule m past p ≡ Some d → (state_in m past p d ≡ state.Suspended) × (is_async_device m d ≡ true)
  scheduled_stands p d n =
      let x = and_both (is_down_in (state_in m past p d)) (is_async_device m d) (first_found (λ y. is_down_in (state_in m past p y) && is_async_device m y) (order m past) d n).passes in
      (down_is (state_in m past p d) x.0, x.1)

  pub up_stands : (p : Phase) (d : ℕ) → next_up m past p ≡ Some d → (state_in m past p d ≡ state.Suspended) × (is_async_device m d ≡ false)
  up_stands p d n =
      let x = and_both (is_down_in (state_in m past p d)) (not (is_async_device m d)) (first_found (λ y. is_down_in (state_in m past p y) && not (is_async_device m y)) (order m past) d n).passes in
      (down_is (state_in m past p d) x.0, not_true (is_async_device m d) x.1)
    where
      not_true : (b : Bool) → not b ≡ true → b ≡ false
      not_true true e = never e
      not_true false e = refl

  pub schedules_up : (p : Phase) (d : ℕ) → Up p → callback past ≡ None → next_to_schedule m past (mirror p) ≡ Some d → DevicePhases m past (Some (stage.Ups p)) → DevicePhases m (by (kind.Schedule p d) ∷ past) (Some (stage.Ups p))
  schedules_up p d u c n h =
      let x = scheduled_stands (mirror p) d n in (
        turn m past (by (kind.Schedule p d)) d refl (in_up p) false h.0 (mirror p) (mirror_down p u) state.Suspended state.Rescheduled x.0 refl refl refl
            (coming_allows p u (errs past) state.Rescheduled refl) (λ y. y) (λ y. never y) (λ y. x.1)
            (λ q j. turned_up p q state.Rescheduled state.Scheduled (three m past d) u j),
        free_call m (callback past) state.Resuming (mirror p) (three m (by (kind.Schedule p d) ∷ past)) c,
      )

  pub begins_up : (p : Phase) (d : ℕ) → Up p → next_up m past (mirror p) ≡ Some d → DevicePhases m past (Some (stage.Ups p)) → DevicePhases m (by (kind.Begin p d) ∷ past) (Some (stage.Ups p))
  begins_up p d u n h =
      let x = up_stands (mirror p) d n in (
        turn m past (by (kind.Begin p d)) d refl (in_up p) false h.0 (mirror p) (mirror_down p u) state.Suspended state.Resuming x.0 refl refl refl
            (coming_allows p u (errs past) state.Resuming refl) (λ y. y) (λ y. never y) (λ y. never y)
            (λ q j. turned_up p q state.Resuming state.Suspending (three m past d) u j),
        runs_call (record { phase = p; device = d }) state.Resuming (mirror p) (three m (by (kind.Begin p d) ∷ past)) (record {
          beside = x.1;
          inside =
              ap (λ (y : Three). at y (mirror p)) (moved_own m past (by (kind.Begin p d)) d refl (prepared_all (in_up p) false h.0 (mirror p) d state.Suspended (mirror_down p u) x.0 refl))
              ∙ turned_mirror p state.Suspending state.Resuming (three m past d) u;
        }),
      )

  pub ends_up : (p q : Phase) (d : ℕ) (r : Option Errno) → Up p → callback past ≡ Some (record { phase = q; device = d }) → DevicePhases m past (Some (stage.Ups p)) → DevicePhases m (by (kind.End p d r) ∷ past) (Some (stage.Ups p))
  ends_up p q d r u c h =
      let x : Inside m (record { phase = q; device = d }) state.Resuming (mirror p) (three m past) = called (callback past) (record { phase = q; device = d }) state.Resuming (mirror p) (three m past) c h.1 in (
        turn m past (by (kind.End p d r)) d refl (in_up p) false h.0 (mirror p) (mirror_down p u) state.Resuming state.Resumed (sym (at_is m past (mirror p) d (mirror_down p u)) ∙ x.inside) refl refl refl
            (coming_allows p u (is_some (error_in p r (phase_failed past))) state.Resumed refl) (error_stays p r (phase_failed past))
            (λ y. never y) (λ y. never y)
            (λ k j. turned_up p k state.Resumed (ended_by r) (three m past d) u j),
        ends_call state.Resuming (mirror p) (three m (by (kind.End p d r) ∷ past)),
      )

  -- ---- prepare and complete

  prepares_fine : (d : ℕ) (r : ℤ) (error : Bool) → is_among (order m past) d ≡ true → IsFine (order m past) (is_async_device m d) (λ q. Fresh) false error d (three m past d) → IsFine (order m past) (is_async_device m d) (λ q. Fresh) false error d (three_after (kind.Prepare d r) (three m past d))
  prepares_fine d (pos r) error o h = prepared_fine (order m past) (is_async_device m d) error d o
  prepares_fine d (negsuc r) error o h = h

  pub prepares : (d : ℕ) (r : ℤ) → next_prepared m past ≡ Some d → DevicePhases m past (Some stage.Prepares) → DevicePhases m (by (kind.Prepare d r) ∷ past) (Some stage.Prepares)
  prepares d r n h =
      let error : Bool = errs (by (kind.Prepare d r) ∷ past) in
      let fresh : (x : ℕ) → IsFine (order m past) (is_async_device m x) (λ q. Fresh) false error x (three m past x) =
      λ x. fine_else (order m past) (is_async_device m x) (λ q. Fresh) false (errs past) x (three m past x) (h.0 x) (λ q. Fresh) false error (h.0 x).allowed tt in (
        moved_all m past (by (kind.Prepare d r)) d refl (λ (x : ℕ) (t : Three). IsFine (order m past) (is_async_device m x) (λ q. Fresh) false error x t) fresh
            (prepares_fine d r error (first_found (λ x. is_unprepared (state_in m past phase.Suspend x)) (order m past) d n).among (fresh d)),
        h.1,
      )

  pub completes : (d : ℕ) → DevicePhases m past (Some stage.Completes) → DevicePhases m (by (kind.Complete d) ∷ past) (Some stage.Completes)
  completes d h = (
    moved_all m past (by (kind.Complete d)) d refl (λ (x : ℕ) (t : Three). IsFine (order m past) (is_async_device m x) (λ q. Risen) false (errs past) x t) h.0 (unprepared_fine (order m past) (is_async_device m d) (λ q. Risen) (errs past) d),
    h.1,
  )

-- ---- a device's own entries

-- the maker's callback is of another device
call_preserved : (m : Machine) (o : Option Callback) (s : PhaseState) (p : Phase) (before after : ℕ → Three) → ((x : ℕ) → is_async_device m x ≡ false → after x ≡ before x) → InsideIf m o s p before → InsideIf m o s p after
call_preserved m None s p before after same h = tt
call_preserved m (Some c) s p before after same h = record { beside = h.beside; inside = ap (λ (t : Three). at t p) (same c.device h.beside) ∙ h.inside }

calls_preserved : (m : Machine) (st : Option Stage) (o : Option Callback) (before after : ℕ → Three) → ((x : ℕ) → is_async_device m x ≡ false → after x ≡ before x) → CallIf m st o before → CallIf m st o after
calls_preserved m (Some (stage.Downs p)) o before after same h = call_preserved m o state.Suspending p before after same h
calls_preserved m (Some (stage.Ups p)) o before after same h = call_preserved m o state.Resuming (mirror p) before after same h
calls_preserved m None o before after same h = h
calls_preserved m (Some stage.Notifies) o before after same h = h
calls_preserved m (Some _) o before after same h = h

module _ (m : Machine) (past : List Entry) (time : ℕ) (now : EventNow) (d : ℕ) (st : Option Stage) (h : DevicePhases m past st) (async : is_async_device m d ≡ true) where
  abbrev own : Kind → Entry
  own k = record { time = time; now = now; actor = actor.Dev d; kind = k }

  abbrev moods : Phase → Mood
  moods q = mood_if st q

  others : (k : Kind) → device_of k ≡ Some d → (x : ℕ) → is_async_device m x ≡ false → three m (own k ∷ past) x ≡ three m past x
  others k is x sync = moved_other m past (own k) d is x (λ same. absurd (true≢false (sym async ∙ (ap (is_async_device m) (sym same) ∙ sync))))

  calls : (k : Kind) → device_of k ≡ Some d → CallIf m st (callback past) (three m (own k ∷ past))
  calls k is = calls_preserved m st (callback past) (three m past) (three m (own k ∷ past)) (others k is) h.1

  allowed_as : (p : Phase) (s : PhaseState) → Down p → state_in m past p d ≡ s → allows (moods p) (errs past) s ≡ true
  allowed_as p s i e = subst (λ (x : PhaseState). allows (moods p) (errs past) x ≡ true) (at_is m past p d i ∙ e) ((h.0 d).allowed p i)

  own_fails : (p : Phase) (r : Errno) → Down p → state_in m past p d ≡ state.Scheduled → phase_failed past ≡ Some r → DevicePhases m (own (kind.Skip p d skip.Error) ∷ past) st
  own_fails p r i e f = (
    turn m past (own (kind.Skip p d skip.Error)) d refl moods (is_full_if st) h.0 p i state.Scheduled state.Failed e refl refl refl
        (scheduled_goes (moods p) (errs past) (errs past) state.Failed (allowed_as p state.Scheduled i e) (ap is_some f)) (λ x. x) (λ x. never x) (λ x. never x)
        (λ q j. turned_down p q state.Failed (three m past d) (three m past d) i j),
    calls (kind.Skip p d skip.Error) refl,
  )

  own_finds : (p : Phase) → Down p → state_in m past p d ≡ state.Scheduled → DevicePhases m (own (kind.Skip p d skip.Pending) ∷ past) st
  own_finds p i e = (
    turn m past (own (kind.Skip p d skip.Pending)) d refl moods (is_full_if st) h.0 p i state.Scheduled state.Failed e refl refl refl
        (scheduled_goes (moods p) (errs past) true state.Failed (allowed_as p state.Scheduled i e) refl) (λ x. refl) (λ x. never x) (λ x. never x)
        (λ q j. turned_down p q state.Failed (three m past d) (three m past d) i j),
    calls (kind.Skip p d skip.Pending) refl,
  )

  own_leaves : (p : Phase) → Down p → state_in m past p d ≡ state.Scheduled → is_direct m past p d ≡ true → DevicePhases m (own (kind.Skip p d skip.Direct) ∷ past) st
  own_leaves p i e a = (
    turn m past (own (kind.Skip p d skip.Direct)) d refl moods (is_full_if st) h.0 p i state.Scheduled state.Direct e refl refl refl
        (scheduled_goes (moods p) (errs past) (errs past) state.Direct (allowed_as p state.Scheduled i e) refl) (λ x. x) (λ x. lone p i a) (λ x. never x)
        (λ q j. turned_down p q state.Direct (three m past d) (three m past d) i j),
    calls (kind.Skip p d skip.Direct) refl,
  )
    where
      lone : (p : Phase) → Down p → is_direct m past p d ≡ true → is_direct_complete (three_after (kind.Skip p d skip.Direct) (three m past d)).suspend ≡ true
      lone _ InSuspend x = refl
      lone _ InLate x = x
      lone _ InNoirq x = x

  own_begins : (p : Phase) → Down p → state_in m past p d ≡ state.Scheduled → DevicePhases m (own (kind.Begin p d) ∷ past) st
  own_begins p i e = (
    turn m past (own (kind.Begin p d)) d refl moods (is_full_if st) h.0 p i state.Scheduled state.Suspending e refl refl refl
        (scheduled_goes (moods p) (errs past) (errs past) state.Suspending (allowed_as p state.Scheduled i e) refl) (λ x. x) (λ x. never x) (λ x. never x)
        (λ q j. turned_down p q state.Suspending (all_three state.Resuming) (three m past d) i j),
    calls (kind.Begin p d) refl,
  )

  own_ends : (p : Phase) (r : Option Errno) → Down p → state_in m past p d ≡ state.Suspending → DevicePhases m (own (kind.End p d r) ∷ past) st
  own_ends p r i e = (
    turn m past (own (kind.End p d r)) d refl moods (is_full_if st) h.0 p i state.Suspending (ended_by r) e refl refl (ended_prepared r)
        (suspending_goes (moods p) (errs past) (is_some (error_in p r (phase_failed past))) (ended_by r) (allowed_as p state.Suspending i e) (fails_error p i r (phase_failed past))) (error_stays p r (phase_failed past))
        (λ y. absurd (true≢false (sym y ∙ ended_apart r))) (λ y. absurd (true≢false (sym y ∙ ended_scheduled r)))
        (λ k j. turned_down p k (ended_by r) (all_three state.Resumed) (three m past d) i j),
    calls (kind.End p d r) refl,
  )

  own_rises : (p : Phase) → Up p → state_in m past (mirror p) d ≡ state.Rescheduled → DevicePhases m (own (kind.Begin p d) ∷ past) st
  own_rises p u e = (
    turn m past (own (kind.Begin p d)) d refl moods (is_full_if st) h.0 (mirror p) (mirror_down p u) state.Rescheduled state.Resuming e refl refl refl
        (rescheduled_comes (moods (mirror p)) (errs past) (errs past) state.Resuming (allowed_as (mirror p) state.Rescheduled (mirror_down p u) e) refl) (λ x. x) (λ x. never x) (λ x. never x)
        (λ q j. turned_up p q state.Resuming state.Suspending (three m past d) u j),
    calls (kind.Begin p d) refl,
  )

  own_rose : (p : Phase) (r : Option Errno) → Up p → state_in m past (mirror p) d ≡ state.Resuming → DevicePhases m (own (kind.End p d r) ∷ past) st
  own_rose p r u e = (
    turn m past (own (kind.End p d r)) d refl moods (is_full_if st) h.0 (mirror p) (mirror_down p u) state.Resuming state.Resumed e refl refl refl
        (resuming_comes (moods (mirror p)) (errs past) (is_some (error_in p r (phase_failed past))) state.Resumed (allowed_as (mirror p) state.Resuming (mirror_down p u) e) refl) (error_stays p r (phase_failed past)) (λ x. never x) (λ x. never x)
        (λ q j. turned_up p q state.Resumed (ended_by r) (three m past d) u j),
    calls (kind.End p d r) refl,
  )

-- a device's own entry leaves the devices in states that they may have
pub device_stands : (m : Machine) (past : List Entry) (time : ℕ) (now : EventNow) (d : ℕ) (st : Option Stage) (k : Kind) → DevicePhases m past st → DeviceMade m past now d k → DevicePhases m (record { time = time; now = now; actor = actor.Dev d; kind = k } ∷ past) st
device_stands m past time now d st _ h (DeviceMade.OwnFails p r i g f) = own_fails m past time now d st h g.beside p r i g.states f
device_stands m past time now d st _ h (DeviceMade.OwnFinds p i g f t w) = own_finds m past time now d st h g.beside p i g.states
device_stands m past time now d st _ h (DeviceMade.OwnLeaves p i g f t a) = own_leaves m past time now d st h g.beside p i g.states a
device_stands m past time now d st _ h (DeviceMade.OwnBegins p i g f t a) = own_begins m past time now d st h g.beside p i g.states
device_stands m past time now d st _ h (DeviceMade.OwnRises p u a w s n) = own_rises m past time now d st h a p u s
device_stands m past time now d st _ h (DeviceMade.OwnEnds p r i a w s) = own_ends m past time now d st h a p r i s
device_stands m past time now d st _ h (DeviceMade.OwnRose p r u a w s) = own_rose m past time now d st h a p r u s
