-- If nobody can go on, and no time is pending, no attempt is open.
use Rattle.std.proofs.Common.{◌≡◌, ◌≢◌, ◌≤◌, ◌<◌, ◌+◌, ◌∙◌, min, map, ℕ, zero, suc, Bool, true, false, not, ◌==◌, ◌&&◌, ◌||◌, nat_lt, List, [], ◌∷◌, ◌⊎◌, inl, inr, length, Option, Some, None, refl, sym, ap, subst, cond, arith}
use Rattle.std.proofs.lemmas.Bool.{eqb-true, true≢false}
use Rattle.std.proofs.lemmas.Bool.Decides.{nat_tests}
use Rattle.std.proofs.lemmas.List.{get_or_past, length-map}
use Rattle.std.proofs.lemmas.Option.{slice_get_within}
use Rattle.sleep_base.specs.declared.errno.Errno.{Errno}
use Rattle.sleep_model.specs.declared.entry.Actor.{Actor}
use Rattle.sleep_model.specs.declared.entry.Actor.TheVariants as actor
use Rattle.sleep_model.specs.declared.entry.Entry.{Entry}
use Rattle.sleep_model.specs.declared.entry.Group.{Group}
use Rattle.sleep_model.specs.declared.entry.Group.TheVariants as group
use Rattle.sleep_model.specs.declared.entry.Kind.{Kind}
use Rattle.sleep_model.specs.declared.entry.Kind.TheVariants as kind
use Rattle.sleep_model.specs.declared.machine.Machine.{Machine}
use Rattle.sleep_model.specs.declared.machine.Op.{Op}
use Rattle.sleep_model.specs.declared.machine.PlatUndo.TheVariants as undo
use Rattle.sleep_model.specs.declared.progress.Work.{Work}
use Rattle.sleep_model.specs.declared.progress.AsyncWork.{AsyncWork}
use Rattle.sleep_model.specs.declared.progress.AsyncWork.TheVariants.{Idle, Scheduled, Inside as Within}
use Rattle.sleep_model.specs.declared.progress.Callback.{Callback}
use Rattle.sleep_model.specs.declared.progress.Due.{Due}
use Rattle.sleep_model.specs.declared.progress.Due.TheVariants as turn
use Rattle.sleep_model.specs.declared.progress.ScriptPosition.{ScriptPosition}
use Rattle.sleep_model.specs.declared.progress.Sleep.{Sleep}
use Rattle.sleep_model.specs.declared.progress.Stage.{Stage}
use Rattle.sleep_model.specs.declared.progress.Stage.TheVariants as stage
use Rattle.sleep_model.specs.declared.progress.PhaseState.{PhaseState}
use Rattle.sleep_model.specs.declared.progress.PhaseState.TheVariants as state
use Rattle.sleep_model.specs.declared.word.EventNow.{EventNow}
use Rattle.phase_table.specs.declared.phase.Phase.{Phase}
use Rattle.phase_table.specs.declared.phase.Phase.TheVariants as phase
use Rattle.phase_table.specs.Phases.{mirror}
use Rattle.sleep_model.specs.Attempt.{sleep_of, freeze_since, freeze_due, enter_due, if_left, or_next, stage_due, stage_or_next, due_at, attempt_due, gives_up_at, cpu_kind, failed}
use Rattle.sleep_model.specs.Devices.{callback, phase_failed, is_async_device, state_in, waits_for_subordinates, waits_down, waits_above, waits_up, next_down, next_up, next_to_schedule, next_prepared, next_completed, async_work, work_by, work_in, down_due, walk_down, take_down, phase_error, up_due, walk_up, prepare_due, complete_due, device_due, scheduled_due, after_device, taken, unless_failed}
use Rattle.sleep_model.specs.Due.{due, own_due}
use Rattle.sleep_model.specs.Legal.{JournalPart, is_made, is_enabled, none_enabled, none_expires, is_idle, sooner, next_time, journal_time, alarm_at, deadline_at, pending_nap, next_sleep, next_expiry}
use Rattle.sleep_model.specs.Numbers.{time_of}
use Rattle.sleep_model.specs.Order.{order, below, above, is_among}
use Rattle.sleep_model.specs.Notifiers.{next_notified, next_cpu_off, next_syscore_suspended, next_syscore_resumed, next_cpu_on, next_post_notified}
use Rattle.sleep_model.specs.Path.{attempts, maker, maker_after, is_actor, is_same}
use Rattle.sleep_model.specs.Calls.{calls_due, made, is_calling}
use Rattle.sleep_model.specs.Guard.{pending}
use Rattle.sleep_model.specs.Runtime.{is_async}
use Rattle.sleep_model.specs.PhaseStates.{is_prepared, is_ready, is_not_down, is_going_down, is_down_in, is_not_up}
use Rattle.sleep_model.specs.Table.{stage_of, next_stage}
use Rattle.sleep_model.specs.Walk.{first_where, last_where}
use Rattle.sleep_model.proofs.Walks.{AllDifferent}
use Rattle.sleep_laws.proofs.Activity.{same_number, different}
use Rattle.sleep_laws.proofs.Boards.{at, at_is, three, mirror_down, Found, first_found, last_found, first_none}
use Rattle.sleep_laws.proofs.LockHolding.{StageMaker, lock_agrees}
use Rattle.sleep_laws.proofs.Made.{Down, InSuspend, InLate, InNoirq, Up, InResume, InEarly, InResumeNoirq, Made, StepMade, TaskMade, WorkMade, DeviceMade, EntryMade, ByMaker, ByTask, ByWork, ByDevice, ByTime}
use Rattle.sleep_laws.proofs.Making.{Proper, ProperIf, stage_proper}
use Rattle.sleep_laws.proofs.MakingOwn.{entry_made}
use Rattle.sleep_laws.proofs.Moods.{Mood, Settled, in_down, in_up, allows, when_settled}
use Rattle.sleep_laws.proofs.Ranks.{After, after_last_word, order_after, order_apart, last_after, first_before, first_or_after, last_there, first_there, above_below, IsRanked}
use Rattle.sleep_laws.proofs.DevicePhases.{is_scheduled, down_is, errs, Fines, DevicePhases}
use Rattle.sleep_laws.proofs.Telling.{some≢none}
use Rattle.sleep_laws.proofs.Turning.{never}
use Rattle.sleep_laws.proofs.Underway.{is_suspending, is_resuming, IsCalled, TakesLast, Calls, Underway, underway}

-- ---- small facts

pub and_left : (a b : Bool) → (a && b) ≡ true → a ≡ true
and_left true b e = refl
and_left false b e = never e

pub and_right : (a b : Bool) → (a && b) ≡ true → b ≡ true
and_right true b e = e
and_right false b e = never e

pub or_right_false : (a b : Bool) → (a || b) ≡ false → b ≡ false
or_right_false true b e = absurd (true≢false e)
or_right_false false b e = e

pub not_true : (b : Bool) → not b ≡ true → b ≡ false
not_true true e = never e
not_true false e = refl

-- ---- the work of a device that is scheduled

-- the devices are settled in the phases before q
abbrev SettledBefore : (Phase → Mood) → (q : Phase) → Down q → Type 0
SettledBefore moods q InSuspend = Unit {0}
SettledBefore moods q InLate = moods phase.Suspend ≡ Settled
SettledBefore moods q InNoirq = (moods phase.Suspend ≡ Settled) × (moods phase.Late ≡ Settled)

settled_work : (p : Phase) (s : PhaseState) (other : AsyncWork) → when_settled s ≡ true → work_in p s other ≡ other
settled_work p state.Unprepared other h = refl
settled_work p state.Direct other h = refl
settled_work p state.Suspended other h = refl
settled_work p _ other h = never h

module _ (m : Machine) (past : List Entry) (moods : Phase → Mood) (full : Bool) (h : Fines m past moods full) where
  settled_in : (p : Phase) (d : ℕ) → Down p → moods p ≡ Settled → when_settled (state_in m past p d) ≡ true
  settled_in p d i f = subst (λ (s : PhaseState). when_settled s ≡ true) (at_is m past p d i) (subst (λ (a : Mood). allows a (errs past) (at (three m past d) p) ≡ true) f ((h d).allowed p i))

  work_stands : (q : Phase) (i : Down q) → SettledBefore moods q i → (d : ℕ) (b : PhaseState) (w : AsyncWork) → ((other : AsyncWork) → work_in q b other ≡ w) → state_in m past q d ≡ b → work_by (state_in m past phase.Suspend d) (state_in m past phase.Late d) (state_in m past phase.Noirq d) ≡ w
  work_stands _ InSuspend s d b w tells e =
      let rest : AsyncWork = work_in phase.Late (state_in m past phase.Late d) (work_in phase.Noirq (state_in m past phase.Noirq d) Idle) in
      ap (λ (x : PhaseState). work_in phase.Suspend x rest) e ∙ tells rest
  work_stands _ InLate s d b w tells e =
      let rest : AsyncWork = work_in phase.Noirq (state_in m past phase.Noirq d) Idle in
      settled_work phase.Suspend (state_in m past phase.Suspend d) (work_in phase.Late (state_in m past phase.Late d) rest) (settled_in phase.Suspend d InSuspend s)
      ∙ (ap (λ (x : PhaseState). work_in phase.Late x rest) e ∙ tells rest)
  work_stands _ InNoirq s d b w tells e =
      settled_work phase.Suspend (state_in m past phase.Suspend d) (work_in phase.Late (state_in m past phase.Late d) (work_in phase.Noirq (state_in m past phase.Noirq d) Idle)) (settled_in phase.Suspend d InSuspend s.0)
      ∙ (settled_work phase.Late (state_in m past phase.Late d) (work_in phase.Noirq (state_in m past phase.Noirq d) Idle) (settled_in phase.Late d InLate s.1)
      ∙ (ap (λ (x : PhaseState). work_in phase.Noirq x Idle) e ∙ tells Idle))

  work_at : (q : Phase) (i : Down q) → SettledBefore moods q i → (d : ℕ) (b : PhaseState) (w : AsyncWork) → ((other : AsyncWork) → work_in q b other ≡ w) → state_in m past q d ≡ b → is_async_device m d ≡ true → async_work m past d ≡ w
  work_at q i s d b w tells e a =
      ap (λ (x : Bool). cond x (work_by (state_in m past phase.Suspend d) (state_in m past phase.Late d) (state_in m past phase.Noirq d)) Idle) a ∙ work_stands q i s d b w tells e

  -- a device that is prepared is of the order
  in_order : (p : Phase) (d : ℕ) → Down p → is_prepared (state_in m past p d) ≡ true → is_among (order m past) d ≡ true
  in_order p d i e = (h d).of_order (sym ((h d).alike p i) ∙ (ap is_prepared (at_is m past p d i) ∙ e))

down_settled : (p : Phase) (i : Down p) → SettledBefore (in_down p) p i
down_settled _ InSuspend = tt
down_settled _ InLate = refl
down_settled _ InNoirq = (refl, refl)

-- ---- what the maker has to wait for

-- a device cannot go on
abbrev StuckAt : Machine → List Entry → EventNow → ℕ → Type 0
StuckAt m past now d = is_made (device_due m past now d (async_work m past d)) ≡ false

not_down_goes : (s : PhaseState) → is_not_down s ≡ true → is_prepared s ≡ true → is_ready s ≡ false → is_going_down s ≡ true
not_down_goes state.Scheduled u p r = refl
not_down_goes state.Suspending u p r = refl
not_down_goes state.Prepared u p r = never (sym r)
not_down_goes state.Unprepared u p r = never p
not_down_goes _ u p r = never u

not_down_ready : (s : PhaseState) → is_not_down s ≡ true → is_prepared s ≡ true → is_going_down s ≡ false → is_ready s ≡ true
not_down_ready state.Prepared u p g = refl
not_down_ready state.Scheduled u p g = never (sym g)
not_down_ready state.Suspending u p g = never (sym g)
not_down_ready state.Unprepared u p g = never p
not_down_ready _ u p g = never u

-- a turn that waits for nobody is made
waits_made : (o : Option ℕ) (k : Kind) → is_made (after_device o (turn.Makes k)) ≡ false → (d : ℕ) × (o ≡ Some d)
waits_made None k e = absurd (true≢false e)
waits_made (Some d) k e = (d, refl)

module _ (m : Machine) (past : List Entry) (ranks : IsRanked m past) (now : EventNow) (p : Phase) (i : Down p) (h : DevicePhases m past (Some (stage.Downs p))) (takes : TakesLast m past p) (calls : Calls m past p is_suspending) (free : callback past ≡ None) (stuck : (d : ℕ) → is_among (order m past) d ≡ true → is_async_device m d ≡ true → StuckAt m past now d) where
  apart : AllDifferent (order m past)
  apart = order_apart (below m past) (order m past) ranks

  goes : ℕ → Bool
  goes d = is_going_down (state_in m past p d)

  is_sync : (d : ℕ) → is_suspending (state_in m past p d) ≡ true → is_async_device m d ≡ true
  is_sync d s = by_test (is_async_device m d) refl
    where
      by_test : (b : Bool) → is_async_device m d ≡ b → is_async_device m d ≡ true
      by_test true e = e
      by_test false e = absurd (subst (λ (o : Option Callback). IsCalled o d) free (calls d (ap is_suspending (at_is m past p d i) ∙ s) e))

  prepared : (d : ℕ) → is_among (order m past) d ≡ true → is_prepared (state_in m past p d) ≡ true
  prepared d o = ap is_prepared (sym (at_is m past p d i)) ∙ ((h.0 d).alike p i ∙ (h.0 d).prepared o)

  -- the last device that goes down can go on
  last_goes : (g : ℕ) → last_where (λ d. is_going_down (state_in m past p d)) (order m past) ≡ Some g → ⊥
  last_goes g l =
      let f : Found (λ d. is_going_down (state_in m past p d)) (order m past) g = last_found (λ d. is_going_down (state_in m past p d)) (order m past) g l in
      by_state (state_in m past p g) refl f.passes f.among
    where
      suspending : state_in m past p g ≡ state.Suspending → is_among (order m past) g ≡ true → ⊥
      suspending e o =
          let a : is_async_device m g ≡ true = is_sync g (ap is_suspending e) in
          let w : async_work m past g ≡ Within p = work_at m past (in_down p) true h.0 p i (down_settled p i) g state.Suspending (Within p) (λ other. refl) e a in
          true≢false (subst (λ (x : AsyncWork). is_made (device_due m past now g x) ≡ false) w (stuck g o a))

      waits : (e : ℕ) → is_among (order m past) g ≡ true → state_in m past p g ≡ state.Scheduled → waits_for_subordinates m past p g ≡ Some e → ⊥
      waits e o s w =
          let f : Found (λ x. is_not_down (state_in m past p x)) (below m past g) e = first_found (λ x. is_not_down (state_in m past p x)) (below m past g) e w in
          let b : After (order m past) g e = order_after (below m past) (order m past) ranks g e o f.among in
          let still : is_going_down (state_in m past p e) ≡ false = last_after (λ d. is_going_down (state_in m past p d)) (order m past) apart g e l b in
          let ready : is_ready (state_in m past p e) ≡ true = not_down_ready (state_in m past p e) f.passes (prepared e (after_last_word (order m past) g e b)) still in
          let taken : is_ready (at (three m past e) p) ≡ false = takes g e b (ap is_ready (at_is m past p g i ∙ s)) in
          true≢false (sym ready ∙ (ap is_ready (sym (at_is m past p e i)) ∙ taken))

      scheduled : state_in m past p g ≡ state.Scheduled → is_among (order m past) g ≡ true → ⊥
      scheduled e o =
          let a : is_async_device m g ≡ true = (h.0 g).scheduled p i (ap is_scheduled (at_is m past p g i ∙ e)) in
          let w : async_work m past g ≡ Scheduled p = work_at m past (in_down p) true h.0 p i (down_settled p i) g state.Scheduled (Scheduled p) (λ other. refl) e a in
          let s : is_made (scheduled_due m past now p g) ≡ false = subst (λ (x : AsyncWork). is_made (device_due m past now g x) ≡ false) w (stuck g o a) in
          let d = waits_made (waits_for_subordinates m past p g) (unless_failed (phase_failed past) p g (taken m past now p g)) (down_scheduled p i s) in
          waits d.0 o e d.1
        where
          down_scheduled : (p : Phase) → Down p → is_made (scheduled_due m past now p g) ≡ false → is_made (after_device (waits_for_subordinates m past p g) (turn.Makes (unless_failed (phase_failed past) p g (taken m past now p g)))) ≡ false
          down_scheduled _ InSuspend x = x
          down_scheduled _ InLate x = x
          down_scheduled _ InNoirq x = x

      by_state : (s : PhaseState) → state_in m past p g ≡ s → is_going_down (state_in m past p g) ≡ true → is_among (order m past) g ≡ true → ⊥
      by_state state.Scheduled e t o = scheduled e o
      by_state state.Suspending e t o = suspending e o
      by_state state.Unprepared e t o = true≢false (sym t ∙ ap is_going_down e)
      by_state _ e t o = true≢false (sym t ∙ ap is_going_down e)

  -- so none goes down
  none_goes : (d : ℕ) → is_among (order m past) d ≡ true → is_going_down (state_in m past p d) ≡ true → ⊥
  none_goes d o g =
      let l = last_there (λ x. is_going_down (state_in m past p x)) (order m past) d o g in
      last_goes l.0 l.1

  -- and the maker waits for none
  close_goes : (k : Kind) → is_made (after_device (waits_down m past p) (turn.Makes k)) ≡ false → ⊥
  close_goes k e =
      let w = waits_made (waits_down m past p) k e in
      let f : Found (λ d. is_going_down (state_in m past p d)) (order m past) w.0 = first_found (λ d. is_going_down (state_in m past p d)) (order m past) w.0 w.1 in
      none_goes w.0 f.among f.passes

  take_goes : (d : ℕ) → next_down m past p ≡ Some d → is_made (take_down m past now p d) ≡ false → ⊥
  take_goes d n e = by_async (is_async_device m d) e
    where
      below_goes : (x : ℕ) → waits_for_subordinates m past p d ≡ Some x → ⊥
      below_goes x w =
          let t : Found (λ y. is_ready (state_in m past p y)) (order m past) d = last_found (λ y. is_ready (state_in m past p y)) (order m past) d n in
          let f : Found (λ y. is_not_down (state_in m past p y)) (below m past d) x = first_found (λ y. is_not_down (state_in m past p y)) (below m past d) x w in
          let b : After (order m past) d x = order_after (below m past) (order m past) ranks d x t.among f.among in
          let o : is_among (order m past) x ≡ true = after_last_word (order m past) d x b in
          none_goes x o (not_down_goes (state_in m past p x) f.passes (prepared x o) (last_after (λ y. is_ready (state_in m past p y)) (order m past) apart d x n b))

      by_async : (b : Bool) → is_made (cond b (turn.Makes (kind.Schedule p d)) (after_device (waits_for_subordinates m past p d) (turn.Makes (taken m past now p d)))) ≡ false → ⊥
      by_async true x = true≢false x
      by_async false x = let w = waits_made (waits_for_subordinates m past p d) (taken m past now p d) x in below_goes w.0 w.1

  -- the walk down goes on
  down_goes : is_made (down_due m past now p (callback past)) ≡ false → ⊥
  down_goes e = by_error (phase_failed past) (next_down m past p) refl (subst (λ (o : Option Callback). is_made (down_due m past now p o) ≡ false) free e)
    where
      by_error : (r : Option Errno) (o : Option ℕ) → next_down m past p ≡ o → is_made (walk_down m past now p r o) ≡ false → ⊥
      by_error (Some r) o n x = close_goes (kind.Done p (phase_error past)) x
      by_error None None n x = close_goes (kind.Done p (phase_error past)) x
      by_error None (Some d) n x = take_goes d n x

-- ---- on the way up: q is the phase on the way down whose mirror it is

up_settled : (p : Phase) (u : Up p) → SettledBefore (in_up p) (mirror p) (mirror_down p u)
up_settled _ InResume = tt
up_settled _ InEarly = refl
up_settled _ InResumeNoirq = (refl, refl)

not_up_prepared : (s : PhaseState) → is_not_up s ≡ true → is_prepared s ≡ true
not_up_prepared state.Unprepared e = never e
not_up_prepared _ e = refl

-- what a device that was scheduled on the way up makes
up_scheduled : (m : Machine) (past : List Entry) (now : EventNow) (q : Phase) (d : ℕ) → Down q → is_made (scheduled_due m past now (mirror q) d) ≡ false → is_made (after_device (waits_above m past q d) (turn.Makes (kind.Begin (mirror q) d))) ≡ false
up_scheduled m past now _ d InSuspend x = x
up_scheduled m past now _ d InLate x = x
up_scheduled m past now _ d InNoirq x = x

module _ (m : Machine) (past : List Entry) (ranks : IsRanked m past) (now : EventNow) (p : Phase) (u : Up p) (h : DevicePhases m past (Some (stage.Ups p))) (calls : Calls m past (mirror p) is_resuming) (free : callback past ≡ None) (stuck : (d : ℕ) → is_among (order m past) d ≡ true → is_async_device m d ≡ true → StuckAt m past now d) where
  apart_up : AllDifferent (order m past)
  apart_up = order_apart (below m past) (order m past) ranks

  down_of : Down (mirror p)
  down_of = mirror_down p u

  not_up_among : (d : ℕ) → is_not_up (state_in m past (mirror p) d) ≡ true → is_among (order m past) d ≡ true
  not_up_among d l = in_order m past (in_up p) false h.0 (mirror p) d (mirror_down p u) (not_up_prepared (state_in m past (mirror p) d) l)

  -- the first device that is not up waits for none above it
  first_free : (g : ℕ) → first_where (λ d. is_not_up (state_in m past (mirror p) d)) (order m past) ≡ Some g → (e : ℕ) → waits_above m past (mirror p) g ≡ Some e → ⊥
  first_free g l e w =
      let f : Found (λ x. is_not_up (state_in m past (mirror p) x)) (above m past g) e = first_found (λ x. is_not_up (state_in m past (mirror p) x)) (above m past g) e w in
      let b : After (order m past) e g = order_after (below m past) (order m past) ranks e g (not_up_among e f.passes) (above_below m past g e f.among) in
      true≢false (sym f.passes ∙ first_before (λ x. is_not_up (state_in m past (mirror p) x)) (order m past) apart_up g e l b)

  -- it can go on, unless it is a synchronous one that is down
  first_goes : (g : ℕ) → first_where (λ d. is_not_up (state_in m past (mirror p) d)) (order m past) ≡ Some g → (state_in m past (mirror p) g ≡ state.Suspended → ⊥) → ⊥
  first_goes g l down =
      let f : Found (λ d. is_not_up (state_in m past (mirror p) d)) (order m past) g = first_found (λ d. is_not_up (state_in m past (mirror p) d)) (order m past) g l in
      by_state (state_in m past (mirror p) g) refl f.passes f.among
    where
      is_sync : is_resuming (state_in m past (mirror p) g) ≡ true → is_async_device m g ≡ true
      is_sync s = by_test (is_async_device m g) refl
        where
          by_test : (b : Bool) → is_async_device m g ≡ b → is_async_device m g ≡ true
          by_test true e = e
          by_test false e = absurd (subst (λ (o : Option Callback). IsCalled o g) free (calls g (ap is_resuming (at_is m past (mirror p) g (mirror_down p u)) ∙ s) e))

      resuming : state_in m past (mirror p) g ≡ state.Resuming → is_among (order m past) g ≡ true → ⊥
      resuming e o =
          let a : is_async_device m g ≡ true = is_sync (ap is_resuming e) in
          let w : async_work m past g ≡ Within (mirror (mirror p)) = work_at m past (in_up p) false h.0 (mirror p) (mirror_down p u) (up_settled p u) g state.Resuming (Within (mirror (mirror p))) (λ other. refl) e a in
          true≢false (subst (λ (x : AsyncWork). is_made (device_due m past now g x) ≡ false) w (stuck g o a))

      rescheduled : state_in m past (mirror p) g ≡ state.Rescheduled → is_among (order m past) g ≡ true → ⊥
      rescheduled e o =
          let a : is_async_device m g ≡ true = (h.0 g).scheduled (mirror p) (mirror_down p u) (ap is_scheduled (at_is m past (mirror p) g (mirror_down p u) ∙ e)) in
          let w : async_work m past g ≡ Scheduled (mirror (mirror p)) = work_at m past (in_up p) false h.0 (mirror p) (mirror_down p u) (up_settled p u) g state.Rescheduled (Scheduled (mirror (mirror p))) (λ other. refl) e a in
          let s : is_made (scheduled_due m past now (mirror (mirror p)) g) ≡ false = subst (λ (x : AsyncWork). is_made (device_due m past now g x) ≡ false) w (stuck g o a) in
          let d = waits_made (waits_above m past (mirror p) g) (kind.Begin (mirror (mirror p)) g) (up_scheduled m past now (mirror p) g (mirror_down p u) s) in
          first_free g l d.0 d.1

      by_state : (s : PhaseState) → state_in m past (mirror p) g ≡ s → is_not_up (state_in m past (mirror p) g) ≡ true → is_among (order m past) g ≡ true → ⊥
      by_state state.Suspended e t o = down e
      by_state state.Rescheduled e t o = rescheduled e o
      by_state state.Resuming e t o = resuming e o
      by_state state.Unprepared e t o = true≢false (sym t ∙ ap is_not_up e)
      by_state _ e t o = true≢false (sym t ∙ ap is_not_up e)

  -- none is down if none is down that has to be taken next
  none_not_up : next_to_schedule m past (mirror p) ≡ None → ((g : ℕ) → first_where (λ d. is_not_up (state_in m past (mirror p) d)) (order m past) ≡ Some g → state_in m past (mirror p) g ≡ state.Suspended → is_async_device m g ≡ false → ⊥) → (d : ℕ) → is_among (order m past) d ≡ true → is_not_up (state_in m past (mirror p) d) ≡ true → ⊥
  none_not_up n sync d o low =
      let l = first_there (λ x. is_not_up (state_in m past (mirror p) x)) (order m past) d o low in
      first_goes l.0 l.1 (λ e. by_async l.0 l.1 e (is_async_device m l.0) refl)
    where
      by_async : (g : ℕ) → first_where (λ x. is_not_up (state_in m past (mirror p) x)) (order m past) ≡ Some g → state_in m past (mirror p) g ≡ state.Suspended → (b : Bool) → is_async_device m g ≡ b → ⊥
      by_async g l e false a = sync g l e a
      by_async g l e true a =
          let scheduled : (is_down_in (state_in m past (mirror p) g) && is_async_device m g) ≡ true = rw (e, a) refl in
          let f : Found (λ x. is_not_up (state_in m past (mirror p) x)) (order m past) g = first_found (λ x. is_not_up (state_in m past (mirror p) x)) (order m past) g l in
          true≢false (sym scheduled ∙ first_none (λ x. is_down_in (state_in m past (mirror p) x) && is_async_device m x) (order m past) n g f.among)

  -- the walk up goes on
  up_goes : is_made (up_due m past p (callback past)) ≡ false → ⊥
  up_goes e = by_walk (next_to_schedule m past (mirror p)) (next_up m past (mirror p)) refl refl (subst (λ (o : Option Callback). is_made (up_due m past p o) ≡ false) free e)
    where
      sync_test : (g : ℕ) → state_in m past (mirror p) g ≡ state.Suspended → is_async_device m g ≡ false → (is_down_in (state_in m past (mirror p) g) && not (is_async_device m g)) ≡ true
      sync_test g e a = rw (e, a) refl

      next_stands : (d : ℕ) → next_up m past (mirror p) ≡ Some d → is_not_up (state_in m past (mirror p) d) ≡ true
      next_stands d n =
          let f : Found (λ x. is_down_in (state_in m past (mirror p) x) && not (is_async_device m x)) (order m past) d = first_found (λ x. is_down_in (state_in m past (mirror p) x) && not (is_async_device m x)) (order m past) d n in
          ap is_not_up (down_is (state_in m past (mirror p) d) (and_left (is_down_in (state_in m past (mirror p) d)) (not (is_async_device m d)) f.passes))

      is_of_order : (g : ℕ) → first_where (λ x. is_not_up (state_in m past (mirror p) x)) (order m past) ≡ Some g → is_among (order m past) g ≡ true
      is_of_order g l = (first_found (λ x. is_not_up (state_in m past (mirror p) x)) (order m past) g l).among

      -- no synchronous device is down if none is taken next
      none_next : next_up m past (mirror p) ≡ None → (g : ℕ) → first_where (λ x. is_not_up (state_in m past (mirror p) x)) (order m past) ≡ Some g → state_in m past (mirror p) g ≡ state.Suspended → is_async_device m g ≡ false → ⊥
      none_next n g l s a = true≢false (sym (sync_test g s a) ∙ first_none (λ x. is_down_in (state_in m past (mirror p) x) && not (is_async_device m x)) (order m past) n g (is_of_order g l))

      -- the one that is taken next is the first that is down, and waits for none
      waits_next : (d x : ℕ) → next_up m past (mirror p) ≡ Some d → waits_above m past (mirror p) d ≡ Some x → (g : ℕ) → first_where (λ y. is_not_up (state_in m past (mirror p) y)) (order m past) ≡ Some g → state_in m past (mirror p) g ≡ state.Suspended → is_async_device m g ≡ false → ⊥
      waits_next d x n w g l s a = by_place (first_or_after (λ y. is_down_in (state_in m past (mirror p) y) && not (is_async_device m y)) (order m past) d g n (sync_test g s a) (is_of_order g l))
        where
          by_place : (d ≡ g) ⊎ After (order m past) d g → ⊥
          by_place (inl same) = first_free g l x (subst (λ (y : ℕ). waits_above m past (mirror p) y ≡ Some x) same w)
          by_place (inr b) = true≢false (sym (next_stands d n) ∙ first_before (λ y. is_not_up (state_in m past (mirror p) y)) (order m past) apart_up g d l b)

      by_walk : (g o : Option ℕ) → next_to_schedule m past (mirror p) ≡ g → next_up m past (mirror p) ≡ o → is_made (walk_up m past p g o) ≡ false → ⊥
      by_walk (Some d) o f n x = true≢false x
      by_walk None None f n x =
          let w = waits_made (waits_up m past (mirror p)) (kind.Done p None) x in
          let t : Found (λ y. is_not_up (state_in m past (mirror p) y)) (order m past) w.0 = first_found (λ y. is_not_up (state_in m past (mirror p) y)) (order m past) w.0 w.1 in
          none_not_up f (none_next n) w.0 t.among t.passes
      by_walk None (Some d) f n x =
          let w = waits_made (waits_above m past (mirror p) d) (kind.Begin p d) x in
          let t : Found (λ y. is_not_up (state_in m past (mirror p) y)) (above m past d) w.0 = first_found (λ y. is_not_up (state_in m past (mirror p) y)) (above m past d) w.0 w.1 in
          none_not_up f (waits_next d w.0 n w.1) w.0 (not_up_among w.0 t.passes) t.passes

-- ---- the stages

pub first_made : (x y : Due) → is_made (or_next x y) ≡ false → is_made x ≡ false
first_made (turn.Makes k) y e = e
first_made (turn.Waits w) y e = refl
first_made turn.Nothing y e = refl

pub left_made : (k : ℕ → Kind) (o : Option ℕ) (next : Due) → is_made (or_next (if_left k o) next) ≡ false → is_made next ≡ false
left_made k None next e = e
left_made k (Some x) next e = absurd (true≢false e)

prepare_goes : (m : Machine) (past : List Entry) (r : Option Errno) (o : Option ℕ) → is_made (prepare_due m past r o) ≡ false → ⊥
prepare_goes m past (Some r) o e = true≢false e
prepare_goes m past None (Some d) e = true≢false e
prepare_goes m past None None e = true≢false e

complete_goes : (o : Option ℕ) → is_made (complete_due o) ≡ false → ⊥
complete_goes None e = true≢false e
complete_goes (Some d) e = true≢false e

module _ (m : Machine) (past : List Entry) (ranks : IsRanked m past) (now : EventNow) (journal : JournalPart m past) (stuck : (d : ℕ) → is_among (order m past) d ≡ true → is_async_device m d ≡ true → StuckAt m past now d) (awake : sleep_of past ≡ None) (unfrozen : freeze_since past ≡ None) where
  freeze_goes : (g : Group) → is_made (freeze_due m past now g (freeze_since past)) ≡ false → ⊥
  freeze_goes g e = true≢false (subst (λ (o : Option ℕ). is_made (freeze_due m past now g o) ≡ false) unfrozen e)

  enter_goes : is_made (enter_due m past now (sleep_of past)) ≡ false → ⊥
  enter_goes e = true≢false (subst (λ (o : Option Sleep). is_made (enter_due m past now o) ≡ false) awake e)

  walk_down_goes : (p : Phase) → stage_of past ≡ Some (stage.Downs p) → Down p → is_made (down_due m past now p (callback past)) ≡ false → ⊥
  walk_down_goes p at i e = by_callback (callback past) refl
    where
      here : Underway m (Some (stage.Downs p)) past
      here = subst (λ (s : Option Stage). Underway m s past) at (underway m past journal)

      by_callback : (o : Option Callback) → callback past ≡ o → ⊥
      by_callback None f = let u = here in let w = u.1 i in down_goes m past ranks now p i u.0 w.0 w.1 f stuck e
      by_callback (Some c) f = true≢false (subst (λ (o : Option Callback). is_made (down_due m past now p o) ≡ false) f e)

  walk_up_goes : (p : Phase) → stage_of past ≡ Some (stage.Ups p) → Up p → is_made (up_due m past p (callback past)) ≡ false → ⊥
  walk_up_goes p at i e = by_callback (callback past) refl
    where
      here : Underway m (Some (stage.Ups p)) past
      here = subst (λ (s : Option Stage). Underway m s past) at (underway m past journal)

      by_callback : (o : Option Callback) → callback past ≡ o → ⊥
      by_callback None f = let u = here in up_goes m past ranks now p i u.0 (u.1 i) f stuck e
      by_callback (Some c) f = true≢false (subst (λ (o : Option Callback). is_made (up_due m past p o) ≡ false) f e)

  -- at each stage something is made
  stage_goes : (s : Stage) → stage_of past ≡ Some s → Proper s → is_made (stage_or_next m past now s) ≡ false → ⊥
  stage_goes stage.Notifies at p e = freeze_goes group.User (left_made _ (next_notified m past) (freeze_due m past now group.User (freeze_since past)) e)
  stage_goes (stage.Freezes g) at p e = freeze_goes g (first_made (freeze_due m past now g (freeze_since past)) (stage_due m past now (next_stage (stage.Freezes g))) e)
  stage_goes stage.Prepares at p e = prepare_goes m past (phase_failed past) (next_prepared m past) (first_made (prepare_due m past (phase_failed past) (next_prepared m past)) (stage_due m past now (next_stage stage.Prepares)) e)
  stage_goes (stage.Downs p) at i e = walk_down_goes p at i (first_made (down_due m past now p (callback past)) (stage_due m past now (next_stage (stage.Downs p))) e)
  stage_goes stage.StopsCpus at p e = true≢false (left_made (cpu_kind (pending past now)) (next_cpu_off m past) (turn.Makes (kind.Irqs false)) e)
  stage_goes stage.StopsSyscore at p e = enter_goes (left_made _ (next_syscore_suspended m past) (enter_due m past now (sleep_of past)) e)
  stage_goes stage.Enters at p e = enter_goes (first_made (enter_due m past now (sleep_of past)) (stage_due m past now (next_stage stage.Enters)) e)
  stage_goes stage.StartsSyscore at p e = true≢false (left_made kind.SyscoreResume (next_syscore_resumed m past) (turn.Makes (kind.Irqs true)) e)
  stage_goes stage.StartsCpus at p e = true≢false (left_made kind.CpuOn (next_cpu_on m past) (turn.Makes (kind.PlatformUndo undo.Wake)) e)
  stage_goes (stage.Ups p) at i e = walk_up_goes p at i (first_made (up_due m past p (callback past)) (stage_due m past now (next_stage (stage.Ups p))) e)
  stage_goes stage.Completes at p e = complete_goes (next_completed m past) (first_made (complete_due (next_completed m past)) (stage_due m past now (next_stage stage.Completes)) e)
  stage_goes stage.NotifiesPost at p e = true≢false (left_made kind.NotifyPost (next_post_notified m past) (turn.Makes (kind.Over (attempts past) (failed past))) e)
  stage_goes _ at p e = true≢false e

-- ---- the maker

-- a task that makes the attempt is one of the machine's
abbrev pub MakerIn : Machine → Option Actor → Type 0
MakerIn m (Some (actor.Script i)) = i < length m.actors
MakerIn m _ = Unit {0}

step_maker : (m : Machine) (past : List Entry) (now : EventNow) (i : ℕ) (position : ScriptPosition) (asked : Bool) (o : Option Op) (k : Kind) → i < length m.actors → StepMade m past now position asked o k → MakerIn m (maker past) → MakerIn m (maker_after k (actor.Script i) (maker past))
step_maker m past now i position asked _ _ l (StepMade.Attempts text s f on) h = l
step_maker m past now i position asked _ _ l _ h = h

work_maker : (m : Machine) (past : List Entry) (now : EventNow) (w : Work) (k : Kind) → WorkMade m past now w k → MakerIn m (maker past) → MakerIn m (maker_after k actor.Auto (maker past))
work_maker m past now _ _ (WorkMade.Attempts c on) h = tt
work_maker m past now _ _ _ h = h

own_maker : (m : Machine) (past : List Entry) (now : EventNow) (there : Stage) (k : Kind) (who : Actor) → Made m past now there k → MakerIn m (maker past) → MakerIn m (maker_after k who (maker past))
own_maker m past now _ _ who Made.Ends h = tt
own_maker m past now _ _ who _ h = h

device_maker : (m : Machine) (past : List Entry) (now : EventNow) (d : ℕ) (k : Kind) → DeviceMade m past now d k → MakerIn m (maker past) → MakerIn m (maker_after k (actor.Dev d) (maker past))
device_maker m past now d _ (DeviceMade.OwnFails p r w g f) h = h
device_maker m past now d _ _ h = h

entry_maker : (m : Machine) (past : List Entry) (now : EventNow) (who : Actor) (k : Kind) → EntryMade m past now who k → MakerIn m (maker past) → MakerIn m (maker_after k who (maker past))
entry_maker m past now who k (ByMaker _ here there _ own at come x) h = own_maker m past now there k who x h
entry_maker m past now _ k (ByTask i _ other (TaskMade.Freezes s go asked)) h = h
entry_maker m past now _ _ (ByTask i _ other (TaskMade.Steps s k o go at x)) h = step_maker m past now i _ _ o k (slice_get_within m.actors i s go.script) x h
entry_maker m past now _ k (ByWork w _ other awake over at x) h = work_maker m past now w k x h
entry_maker m past now _ k (ByDevice d _ other x) h = device_maker m past now d k x h
entry_maker m past now _ _ ByTime h = h

pub maker_in : (m : Machine) (past : List Entry) → JournalPart m past → MakerIn m (maker past)
maker_in m [] h = tt
maker_in m (e ∷ past) h = entry_maker m past e.now e.actor e.kind (entry_made m past e h) (maker_in m past h.1)

pub not_device_maker : (d : ℕ) (o : Option Actor) (s : Option Stage) → StageMaker o s → is_actor (actor.Dev d) o ≡ false
not_device_maker d None s h = refl
not_device_maker d (Some (actor.Script i)) s h = refl
not_device_maker d (Some actor.Auto) s h = refl
not_device_maker d (Some (actor.Dev e)) s h = absurd h
not_device_maker d (Some (actor.Timer e)) s h = absurd h
not_device_maker d (Some actor.Time) s h = absurd h

-- ---- nobody can go on

pub sooner_none : (a b : Option ℕ) → sooner a b ≡ None → (a ≡ None) × (b ≡ None)
sooner_none None b e = (refl, e)
sooner_none (Some x) None e = absurd (some≢none x e)
sooner_none (Some x) (Some y) e = absurd (some≢none (min x y) e)

pub no_alarm : (m : Machine) (o : Option Sleep) → alarm_at m o ≡ None → o ≡ None
no_alarm m None e = refl
no_alarm m (Some s) e = absurd (some≢none (s.since + m.alarm_ms) e)

pub no_deadline : (o : Option ℕ) → deadline_at o ≡ None → o ≡ None
no_deadline None e = refl
no_deadline (Some s) e = absurd (some≢none (gives_up_at s) e)

pub async_there : (m : Machine) (d : ℕ) → is_async_device m d ≡ true → d < length m.devices
async_there m d e = by_test (nat_lt d (length m.devices)) refl
  where
    by_test : (b : Bool) → nat_lt d (length m.devices) ≡ b → d < length m.devices
    by_test true f = grind (arith, nat_tests)
    by_test false f =
        let l : length m.devices ≤ d = grind (arith, nat_tests) in
        let k : length (map is_async m.devices) ≤ d = omega (arith, length-map m.devices is_async) in
        absurd (true≢false (sym e ∙ get_or_past (map is_async m.devices) d false k))

pub none_of : (m : Machine) (past : List Entry) (of : ℕ → List Entry) (now : EventNow) (who : ℕ → Actor) (n : ℕ) → none_enabled m past of now who n ≡ true → (i : ℕ) → i < n → is_enabled m past of now (who i) ≡ false
none_of m past of now who zero h i l = absurd (omega arith)
none_of m past of now who (suc n) h i l = by_test (i == n) refl (λ k. none_of m past of now who n (and_right (not (is_enabled m past of now (who n))) (none_enabled m past of now who n) h) i k)
  where
    by_test : (b : Bool) → (i == n) ≡ b → (i < n → is_enabled m past of now (who i) ≡ false) → is_enabled m past of now (who i) ≡ false
    by_test true e rest = ap (λ x. is_enabled m past of now (who x)) (eqb-true i n e) ∙ not_true (is_enabled m past of now (who n)) (and_left (not (is_enabled m past of now (who n))) (none_enabled m past of now who n) h)
    by_test false e rest = let other : i ≢ n = different i n e in rest (omega arith)

pub not_made : (m : Machine) (past : List Entry) (of : ℕ → List Entry) (now : EventNow) (who : Actor) → is_enabled m past of now who ≡ false → is_made (due m past who now) ≡ false
not_made m past of now who e = or_right_false (is_calling (length m.sources + 1) of who || nat_lt (made (length m.sources + 1) of who) (calls_due m who past)) (is_made (due m past who now)) e

-- if nobody can make anything and no moment is pending no attempt is open
pub no_attempt : (m : Machine) (past : List Entry) → IsRanked m past → JournalPart m past → (of : ℕ → List Entry) (now : EventNow) → is_idle m past of now ≡ true → next_time m past of ≡ None → maker past ≡ None
no_attempt m past ranks journal of now idle timeless = by_maker (maker past) refl (lock_agrees m past journal).2 (maker_in m past journal)
  where
    scripts : Bool
    scripts = none_enabled m past of now actor.Script (length m.actors)

    devices : Bool
    devices = none_enabled m past of now actor.Dev (length m.devices)

    work : Bool
    work = not (is_enabled m past of now actor.Auto)

    expiries : Bool
    expiries = none_expires (length m.sources + 1) of (time_of past)

    three_idle : (scripts && work && devices) ≡ true
    three_idle = and_left (scripts && work && devices) expiries idle

    scripts_idle : scripts ≡ true
    scripts_idle = and_left scripts work (and_left (scripts && work) devices three_idle)

    work_idle : work ≡ true
    work_idle = and_right scripts work (and_left (scripts && work) devices three_idle)

    devices_idle : devices ≡ true
    devices_idle = and_right (scripts && work) devices three_idle

    by_journal : journal_time m past ≡ None
    by_journal = (sooner_none (journal_time m past) (next_expiry (length m.sources + 1) of) timeless).0

    rest_none : sooner (deadline_at (freeze_since past)) (sooner (pending_nap past) (next_sleep m past (length m.actors))) ≡ None
    rest_none = (sooner_none (alarm_at m (sleep_of past)) (sooner (deadline_at (freeze_since past)) (sooner (pending_nap past) (next_sleep m past (length m.actors)))) by_journal).1

    awake : sleep_of past ≡ None
    awake = no_alarm m (sleep_of past) (sooner_none (alarm_at m (sleep_of past)) (sooner (deadline_at (freeze_since past)) (sooner (pending_nap past) (next_sleep m past (length m.actors)))) by_journal).0

    unfrozen : freeze_since past ≡ None
    unfrozen = no_deadline (freeze_since past) (sooner_none (deadline_at (freeze_since past)) (sooner (pending_nap past) (next_sleep m past (length m.actors))) rest_none).0

    stuck : (d : ℕ) → is_among (order m past) d ≡ true → is_async_device m d ≡ true → StuckAt m past now d
    stuck d o a =
        let e : is_made (due m past (actor.Dev d) now) ≡ false = not_made m past of now (actor.Dev d) (none_of m past of now actor.Dev (length m.devices) devices_idle d (async_there m d a)) in
        ap (λ b. is_made (cond b (attempt_due m past now) (own_due m past (actor.Dev d) now))) (sym (not_device_maker d (maker past) (stage_of past) (lock_agrees m past journal).2)) ∙ e

    at_stage : (o : Option Stage) → stage_of past ≡ o → (w : Actor) → StageMaker (Some w) o → ProperIf o → is_made (due_at m past now o) ≡ false → ⊥
    at_stage (Some here) e w s p x = stage_goes m past ranks now journal stuck awake unfrozen here e p x
    at_stage None e (actor.Script i) s p x = s
    at_stage None e actor.Auto s p x = s
    at_stage None e (actor.Dev d) s p x = s
    at_stage None e (actor.Timer d) s p x = s
    at_stage None e actor.Time s p x = s

    -- the maker of an open attempt makes something
    makes : (w : Actor) → maker past ≡ Some w → is_same w w ≡ true → StageMaker (Some w) (stage_of past) → is_made (due m past w now) ≡ false → ⊥
    makes w e same s x =
        let is : is_actor w (maker past) ≡ true = ap (is_actor w) e ∙ same in
        at_stage (stage_of past) refl w s (stage_proper past) (ap (λ b. is_made (cond b (attempt_due m past now) (own_due m past w now))) (sym is) ∙ x)

    by_maker : (o : Option Actor) → maker past ≡ o → StageMaker o (stage_of past) → MakerIn m o → maker past ≡ None
    by_maker None e s l = e
    by_maker (Some (actor.Script i)) e s l = absurd (makes (actor.Script i) e (same_number i) s (not_made m past of now (actor.Script i) (none_of m past of now actor.Script (length m.actors) scripts_idle i l)))
    by_maker (Some actor.Auto) e s l = absurd (makes actor.Auto e refl s (not_made m past of now actor.Auto (not_true (is_enabled m past of now actor.Auto) work_idle)))
    by_maker (Some (actor.Dev d)) e s l = absurd s
    by_maker (Some (actor.Timer d)) e s l = absurd s
    by_maker (Some actor.Time) e s l = absurd s
