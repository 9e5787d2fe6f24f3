-- The states that devices have at each stage of an attempt.
use Rattle.std.proofs.Common.{◌≡◌, ◌∙◌, ℕ, Bool, true, false, List, ◌∷◌, is_some, Option, Some, None, refl, sym, ap, subst, cond}
use Rattle.std.proofs.lemmas.Bool.{true≢false}
use Rattle.sleep_base.specs.declared.errno.Errno.{Errno}
use Rattle.sleep_model.specs.declared.entry.Entry.{Entry}
use Rattle.sleep_model.specs.declared.machine.Machine.{Machine}
use Rattle.sleep_model.specs.declared.machine.PlatDo.TheVariants as down
use Rattle.sleep_model.specs.declared.progress.Callback.{Callback}
use Rattle.sleep_model.specs.declared.progress.Stage.{Stage}
use Rattle.sleep_model.specs.declared.progress.Stage.TheVariants as stage
use Rattle.sleep_model.specs.declared.progress.PhaseState.{PhaseState}
use Rattle.sleep_model.specs.declared.progress.PhaseState.TheVariants as state
use Rattle.phase_table.specs.declared.phase.Phase.{Phase}
use Rattle.phase_table.specs.declared.phase.Phase.TheVariants as phase
use Rattle.phase_table.specs.Phases.{mirror, is_down}
use Rattle.sleep_model.specs.Devices.{callback, phase_failed, error_in, is_async_device, state_in}
use Rattle.sleep_model.specs.Order.{order, is_among}
use Rattle.sleep_model.specs.PhaseStates.{is_prepared, is_ready, is_down_in, is_direct_complete, ended_by, device_of}
use Rattle.sleep_laws.proofs.Boards.{order_stays, Three, at, at_is, three, three_after, moved_all, Change, Here, Elsewhere, all_three}
use Rattle.sleep_laws.proofs.Made.{Down, InSuspend, InLate, InNoirq, Up, InResume, InEarly, InResumeNoirq}
use Rattle.sleep_laws.proofs.Moods.{Mood, Empty, Fresh, Going, Settled, Halted, Coming, Risen, mood_if, in_down, in_up, allows, allows_unprepared, when_fresh, when_going, when_coming, unprepared_is, allows_more}

-- ---- one device

-- scheduled and not yet begun, on the way down or up (async_schedule_dev)
abbrev pub is_scheduled : PhaseState → Bool
is_scheduled state.Scheduled = true
is_scheduled state.Rescheduled = true
is_scheduled _ = false

-- all devices of the order are prepared at these stages: from the way down on until a failure or the entering
abbrev pub is_full : Stage → Bool
is_full (stage.Downs p) = true
is_full (stage.PlatformDo down.Prepare) = true
is_full (stage.PlatformDo down.PrepareLate) = true
is_full stage.StopsCpus = true
is_full stage.StopsIrqs = true
is_full stage.ChecksWakeup = true
is_full stage.StopsSyscore = true
is_full stage.Enters = true
is_full _ = false

abbrev pub is_full_if : Option Stage → Bool
is_full_if None = false
is_full_if (Some s) = is_full s

abbrev pub When : Bool → Type 0 → Type 0
When true what = what
When false what = Unit {0}

pub when_any : (b : Bool) (what : Type 0) → what → When b what
when_any true what h = h
when_any false what h = tt

-- what holds of device d of that order, which is asynchronous or not, by what the devices have come to, whether all are prepared, and
-- whether there is an error
pub record IsFine (o : List ℕ) (async : Bool) (moods : Phase → Mood) (full error : Bool) (d : ℕ) (t : Three) : Type 0 where
  pub allowed : (q : Phase) → Down q → allows (moods q) error (at t q) ≡ true
  pub alike : (q : Phase) → Down q → is_prepared (at t q) ≡ is_prepared t.suspend
  pub of_order : is_prepared t.suspend ≡ true → is_among o d ≡ true
  pub alone : (q : Phase) → Down q → is_direct_complete (at t q) ≡ true → is_direct_complete t.suspend ≡ true
  pub prepared : When full (is_among o d ≡ true → is_prepared t.suspend ≡ true)
  pub scheduled : (q : Phase) → Down q → is_scheduled (at t q) ≡ true → async ≡ true

at_all : (q : Phase) (s : PhaseState) → Down q → at (all_three s) q ≡ s
at_all _ s InSuspend = refl
at_all _ s InLate = refl
at_all _ s InNoirq = refl

-- an unprepared device has a state that is allowed, whatever the devices have come to
pub unprepared_fine : (o : List ℕ) (async : Bool) (moods : Phase → Mood) (error : Bool) (d : ℕ) → IsFine o async moods false error d (all_three state.Unprepared)
unprepared_fine o async moods error d = record {
  allowed = λ q i. subst (λ (s : PhaseState). allows (moods q) error s ≡ true) (sym (at_all q state.Unprepared i)) (allows_unprepared (moods q) error);
  alike = λ q i. ap is_prepared (at_all q state.Unprepared i);
  of_order = λ e. absurd (true≢false (sym e));
  alone = λ q i e. absurd (true≢false (sym e ∙ ap is_direct_complete (at_all q state.Unprepared i)));
  prepared = tt;
  scheduled = λ q i e. absurd (true≢false (sym e ∙ ap is_scheduled (at_all q state.Unprepared i)));
}

-- a device that no phase has is allowed in any order
empty_unprepared : (error : Bool) (s : PhaseState) → allows Empty error s ≡ true → is_prepared s ≡ false
empty_unprepared error state.Unprepared h = refl
empty_unprepared error _ h = absurd (true≢false (sym h))

pub empty_fine : (o after : List ℕ) (async error : Bool) (d : ℕ) (t : Three) → IsFine o async (λ q. Empty) false error d t → IsFine after async (λ q. Empty) false error d t
empty_fine o after async error d t h = record {
  allowed = h.allowed;
  alike = h.alike;
  of_order = λ e. absurd (true≢false (sym e ∙ empty_unprepared error t.suspend (h.allowed phase.Suspend InSuspend)));
  alone = h.alone;
  prepared = tt;
  scheduled = h.scheduled;
}

-- a prepared one has a state that is allowed while none is taken
pub prepared_fine : (o : List ℕ) (async error : Bool) (d : ℕ) → is_among o d ≡ true → IsFine o async (λ q. Fresh) false error d (all_three state.Prepared)
prepared_fine o async error d among = record {
  allowed = λ q i. ap when_fresh (at_all q state.Prepared i);
  alike = λ q i. ap is_prepared (at_all q state.Prepared i);
  of_order = λ e. among;
  alone = λ q i e. absurd (true≢false (sym e ∙ ap is_direct_complete (at_all q state.Prepared i)));
  prepared = tt;
  scheduled = λ q i e. absurd (true≢false (sym e ∙ ap is_scheduled (at_all q state.Prepared i)));
}

module _ (o : List ℕ) (async : Bool) (moods : Phase → Mood) (full error : Bool) (d : ℕ) (t : Three) (h : IsFine o async moods full error d t) where
  -- an error more forbids nothing
  pub fine_more : (after : Bool) → (error ≡ true → after ≡ true) → IsFine o async moods full after d t
  fine_more after more = record {
    allowed = λ q i. allows_more (moods q) error after (at t q) more (h.allowed q i);
    alike = h.alike;
    of_order = h.of_order;
    alone = h.alone;
    prepared = h.prepared;
    scheduled = h.scheduled;
  }

  -- the devices come to something else, and this one has a state that is allowed
  pub fine_else : (then : Phase → Mood) (all after : Bool) → ((q : Phase) → Down q → allows (then q) after (at t q) ≡ true) → When all (is_among o d ≡ true → is_prepared t.suspend ≡ true) → IsFine o async then all after d t
  fine_else then all after right every = record { allowed = right; alike = h.alike; of_order = h.of_order; alone = h.alone; prepared = every; scheduled = h.scheduled }

  -- the device is unprepared if it is not of the order
  pub outside : is_among o d ≡ false → (q : Phase) → Down q → at t q ≡ state.Unprepared
  outside out q i = unprepared_is (at t q) (h.alike q i ∙ by_test (is_prepared t.suspend) refl)
    where
      by_test : (b : Bool) → is_prepared t.suspend ≡ b → is_prepared t.suspend ≡ false
      by_test true e = absurd (true≢false (sym (h.of_order e) ∙ out))
      by_test false e = e

  -- what is so of no device of the order, and of none that is unprepared, is not so of this one
  pub none_so : (test : PhaseState → Bool) → test state.Unprepared ≡ false → (q : Phase) → Down q → (is_among o d ≡ true → test (at t q) ≡ false) → test (at t q) ≡ false
  none_so test un q i within = by_place (is_among o d) refl
    where
      by_place : (b : Bool) → is_among o d ≡ b → test (at t q) ≡ false
      by_place true e = within e
      by_place false e = ap test (outside e q i) ∙ un

  -- the device moves only in phase p
  module _ (p : Phase) (i : Down p) (s : PhaseState) (u : Three) (changes : (q : Phase) → Down q → Change p s t u q) (after : Bool) where
    fine_turn : is_prepared s ≡ true → is_prepared (at t p) ≡ true → is_direct_complete (at t p) ≡ false → allows (moods p) after s ≡ true → (error ≡ true → after ≡ true) → (is_direct_complete s ≡ true → is_direct_complete u.suspend ≡ true) → (is_scheduled s ≡ true → async ≡ true) → IsFine o async moods full after d u
    fine_turn ready was apart right more lone gives = record {
      allowed = λ q j. by_allowed q j (changes q j);
      alike = λ q j. by_prepared q j (changes q j) ∙ sym (by_prepared phase.Suspend InSuspend (changes phase.Suspend InSuspend));
      of_order = λ e. h.of_order before;
      alone = λ q j e. by_alone q j e (changes q j);
      prepared = when_any full _ (λ e. by_prepared phase.Suspend InSuspend (changes phase.Suspend InSuspend));
      scheduled = λ q j e. by_scheduled q j e (changes q j);
    }
      where
        before : is_prepared t.suspend ≡ true
        before = sym (h.alike p i) ∙ was

        by_allowed : (q : Phase) → Down q → Change p s t u q → allows (moods q) after (at u q) ≡ true
        by_allowed q j (Here e f) = subst (λ (x : PhaseState). allows (moods q) after x ≡ true) (sym f) (subst (λ (r : Phase). allows (moods r) after s ≡ true) (sym e) right)
        by_allowed q j (Elsewhere f) = subst (λ (x : PhaseState). allows (moods q) after x ≡ true) (sym f) (allows_more (moods q) error after (at t q) more (h.allowed q j))

        by_prepared : (q : Phase) → Down q → Change p s t u q → is_prepared (at u q) ≡ true
        by_prepared q j (Here e f) = ap is_prepared f ∙ ready
        by_prepared q j (Elsewhere f) = ap is_prepared f ∙ (h.alike q j ∙ before)

        stays : Change p s t u phase.Suspend → is_direct_complete t.suspend ≡ true → is_direct_complete u.suspend ≡ true
        stays (Here e f) k = absurd (true≢false (sym k ∙ (ap (λ (r : Phase). is_direct_complete (at t r)) e ∙ apart)))
        stays (Elsewhere f) k = ap is_direct_complete f ∙ k

        by_alone : (q : Phase) → Down q → is_direct_complete (at u q) ≡ true → Change p s t u q → is_direct_complete u.suspend ≡ true
        by_alone q j k (Here e f) = lone (ap is_direct_complete (sym f) ∙ k)
        by_alone q j k (Elsewhere f) = stays (changes phase.Suspend InSuspend) (h.alone q j (ap is_direct_complete (sym f) ∙ k))

        by_scheduled : (q : Phase) → Down q → is_scheduled (at u q) ≡ true → Change p s t u q → async ≡ true
        by_scheduled q j k (Here e f) = gives (ap is_scheduled (sym f) ∙ k)
        by_scheduled q j k (Elsewhere f) = h.scheduled q j (ap is_scheduled (sym f) ∙ k)

-- ---- all devices

-- whether the phase that is open has an error
abbrev pub errs : List Entry → Bool
errs past = is_some (phase_failed past)

-- each device has a state that is allowed
abbrev pub Fines : Machine → List Entry → (Phase → Mood) → Bool → Type 0
Fines m past moods full = (d : ℕ) → IsFine (order m past) (is_async_device m d) moods full (errs past) d (three m past d)

-- the maker is inside the callback of a synchronous device, which has that state in phase p
pub record Inside (m : Machine) (c : Callback) (s : PhaseState) (p : Phase) (states : ℕ → Three) : Type 0 where
  pub beside : is_async_device m c.device ≡ false
  pub inside : at (states c.device) p ≡ s

abbrev pub InsideIf : Machine → Option Callback → PhaseState → Phase → (ℕ → Three) → Type 0
InsideIf m None s p states = Unit {0}
InsideIf m (Some c) s p states = Inside m c s p states

-- the callback that the maker runs, by the stage: none but in a phase with devices
abbrev pub CallAt : Machine → Stage → Option Callback → (ℕ → Three) → Type 0
CallAt m (stage.Downs p) o states = InsideIf m o state.Suspending p states
CallAt m (stage.Ups p) o states = InsideIf m o state.Resuming (mirror p) states
CallAt m _ o states = o ≡ None

abbrev pub CallIf : Machine → Option Stage → Option Callback → (ℕ → Three) → Type 0
CallIf m None o states = o ≡ None
CallIf m (Some s) o states = CallAt m s o states

-- the states of devices at a stage
abbrev pub DevicePhases : Machine → List Entry → Option Stage → Type 0
DevicePhases m past st = Fines m past (λ q. mood_if st q) (is_full_if st) × CallIf m st (callback past) (three m past)

-- a device moves only in one phase
module _ (m : Machine) (past : List Entry) (e : Entry) (d : ℕ) (is : device_of e.kind ≡ Some d) (moods : Phase → Mood) (full : Bool) (h : Fines m past moods full) where
  pub turn : (p : Phase) → Down p → (b s : PhaseState) → state_in m past p d ≡ b → is_prepared b ≡ true → is_direct_complete b ≡ false → is_prepared s ≡ true → allows (moods p) (errs (e ∷ past)) s ≡ true → (errs past ≡ true → errs (e ∷ past) ≡ true) → (is_direct_complete s ≡ true → is_direct_complete (three_after e.kind (three m past d)).suspend ≡ true) → (is_scheduled s ≡ true → is_async_device m d ≡ true) → ((q : Phase) → Down q → Change p s (three m past d) (three_after e.kind (three m past d)) q) → Fines m (e ∷ past) moods full
  turn p i b s states was apart ready right more lone gives changes =
      let here : at (three m past d) p ≡ b = at_is m past p d i ∙ states in
      subst (λ (o : List ℕ). (x : ℕ) → IsFine o (is_async_device m x) moods full (errs (e ∷ past)) x (three m (e ∷ past) x)) (sym (order_stays m past e d is))
      (moved_all m past e d is (λ (x : ℕ) (t : Three). IsFine (order m past) (is_async_device m x) moods full (errs (e ∷ past)) x t)
      (λ x. fine_more (order m past) (is_async_device m x) moods full (errs past) x (three m past x) (h x) (errs (e ∷ past)) more)
      (fine_turn (order m past) (is_async_device m d) moods full (errs past) d (three m past d) (h d) p i s (three_after e.kind (three m past d)) changes (errs (e ∷ past)) ready (ap is_prepared here ∙ was) (ap is_direct_complete here ∙ apart) right more lone gives))

-- ---- what the moods say

pub going_allows : (p : Phase) → Down p → (e : Bool) (s : PhaseState) → when_going e s ≡ true → allows (in_down p p) e s ≡ true
going_allows _ InSuspend e s h = h
going_allows _ InLate e s h = h
going_allows _ InNoirq e s h = h

pub coming_allows : (p : Phase) → Up p → (e : Bool) (s : PhaseState) → when_coming s ≡ true → allows (in_up p (mirror p)) e s ≡ true
coming_allows _ InResume e s h = h
coming_allows _ InEarly e s h = h
coming_allows _ InResumeNoirq e s h = h

-- a device that is scheduled, or inside its callback, on the way down is so only while they go down
pub scheduled_goes : (a : Mood) (e f : Bool) (s : PhaseState) → allows a e state.Scheduled ≡ true → when_going f s ≡ true → allows a f s ≡ true
scheduled_goes Going e f s k h = h
scheduled_goes Empty e f s k h = absurd (true≢false (sym k))
scheduled_goes Fresh e f s k h = absurd (true≢false (sym k))
scheduled_goes Settled e f s k h = absurd (true≢false (sym k))
scheduled_goes Halted e f s k h = absurd (true≢false (sym k))
scheduled_goes Coming e f s k h = absurd (true≢false (sym k))
scheduled_goes Risen e f s k h = absurd (true≢false (sym k))

pub suspending_goes : (a : Mood) (e f : Bool) (s : PhaseState) → allows a e state.Suspending ≡ true → when_going f s ≡ true → allows a f s ≡ true
suspending_goes Going e f s k h = h
suspending_goes Empty e f s k h = absurd (true≢false (sym k))
suspending_goes Fresh e f s k h = absurd (true≢false (sym k))
suspending_goes Settled e f s k h = absurd (true≢false (sym k))
suspending_goes Halted e f s k h = absurd (true≢false (sym k))
suspending_goes Coming e f s k h = absurd (true≢false (sym k))
suspending_goes Risen e f s k h = absurd (true≢false (sym k))

pub rescheduled_comes : (a : Mood) (e f : Bool) (s : PhaseState) → allows a e state.Rescheduled ≡ true → when_coming s ≡ true → allows a f s ≡ true
rescheduled_comes Coming e f s k h = h
rescheduled_comes Empty e f s k h = absurd (true≢false (sym k))
rescheduled_comes Fresh e f s k h = absurd (true≢false (sym k))
rescheduled_comes Settled e f s k h = absurd (true≢false (sym k))
rescheduled_comes Halted e f s k h = absurd (true≢false (sym k))
rescheduled_comes Going e f s k h = absurd (true≢false (sym k))
rescheduled_comes Risen e f s k h = absurd (true≢false (sym k))

pub resuming_comes : (a : Mood) (e f : Bool) (s : PhaseState) → allows a e state.Resuming ≡ true → when_coming s ≡ true → allows a f s ≡ true
resuming_comes Coming e f s k h = h
resuming_comes Empty e f s k h = absurd (true≢false (sym k))
resuming_comes Fresh e f s k h = absurd (true≢false (sym k))
resuming_comes Settled e f s k h = absurd (true≢false (sym k))
resuming_comes Halted e f s k h = absurd (true≢false (sym k))
resuming_comes Going e f s k h = absurd (true≢false (sym k))
resuming_comes Risen e f s k h = absurd (true≢false (sym k))

pub ready_is : (s : PhaseState) → is_ready s ≡ true → s ≡ state.Prepared
ready_is state.Prepared h = refl
ready_is _ h = absurd (true≢false (sym h))

pub down_is : (s : PhaseState) → is_down_in s ≡ true → s ≡ state.Suspended
down_is state.Suspended h = refl
down_is _ h = absurd (true≢false (sym h))

-- a callback on the way down that answers an error leaves one
pub fails_error : (p : Phase) → Down p → (r : Option Errno) (before : Option Errno) → when_going (is_some (error_in p r before)) (ended_by r) ≡ true
fails_error _ i None before = refl
fails_error _ InSuspend (Some x) before = refl
fails_error _ InLate (Some x) before = refl
fails_error _ InNoirq (Some x) before = refl

-- an error stays
pub error_stays : (p : Phase) (r before : Option Errno) → is_some before ≡ true → is_some (error_in p r before) ≡ true
error_stays p None before h = h
error_stays p (Some x) before h = by_test (is_down p)
  where
    by_test : (b : Bool) → is_some (cond b (Some x) before) ≡ true
    by_test true = refl
    by_test false = h

pub ended_prepared : (r : Option Errno) → is_prepared (ended_by r) ≡ true
ended_prepared None = refl
ended_prepared (Some x) = refl

pub ended_apart : (r : Option Errno) → is_direct_complete (ended_by r) ≡ false
ended_apart None = refl
ended_apart (Some x) = refl

pub ended_scheduled : (r : Option Errno) → is_scheduled (ended_by r) ≡ false
ended_scheduled None = refl
ended_scheduled (Some x) = refl
