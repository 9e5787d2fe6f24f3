-- Asynchronous devices: what is due is what keeps all rules.
use Rattle.std.proofs.Common.{◌≡◌, ◌∙◌, ℕ, Bool, true, false, List, Option, cond, refl, sym, ap, subst}
use Rattle.sleep_base.specs.declared.errno.Errno.{Errno}
use Rattle.sleep_model.specs.declared.entry.Actor.{Actor}
use Rattle.sleep_model.specs.declared.entry.Actor.TheVariants as actor
use Rattle.sleep_model.specs.declared.entry.Entry.{Entry}
use Rattle.sleep_model.specs.declared.entry.Kind.{Kind}
use Rattle.sleep_model.specs.declared.entry.Kind.TheVariants as kind
use Rattle.sleep_model.specs.declared.entry.SkipCause.{SkipCause}
use Rattle.sleep_model.specs.declared.entry.SkipCause.TheVariants as skip
use Rattle.sleep_model.specs.declared.machine.Machine.{Machine}
use Rattle.sleep_model.specs.declared.progress.AsyncWork.{AsyncWork}
use Rattle.sleep_model.specs.declared.progress.AsyncWork.TheVariants.{Idle, Scheduled, Inside}
use Rattle.sleep_model.specs.declared.progress.Due.TheVariants.{Makes}
use Rattle.sleep_model.specs.declared.word.EventNow.{EventNow}
use Rattle.phase_table.specs.declared.phase.Phase.{Phase}
use Rattle.phase_table.specs.Phases.{is_down, mirror}
use Rattle.sleep_model.specs.Attempt.{attempt_due, freeze_since, sleep_of}
use Rattle.sleep_model.specs.Devices.{after_device, async_work, device_due, device_error, is_async_device, waits_above, waits_for_subordinates}
use Rattle.sleep_model.specs.Legal.{JournalPart}
use Rattle.sleep_model.specs.Numbers.{time_of}
use Rattle.sleep_model.specs.Path.{maker, is_actor}
use Rattle.sleep_laws.proofs.DeviceLaws.{all_owed}
use Rattle.sleep_laws.proofs.Made.{Down, InSuspend, InLate, InNoirq, Up, InResume, InEarly, InResumeNoirq, ScheduledAt, DeviceMade, EntryMade, ByMaker, ByTask, ByWork, ByDevice, ByTime}
use Rattle.sleep_laws.proofs.MakingOwn.{made}
use Rattle.rule_definitions.specs.All.{KeepsAll, KeepsMost}
use Rattle.rule_definitions.specs.Answers.{KeepsAnswers}
use Rattle.rule_definitions.specs.Attempts.{KeepsAttempts}
use Rattle.rule_definitions.specs.Links.{KeepsLinks}
use Rattle.rule_definitions.specs.Owed.{KeepsOwed}
use Rattle.rule_definitions.specs.Restored.{KeepsRestored}
use Rattle.rule_definitions.specs.Runtime.{KeepsRuntime}
use Rattle.rule_definitions.specs.Enabled.{AwakeActor}
use Rattle.rule_definitions.specs.Freezer.{FreezesActor, FreezesNot}
use Rattle.rule_definitions.specs.Law.{IsDue, OneForDevices}
use Rattle.rule_definitions.specs.Path.{PathOf}
use Rattle.rule_definitions.specs.Questions.{is_maker, row_now, turn_of}
use Rattle.rule_definitions.specs.Reads.{ReadsActor, ReadsElse}
use Rattle.rule_definitions.specs.Skip.{KeepsSkip, IsTurn, IsScheduledDown}
use Rattle.rule_definitions.specs.Steps.{IsDeviceStep, StepsOf}
use Rattle.rule_definitions.specs.Walk.{KeepsWalk, BeginsAsync, BeginsBy, EndsBy, EndsAsync}
use Rattle.log_rules.proofs.Facts.{never, NoFroze, NoWake, freeze_else, wake_else}

-- ---- what keeps all rules is due

-- a device has work of its own
abbrev HasWork : AsyncWork → Type 0
HasWork Idle = ⊥
HasWork _ = Unit {0}

works_beside : (b : Bool) (x w : AsyncWork) → cond b x Idle ≡ w → HasWork w → b ≡ true
works_beside true x w e h = refl
works_beside false x w e h = absurd (subst HasWork (sym e) h)

begin_back : (m : Machine) (past : List Entry) (now : EventNow) (p : Phase) (d : ℕ) (b : Bool) → BeginsAsync m past now p d b → cond b (after_device (waits_for_subordinates m past p d) (Makes (turn_of m past now p d))) (after_device (waits_above m past (mirror p) d) (Makes (kind.Begin p d))) ≡ Makes (kind.Begin p d)
begin_back m past now p d true h = rw h.0.waits (ap Makes h.1)
begin_back m past now p d false h = rw h.1 refl

device_back : (m : Machine) (past : List Entry) (now : EventNow) (d : ℕ) (w : AsyncWork) (k : Kind) → async_work m past d ≡ w → KeepsWalk m past now k → KeepsSkip m past now k → IsDeviceStep d w k → device_due m past now d w ≡ Makes k
device_back m past now d (Scheduled p) (kind.Begin q e) a wk sk s =
    let same : kind.Begin q e ≡ kind.Begin p d = rw (s.0, s.1) refl in
    let here : KeepsWalk m past now (kind.Begin p d) = subst (KeepsWalk m past now) same wk in
    let beside : is_async_device m d ≡ true = works_beside (is_async_device m d) _ (Scheduled p) a tt in
    begin_back m past now p d (is_down p) (subst (λ (b : Bool). BeginsBy m past now p d b (row_now m past)) beside here) ∙ ap Makes (sym same)
device_back m past now d (Scheduled p) (kind.Skip q e cause) a wk sk s =
    let same : kind.Skip q e cause ≡ kind.Skip p d cause = rw (s.0, s.1) refl in
    let here : KeepsSkip m past now (kind.Skip p d cause) = subst (KeepsSkip m past now) same sk in
    let beside : is_async_device m d ≡ true = works_beside (is_async_device m d) _ (Scheduled p) a tt in
    let turn : IsScheduledDown m past p d = subst (λ (b : Bool). IsTurn m past p d b (row_now m past)) beside here.0 in
    rw (turn.down) (rw (turn.waits) (ap Makes here.1)) ∙ ap Makes (sym same)
device_back m past now d (Inside p) (kind.End q e r) a wk sk s =
    let same : kind.End q e r ≡ kind.End p d r = rw (s.0, s.1) refl in
    let here : KeepsWalk m past now (kind.End p d r) = subst (KeepsWalk m past now) same wk in
    ap (λ x. Makes (kind.End p d x)) (sym here.1) ∙ ap Makes (sym same)
device_back m past now d _ _ a wk sk s = absurd s

back : (m : Machine) (past : List Entry) (now : EventNow) (d : ℕ) (k : Kind) → is_maker past (actor.Dev d) ≡ false → KeepsMost m past now (actor.Dev d) k → IsDue m past now (actor.Dev d) k
back m past now d k e h = rw e (device_back m past now d (async_work m past d) k refl h.walk h.skip (subst (λ (b : Bool). StepsOf m past now (actor.Dev d) b k) e h.steps))

-- ---- what is due keeps all rules

pub down_is : (p : Phase) → Down p → is_down p ≡ true
down_is _ InSuspend = refl
down_is _ InLate = refl
down_is _ InNoirq = refl

pub up_is : (p : Phase) → Up p → is_down p ≡ false
up_is _ InResume = refl
up_is _ InEarly = refl
up_is _ InResumeNoirq = refl

-- none of the other rules speaks of what a device makes
abbrev Rest : Kind → Type 0
Rest (kind.Begin p d) = Unit {0}
Rest (kind.End p d r) = Unit {0}
Rest (kind.Skip p d cause) = Unit {0}
Rest _ = ⊥

-- what a device keeps of the walk, of being passed over, and of its own steps; the other rules say little of it
abbrev Own : Machine → List Entry → EventNow → ℕ → Kind → Type 0
Own m past now d k =
    KeepsWalk m past now k × KeepsSkip m past now k × IsDeviceStep d (async_work m past d) k × Rest k

step_at : (d : ℕ) (p : Phase) (w : AsyncWork) (k : Kind) → w ≡ Scheduled p → IsDeviceStep d (Scheduled p) k → IsDeviceStep d w k
step_at d p w k e h = subst (λ (x : AsyncWork). IsDeviceStep d x k) (sym e) h

turn_at : (m : Machine) (past : List Entry) (p : Phase) (d : ℕ) → Down p → ScheduledAt m past p d → IsScheduledDown m past p d
turn_at m past p d w g = record { down = down_is p w; states = g.states; waits = g.waits }

skips : (m : Machine) (past : List Entry) (now : EventNow) (p : Phase) (d : ℕ) (cause : SkipCause) → Down p → ScheduledAt m past p d → turn_of m past now p d ≡ kind.Skip p d cause → Own m past now d (kind.Skip p d cause)
skips m past now p d cause w g e =
    (tt, (subst (λ (b : Bool). IsTurn m past p d b (row_now m past)) (sym g.beside) (turn_at m past p d w g), e), step_at d p (async_work m past d) (kind.Skip p d cause) g.work (refl, refl), tt)

begins : (m : Machine) (past : List Entry) (now : EventNow) (p : Phase) (d : ℕ) → is_async_device m d ≡ true → async_work m past d ≡ Scheduled p → BeginsAsync m past now p d (is_down p) → (is_down p ≡ true → turn_of m past now p d ≡ kind.Begin p d) → Own m past now d (kind.Begin p d)
begins m past now p d b a h t =
    (subst (λ (x : Bool). BeginsBy m past now p d x (row_now m past)) (sym b) h, t, step_at d p (async_work m past d) (kind.Begin p d) a (refl, refl), tt)

end_answer : (m : Machine) (past : List Entry) (now : EventNow) (d : ℕ) (p : Phase) (r : Option Errno) (w : AsyncWork) → w ≡ Inside p → device_due m past now d w ≡ Makes (kind.End p d r) → r ≡ device_error m past p d
end_answer m past now d p r w a e =
    let x : Makes (kind.End p d (device_error m past p d)) ≡ Makes (kind.End p d r) = subst (λ (z : AsyncWork). device_due m past now d z ≡ Makes (kind.End p d r)) a e in
    cc

ends : (m : Machine) (past : List Entry) (now : EventNow) (p : Phase) (d : ℕ) (r : Option Errno) → is_async_device m d ≡ true → async_work m past d ≡ Inside p → EndsAsync m past p d (is_down p) → device_due m past now d (async_work m past d) ≡ Makes (kind.End p d r) → Own m past now d (kind.End p d r)
ends m past now p d r b a h e =
    ((subst (λ (x : Bool). EndsBy m past p d x (row_now m past)) (sym b) h, end_answer m past now d p r (async_work m past d) a e), tt, subst (λ (x : AsyncWork). IsDeviceStep d x (kind.End p d r)) (sym a) (refl, refl), tt)

own_made : (m : Machine) (past : List Entry) (now : EventNow) (d : ℕ) (k : Kind) → DeviceMade m past now d k → device_due m past now d (async_work m past d) ≡ Makes k → Own m past now d k
own_made m past now d _ (DeviceMade.OwnFails p r w g f) e = skips m past now p d skip.Error w g (rw f refl)
own_made m past now d _ (DeviceMade.OwnFinds p w g f t b) e = skips m past now p d skip.Pending w g (rw (f, t, b) refl)
own_made m past now d _ (DeviceMade.OwnLeaves p w g f t a) e = skips m past now p d skip.Direct w g (rw (f, t, a) refl)
own_made m past now d _ (DeviceMade.OwnBegins p w g f t a) e =
    let turn : turn_of m past now p d ≡ kind.Begin p d = rw (f, t, a) refl in
    begins m past now p d g.beside g.work (subst (BeginsAsync m past now p d) (sym (down_is p w)) (turn_at m past p d w g, turn)) (λ i. turn)
own_made m past now d _ (DeviceMade.OwnRises p w b a s n) e =
    begins m past now p d b a (subst (BeginsAsync m past now p d) (sym (up_is p w)) (s, n)) (λ i. never (sym (up_is p w) ∙ i))
own_made m past now d _ (DeviceMade.OwnEnds p r w b a s) e = ends m past now p d r b a (subst (EndsAsync m past p d) (sym (down_is p w)) s) e
own_made m past now d _ (DeviceMade.OwnRose p r w b a s) e = ends m past now p d r b a (subst (EndsAsync m past p d) (sym (up_is p w)) s) e

-- the entry, at its index
abbrev placed : List Entry → EventNow → Actor → Kind → Entry
placed past now who k = record { time = time_of past; now = now; actor = who; kind = k }

abbrev IsTask : Actor → Type 0
IsTask (actor.Script i) = Unit {0}
IsTask _ = ⊥

abbrev IsWork : Actor → Type 0
IsWork actor.Auto = Unit {0}
IsWork _ = ⊥

abbrev IsTime : Actor → Type 0
IsTime actor.Time = Unit {0}
IsTime _ = ⊥

-- the rules that say nothing of what a device makes hold of it
fill : (m : Machine) (past : List Entry) (now : EventNow) (d : ℕ) (k : Kind) → is_maker past (actor.Dev d) ≡ false → KeepsLinks m past k → KeepsAttempts past k → KeepsRuntime m past k → KeepsAnswers past k → KeepsRestored m past k → FreezesNot k → NoFroze k → NoWake k → ReadsElse past now (actor.Dev d) k → Own m past now d k → KeepsOwed m past k → KeepsAll m past now (actor.Dev d) k
fill m past now d k e l a u n s z f w r o x = record {
  most = record {
    links = l;
    attempts = a;
    reads = subst (λ (b : Bool). ReadsActor m past now (actor.Dev d) b k) (sym e) r;
    walk = o.0;
    skip = o.1;
    runtime = u;
    freezer = (subst (λ (b : Bool). FreezesActor m past (actor.Dev d) b k) (sym e) z, freeze_else m past now (freeze_since past) k f);
    path = subst (λ (b : Bool). PathOf m past now b k) (sym e) tt;
    answers = n;
    steps = subst (λ (b : Bool). StepsOf m past now (actor.Dev d) b k) (sym e) o.2;
    enabled = (subst (λ (b : Bool). AwakeActor m past (actor.Dev d) b) (sym e) tt, wake_else m past now (sleep_of past) k w);
  };
  owed = x;
  restored = s;
}

-- of a device's entry the other rules ask nothing, but that what it undoes is owed
rest_keeps : (m : Machine) (past : List Entry) (now : EventNow) (d : ℕ) (k : Kind) → is_maker past (actor.Dev d) ≡ false → JournalPart m past → IsDue m past now (actor.Dev d) k → Own m past now d k → KeepsAll m past now (actor.Dev d) k
rest_keeps m past now d (kind.Begin p c) e j x o = fill m past now d (kind.Begin p c) e tt tt tt tt tt tt tt tt tt o (all_owed m past (placed past now (actor.Dev d) (kind.Begin p c)) ((x, refl), j))
rest_keeps m past now d (kind.End p c r) e j x o = fill m past now d (kind.End p c r) e tt tt tt tt tt tt tt tt tt o (all_owed m past (placed past now (actor.Dev d) (kind.End p c r)) ((x, refl), j))
rest_keeps m past now d (kind.Skip p c cause) e j x o = fill m past now d (kind.Skip p c cause) e tt tt tt tt tt tt tt tt tt o tt
rest_keeps m past now d _ e j x o = absurd o.3

-- a device that makes no attempt makes what is due of it as a device
by_device : (m : Machine) (past : List Entry) (now : EventNow) (d : ℕ) (who : Actor) (k : Kind) → EntryMade m past now who k → who ≡ actor.Dev d → is_actor who (maker past) ≡ false → DeviceMade m past now d k
by_device m past now d who k (ByMaker _ here there _ a e c x) s f = never (sym (sym a ∙ f))
by_device m past now d _ k (ByTask i _ a x) s f = absurd (subst IsTask s tt)
by_device m past now d _ k (ByWork w _ a y z e x) s f = absurd (subst IsWork s tt)
by_device m past now d _ k (ByDevice c _ a x) s f = subst (λ (y : ℕ). DeviceMade m past now y k) (let same : c ≡ d = cc in same) x
by_device m past now d _ _ ByTime s f = absurd (subst IsTime s tt)

forth : (m : Machine) (past : List Entry) (now : EventNow) (d : ℕ) (k : Kind) → is_maker past (actor.Dev d) ≡ false → JournalPart m past → IsDue m past now (actor.Dev d) k → KeepsAll m past now (actor.Dev d) k
forth m past now d k e j x =
    let own : device_due m past now d (async_work m past d) ≡ Makes k = subst (λ (b : Bool). cond b (attempt_due m past now) (device_due m past now d (async_work m past d)) ≡ Makes k) e x in
    rest_keeps m past now d k e j x (own_made m past now d k (by_device m past now d (actor.Dev d) k (made m past now (actor.Dev d) k x) refl e) own)

-- asynchronous devices
pub the_devices : OneForDevices
the_devices m past now d k e = record { keeps = forth m past now d k e; makes = back m past now d k e }
