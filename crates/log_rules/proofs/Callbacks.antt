-- Inside a callback its maker makes the end of it, as an entry of the journal, and nothing else.
use Rattle.std.proofs.Common.{◌≡◌, ◌∙◌, ℕ, Bool, true, false, ◌&&◌, List, Option, Some, None, is_some, refl, sym, ap, subst}
use Rattle.phase_table.specs.declared.phase.Phase.{Phase}
use Rattle.phase_table.specs.Phases.{is_down, mirror}
use Rattle.sleep_base.specs.declared.errno.Errno.{Errno}
use Rattle.sleep_model.specs.declared.entry.Actor.{Actor}
use Rattle.sleep_model.specs.declared.entry.Actor.TheVariants as actor
use Rattle.sleep_model.specs.declared.entry.Entry.{Entry}
use Rattle.sleep_model.specs.declared.entry.Kind.{Kind}
use Rattle.sleep_model.specs.declared.entry.Kind.TheVariants as kind
use Rattle.sleep_model.specs.declared.entry.SkipCause.{SkipCause}
use Rattle.sleep_model.specs.declared.machine.Machine.{Machine}
use Rattle.sleep_model.specs.declared.progress.AsyncWork.{AsyncWork}
use Rattle.sleep_model.specs.declared.progress.AsyncWork.TheVariants.{Inside}
use Rattle.sleep_model.specs.declared.progress.Callback.{Callback}
use Rattle.sleep_model.specs.declared.progress.Stage.{Stage}
use Rattle.sleep_model.specs.declared.progress.Stage.TheVariants as stage
use Rattle.sleep_model.specs.declared.word.EventNow.{EventNow}
use Rattle.sleep_model.specs.Devices.{async_work, callback, device_error, is_async_device}
use Rattle.sleep_model.specs.Legal.{JournalPart}
use Rattle.sleep_model.specs.Path.{maker, is_actor}
use Rattle.sleep_model.specs.Table.{stage_of}
use Rattle.sleep_laws.proofs.Boards.{three}
use Rattle.sleep_laws.proofs.LockHolding.{lock_agrees, StageMaker}
use Rattle.sleep_laws.proofs.DevicePhases.{CallIf}
use Rattle.rule_definitions.specs.All.{KeepsMost}
use Rattle.rule_definitions.specs.Path.{IsOfDown, IsOfUp, IsOfRowIf, PathOf}
use Rattle.rule_definitions.specs.Questions.{is_maker, row_now}
use Rattle.rule_definitions.specs.Skip.{IsTurn, KeepsSkip}
use Rattle.rule_definitions.specs.Steps.{IsDeviceStep, IsMakerStep, StepsOf}
use Rattle.rule_definitions.specs.Walk.{BeginsBy, DoneAt, EndsBy, EndsOwn, IsInside, KeepsWalk, SchedulesAt, is_in_callback, is_inside_work}
use Rattle.log_rules.proofs.Facts.{never}
use Rattle.log_rules.proofs.Inside.{and_left, and_right}
use Rattle.log_rules.proofs.Makers.{call_row}

-- ---- an asynchronous device

-- no device makes an attempt
device_makes_none : (d : ℕ) (o : Option Actor) (s : Option Stage) → StageMaker o s → is_actor (actor.Dev d) o ≡ false
device_makes_none d None s h = refl
device_makes_none d (Some (actor.Script i)) s h = refl
device_makes_none d (Some actor.Auto) s h = refl
device_makes_none d (Some (actor.Dev c)) (Some s) h = absurd h
device_makes_none d (Some (actor.Dev c)) None h = absurd h
device_makes_none d (Some (actor.Timer t)) s h = refl
device_makes_none d (Some actor.Time) s h = refl

-- inside its callback it makes the end
device_ends : (past : List Entry) (d : ℕ) (w : AsyncWork) (k : Kind) → is_inside_work w ≡ true → IsDeviceStep d w k → EndsOwn past (actor.Dev d) k
device_ends past d (Inside p) (kind.End q e r) i s = s.0
device_ends past d (Inside p) _ i s = absurd s
device_ends past d _ _ i s = never i

-- ---- who makes the attempt

-- the end of that callback
abbrev Ending : Option Callback → Kind → Type 0
Ending o (kind.End p d r) = IsInside d o
Ending o _ = ⊥

-- a callback runs, so none is not
free_not : (o : Option Callback) → is_some o ≡ true → o ≡ None → ⊥
free_not o i e = never (sym (ap is_some e) ∙ i)

module _ (m : Machine) (past : List Entry) (now : EventNow) (i : is_some (callback past) ≡ true) where
  busy : callback past ≡ None → ⊥
  busy e = free_not (callback past) i e

  -- on the way down
  down_ends : (p : Phase) → row_now m past ≡ Some (stage.Downs p) → (k : Kind) → IsOfDown p k → IsMakerStep m k → KeepsWalk m past now k → KeepsSkip m past now k → Ending (callback past) k
  down_ends p f (kind.Schedule q d) o s w t = absurd (busy (subst (SchedulesAt m past q d) f w).1)
  down_ends p f (kind.Begin q d) o s w t =
      absurd (busy (subst (λ (r : Option Stage). BeginsBy m past now q d false r) f (subst (λ (b : Bool). BeginsBy m past now q d b (row_now m past)) s w)).1.free)
  down_ends p f (kind.End q d r) o s w t =
      (subst (λ (x : Option Stage). EndsBy m past q d false x) f (subst (λ (b : Bool). EndsBy m past q d b (row_now m past)) s w.0)).1
  down_ends p f (kind.Skip q d cause) o s w t =
      absurd (busy (subst (λ (x : Option Stage). IsTurn m past q d false x) f (subst (λ (b : Bool). IsTurn m past q d b (row_now m past)) s t.0)).1.free)
  down_ends p f (kind.Done q r) o s w t = absurd (busy (subst (DoneAt m past q) f w).1.free)
  down_ends p f _ o s w t = absurd o

  -- on the way up
  up_ends : (p : Phase) → row_now m past ≡ Some (stage.Ups p) → (k : Kind) → IsOfUp p k → IsMakerStep m k → KeepsWalk m past now k → Ending (callback past) k
  up_ends p f (kind.Schedule q d) o s w = absurd (busy (subst (SchedulesAt m past q d) f w).1)
  up_ends p f (kind.Begin q d) o s w =
      absurd (busy (subst (λ (r : Option Stage). BeginsBy m past now q d false r) f (subst (λ (b : Bool). BeginsBy m past now q d b (row_now m past)) s w)).1.free)
  up_ends p f (kind.End q d r) o s w =
      (subst (λ (x : Option Stage). EndsBy m past q d false x) f (subst (λ (b : Bool). EndsBy m past q d b (row_now m past)) s w.0)).1
  up_ends p f (kind.Done q r) o s w = absurd (busy (subst (DoneAt m past q) f w).1.free)
  up_ends p f _ o s w = absurd o

  -- at whatever row
  row_ends : (row : Option Stage) → row_now m past ≡ row → CallIf m row (callback past) (three m past) → (k : Kind) → IsOfRowIf m past now row k → IsMakerStep m k → KeepsWalk m past now k → KeepsSkip m past now k → Ending (callback past) k
  row_ends None f c k o s w t = absurd (busy c)
  row_ends (Some (stage.Downs p)) f c k o s w t = down_ends p f k o s w t
  row_ends (Some (stage.Ups p)) f c k o s w t = up_ends p f k o s w
  row_ends (Some _) f c k o s w t = absurd (busy c)

-- ---- all

-- the maker's own steps are those of an attempt
maker_steps : (m : Machine) (past : List Entry) (now : EventNow) (who : Actor) (k : Kind) → is_maker past who ≡ true → StepsOf m past now who (is_maker past who) k → IsMakerStep m k
maker_steps m past now (actor.Script i) k e s = subst (λ (b : Bool). StepsOf m past now (actor.Script i) b k) e s
maker_steps m past now who k e s = subst (λ (b : Bool). StepsOf m past now who b k) e s

module _ (m : Machine) (past : List Entry) (now : EventNow) (k : Kind) (j : JournalPart m past) where
  maker_ends : (who : Actor) → (is_maker past who && is_some (callback past)) ≡ true → KeepsMost m past now who k → Ending (callback past) k
  maker_ends who i h =
      let e : is_maker past who ≡ true = and_left (is_maker past who) _ i in
      row_ends m past now (and_right (is_maker past who) _ i) (row_now m past) refl (call_row m past j) k
      (subst (λ (b : Bool). PathOf m past now b k) e h.path) (maker_steps m past now who k e h.steps) h.walk h.skip

-- inside a callback its maker makes the end of it
pub ends_own : (m : Machine) (past : List Entry) (now : EventNow) (who : Actor) (k : Kind) → JournalPart m past → KeepsMost m past now who k → is_in_callback m past who ≡ true → EndsOwn past who k
ends_own m past now (actor.Dev d) k j h i =
    device_ends past d (async_work m past d) k i
    (subst (λ (b : Bool). StepsOf m past now (actor.Dev d) b k) (device_makes_none d (maker past) (stage_of past) (lock_agrees m past j).2) h.steps)
ends_own m past now (actor.Script n) k j h i = own k (maker_ends m past now k j (actor.Script n) i h)
  where
    own : (k : Kind) → Ending (callback past) k → EndsOwn past (actor.Script n) k
    own (kind.End p d r) e = e
    own _ e = absurd e
ends_own m past now actor.Auto k j h i = own k (maker_ends m past now k j actor.Auto i h)
  where
    own : (k : Kind) → Ending (callback past) k → EndsOwn past actor.Auto k
    own (kind.End p d r) e = e
    own _ e = absurd e
ends_own m past now (actor.Timer t) k j h i = own k (maker_ends m past now k j (actor.Timer t) i h)
  where
    own : (k : Kind) → Ending (callback past) k → EndsOwn past (actor.Timer t) k
    own (kind.End p d r) e = e
    own _ e = absurd e
ends_own m past now actor.Time k j h i = own k (maker_ends m past now k j actor.Time i h)
  where
    own : (k : Kind) → Ending (callback past) k → EndsOwn past actor.Time k
    own (kind.End p d r) e = e
    own _ e = absurd e
