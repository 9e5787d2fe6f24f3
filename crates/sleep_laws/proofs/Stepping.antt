-- Each actor's entries outside attempts of its own are its steps, once and in order.
use Rattle.std.proofs.Common.{◌≡◌, ◌∙◌, ℕ, Bool, true, false, not, ◌==◌, ◌&&◌, ◌||◌, List, ◌∷◌, Option, slice_get, refl, sym, ap, arith}
use Rattle.std.proofs.lemmas.Bool.{true≢false}
use Rattle.std.proofs.lemmas.Bool.Decides.{nat_tests}
use Rattle.std.proofs.Math.Bool.{or-true}
use Rattle.sleep_model.specs.declared.entry.Actor.{Actor}
use Rattle.sleep_model.specs.declared.entry.Actor.TheVariants as actor
use Rattle.sleep_model.specs.declared.entry.Entry.{Entry}
use Rattle.sleep_model.specs.declared.entry.Kind.{Kind}
use Rattle.sleep_model.specs.declared.entry.Kind.TheVariants as kind
use Rattle.sleep_model.specs.declared.entry.SkipCause.TheVariants as skip
use Rattle.sleep_model.specs.declared.machine.Machine.{Machine}
use Rattle.sleep_model.specs.declared.machine.Op.{Op}
use Rattle.sleep_model.specs.declared.progress.ScriptPosition.{ScriptPosition}
use Rattle.sleep_model.specs.declared.progress.Stage.{Stage}
use Rattle.sleep_model.specs.declared.progress.Work.{Work}
use Rattle.sleep_model.specs.declared.word.EventNow.{EventNow}
use Rattle.phase_table.specs.declared.phase.Phase.{Phase}
use Rattle.phase_table.specs.Phases.{is_phase}
use Rattle.sleep_model.specs.Devices.{async_work}
use Rattle.sleep_model.specs.Laws.{InOrder, is_in_order, is_of_op, is_work_entry, is_device_entry, is_frozen_entry, steps_of}
use Rattle.sleep_model.specs.Legal.{JournalPart}
use Rattle.sleep_model.specs.Path.{maker, is_actor}
use Rattle.sleep_laws.proofs.Made.{Down, InSuspend, InLate, InNoirq, Up, InResume, InEarly, InResumeNoirq, Made, StepMade, TaskMade, WorkMade, DeviceMade, EntryMade, ByMaker, ByTask, ByWork, ByDevice, ByTime, position_of}
use Rattle.sleep_laws.proofs.MakingOwn.{entry_made}

same : (x : ℕ) → (x == x) ≡ true
same x = grind (arith, nat_tests)

-- a jump of time
abbrev is_jump : Kind → Bool
is_jump kind.Jump = true
is_jump _ = false

order_by : (m : Machine) (past : List Entry) (who : Actor) (k : Kind) → is_jump k ≡ false → (is_actor who (maker past) ≡ false → is_in_order m past who k ≡ true) → InOrder m past who k
order_by m past who kind.Jump e h = absurd (true≢false e)
order_by m past who _ e h = h

both : (a b : Bool) → a ≡ true → b ≡ true → (a && b) ≡ true
both a b e f = rw (e, f) refl

-- ---- a task

step_of_op : (m : Machine) (past : List Entry) (now : EventNow) (position : ScriptPosition) (asked : Bool) (o : Option Op) (k : Kind) → StepMade m past now position asked o k → (is_of_op o k ≡ true) × (is_jump k ≡ false)
step_of_op m past now position asked _ _ (StepMade.Posts mark) = (same mark, refl)
step_of_op m past now position asked _ _ (StepMade.Gets mark) = (same mark, refl)
step_of_op m past now position asked _ _ (StepMade.AsksRuntime d s) = (same d, refl)
step_of_op m past now position asked _ _ (StepMade.AddsLink s c r e) = (both (s == s) (c == c) (same s) (same c), refl)
step_of_op m past now position asked _ _ (StepMade.SetsLink s c active r e) = (both (s == s) (c == c) (same s) (same c), refl)
step_of_op m past now position asked _ _ _ = (refl, refl)

step_is_entry : (there of frozen : Bool) → there ≡ false → (of || frozen) ≡ true → (not there && (of || frozen)) ≡ true
step_is_entry there of frozen e f = rw (e, f) refl

task_order : (m : Machine) (past : List Entry) (now : EventNow) (i : ℕ) (k : Kind) → TaskMade m past now i k → (is_in_order m past (actor.Script i) k ≡ true) × (is_jump k ≡ false)
task_order m past now i _ (TaskMade.Freezes s go f) = (step_is_entry (position_of m past i).exited (is_of_op (slice_get (steps_of (slice_get m.actors i)) (position_of m past i).done) kind.Frozen) true go.there (or-true _), refl)
task_order m past now i _ (TaskMade.Steps s k o go e st) =
    let x : (is_of_op o k ≡ true) × (is_jump k ≡ false) = step_of_op m past now (position_of m past i) _ o k st in
    let op : slice_get (steps_of (slice_get m.actors i)) (position_of m past i).done ≡ o = ap (λ z. slice_get (steps_of z) (position_of m past i).done) go.script ∙ e in
    let of : is_of_op (slice_get (steps_of (slice_get m.actors i)) (position_of m past i).done) k ≡ true = ap (λ z. is_of_op z k) op ∙ x.0 in
    (step_is_entry (position_of m past i).exited (is_of_op (slice_get (steps_of (slice_get m.actors i)) (position_of m past i).done) k) (is_frozen_entry k) go.there (ap (λ b. b || is_frozen_entry k) of), x.1)

-- ---- the work

work_order : (m : Machine) (past : List Entry) (now : EventNow) (w : Work) (k : Kind) → WorkMade m past now w k → (is_work_entry w k ≡ true) × (is_jump k ≡ false)
work_order m past now _ _ (WorkMade.Saves c f v q) = (same c, refl)
work_order m past now _ _ (WorkMade.SavesNot c f v) = (same c, refl)
work_order m past now _ _ _ = (refl, refl)

-- ---- a device

down_same : (p : Phase) → Down p → is_phase p p ≡ true
down_same _ InSuspend = refl
down_same _ InLate = refl
down_same _ InNoirq = refl

up_same : (p : Phase) → Up p → is_phase p p ≡ true
up_same _ InResume = refl
up_same _ InEarly = refl
up_same _ InResumeNoirq = refl

device_order : (m : Machine) (past : List Entry) (now : EventNow) (d : ℕ) (k : Kind) → DeviceMade m past now d k → (is_device_entry d (async_work m past d) k ≡ true) × (is_jump k ≡ false)
device_order m past now d _ (DeviceMade.OwnFails p r w g f) = (ap (λ z. is_device_entry d z (kind.Skip p d skip.Error)) g.work ∙ both (d == d) (is_phase p p) (same d) (down_same p w), refl)
device_order m past now d _ (DeviceMade.OwnFinds p w g f t e) = (ap (λ z. is_device_entry d z (kind.Skip p d skip.Pending)) g.work ∙ both (d == d) (is_phase p p) (same d) (down_same p w), refl)
device_order m past now d _ (DeviceMade.OwnLeaves p w g f t e) = (ap (λ z. is_device_entry d z (kind.Skip p d skip.Direct)) g.work ∙ both (d == d) (is_phase p p) (same d) (down_same p w), refl)
device_order m past now d _ (DeviceMade.OwnBegins p w g f t e) = (ap (λ z. is_device_entry d z (kind.Begin p d)) g.work ∙ both (d == d) (is_phase p p) (same d) (down_same p w), refl)
device_order m past now d _ (DeviceMade.OwnRises p w b a s e) = (ap (λ z. is_device_entry d z (kind.Begin p d)) a ∙ both (d == d) (is_phase p p) (same d) (up_same p w), refl)
device_order m past now d _ (DeviceMade.OwnEnds p r w b a s) = (ap (λ z. is_device_entry d z (kind.End p d r)) a ∙ both (d == d) (is_phase p p) (same d) (down_same p w), refl)
device_order m past now d _ (DeviceMade.OwnRose p r w b a s) = (ap (λ z. is_device_entry d z (kind.End p d r)) a ∙ both (d == d) (is_phase p p) (same d) (up_same p w), refl)

-- ---- all

made_no_jump : (m : Machine) (past : List Entry) (now : EventNow) (there : Stage) (k : Kind) → Made m past now there k → is_jump k ≡ false
made_no_jump m past now _ _ (Made.Notifies x e) = refl
made_no_jump m past now _ _ _ = refl

entry_order : (m : Machine) (past : List Entry) (now : EventNow) (who : Actor) (k : Kind) → EntryMade m past now who k → InOrder m past who k
entry_order m past now who k (ByMaker _ here there _ a e c d) = order_by m past who k (made_no_jump m past now there k d) (λ f. absurd (true≢false (sym a ∙ f)))
entry_order m past now _ k (ByTask i _ a d) =
    let x : (is_in_order m past (actor.Script i) k ≡ true) × (is_jump k ≡ false) = task_order m past now i k d in
    order_by m past (actor.Script i) k x.1 (λ f. x.0)
entry_order m past now _ k (ByWork w _ a s o e d) =
    let x : (is_work_entry w k ≡ true) × (is_jump k ≡ false) = work_order m past now w k d in
    order_by m past actor.Auto k x.1 (λ f. ap (λ z. is_work_entry z k) e ∙ x.0)
entry_order m past now _ k (ByDevice d _ a h) =
    let x : (is_device_entry d (async_work m past d) k ≡ true) × (is_jump k ≡ false) = device_order m past now d k h in
    order_by m past (actor.Dev d) k x.1 (λ f. x.0)
entry_order m past now _ _ ByTime = refl

-- each actor's entries outside attempts of its own are its steps, once and in order
pub in_order : (m : Machine) (past : List Entry) (e : Entry) → JournalPart m (e ∷ past) → InOrder m past e.actor e.kind
in_order m past e h = entry_order m past e.now e.actor e.kind (entry_made m past e h)
