-- Each of the two freezes of an attempt freezes each task at most once.
use Rattle.std.proofs.Common.{◌≡◌, ◌≤◌, ◌+◌, ◌*◌, ◌∙◌, ℕ, zero, suc, Bool, true, false, not, ◌&&◌, List, [], ◌∷◌, length, map, Option, Some, is_some, slice_set, refl, sym, ap, arith}
use Rattle.std.proofs.lemmas.Bool.{true≢false}
use Rattle.std.proofs.Math.Nat.{add-mul}
use Rattle.sleep_model.specs.declared.entry.Actor.{Actor}
use Rattle.sleep_model.specs.declared.entry.Actor.TheVariants as actor
use Rattle.sleep_model.specs.declared.entry.Entry.{Entry}
use Rattle.sleep_model.specs.declared.entry.Group.{Group}
use Rattle.sleep_model.specs.declared.entry.Group.TheVariants as group
use Rattle.sleep_model.specs.declared.entry.Kind.{Kind}
use Rattle.sleep_model.specs.declared.entry.Kind.TheVariants as kind
use Rattle.sleep_model.specs.declared.entry.Thaw.{Thaw as Thawing}
use Rattle.sleep_model.specs.declared.entry.Thaw.TheVariants as thaw
use Rattle.sleep_model.specs.declared.machine.Machine.{Machine}
use Rattle.sleep_model.specs.declared.machine.Op.{Op}
use Rattle.sleep_model.specs.declared.machine.Script.{Script}
use Rattle.sleep_model.specs.declared.machine.TaskKind.{TaskKind}
use Rattle.sleep_model.specs.declared.machine.TaskKind.TheVariants.{Kthread}
use Rattle.sleep_model.specs.declared.progress.Freezing.{Freezing}
use Rattle.sleep_model.specs.declared.progress.ScriptPosition.{ScriptPosition}
use Rattle.sleep_model.specs.declared.progress.Stage.{Stage}
use Rattle.sleep_model.specs.declared.progress.Stage.TheVariants as stage
use Rattle.sleep_model.specs.declared.progress.Work.{Work}
use Rattle.sleep_model.specs.declared.word.EventNow.{EventNow}
use Rattle.sleep_model.specs.Attempt.{freeze_since}
use Rattle.sleep_model.specs.Devices.{is_device}
use Rattle.sleep_model.specs.Freezer.{all_asked, all_let_go, asked_by, freezing, freezing_at, freezings, freezings_after, let_go, unasked}
use Rattle.sleep_model.specs.Legal.{JournalPart}
use Rattle.sleep_model.specs.Path.{attempts}
use Rattle.sleep_model.specs.Places.{one_if}
use Rattle.sleep_model.specs.Table.{stage_after}
use Rattle.room_laws.specs.AttemptRoom.{one_unless}
use Rattle.sleep_laws.proofs.LockHolding.{Outside, IsMaker, StageInvariant, at_stage, entry_of}
use Rattle.sleep_laws.proofs.Made.{Made, Comes, StepMade, TaskMade, WorkMade, DeviceMade, EntryMade, AtOnce, PastNotifiers, PastCpus, PastParts, PastPartsUp, PastCpusUp, PastPosts, ByMaker, ByTask, ByWork, ByDevice, ByTime}
use Rattle.sleep_laws.proofs.MakingOwn.{entry_made}
use Rattle.room_laws.proofs.Summing.{total}
use Rattle.end_laws.proofs.Counting.{froze, is_frozen}

-- ---- freezes

-- a freeze begins
abbrev freezes_after : Kind → ℕ → ℕ
freezes_after (kind.Freeze g) before = before + 1
freezes_after _ before = before

-- how many freezes began
abbrev pub freezes : List Entry → ℕ
freezes [] = 0
freezes (e ∷ past) = freezes_after e.kind (freezes past)

-- how many the open attempt may still begin, from that stage on, by whether the freeze of that stage goes on
abbrev ahead : Option Stage → Bool → ℕ
ahead (Some stage.Notifies) begun = 2
ahead (Some (stage.Freezes group.User)) begun = 1 + one_unless begun
ahead (Some (stage.Freezes group.Kernel)) begun = one_unless begun
ahead _ begun = 0

abbrev TwoEach : Option Stage → List Entry → Type 0
TwoEach s past = freezes past + ahead s (is_some (freeze_since past)) ≤ 2 * attempts past

one_at_most : (b : Bool) → one_unless b ≤ 1
one_at_most true = omega arith
one_at_most false = omega arith

module _ (m : Machine) where
  two_comes : (past : List Entry) (here there : Stage) → Comes m past here there → TwoEach (Some here) past → TwoEach (Some there) past
  two_comes past _ _ (AtOnce here) h = h
  two_comes past _ _ (PastNotifiers e) h = omega (arith, h, one_at_most (is_some (freeze_since past)))
  two_comes past _ _ (PastCpus e) h = h
  two_comes past _ _ (PastParts e) h = h
  two_comes past _ _ (PastPartsUp e) h = h
  two_comes past _ _ (PastCpusUp e) h = h
  two_comes past _ _ (PastPosts e) h = h

  two_makes : (past : List Entry) (time : ℕ) (now : EventNow) (who : Actor) (there : Stage) (k : Kind) → IsMaker past who → Made m past now there k → TwoEach (Some there) past → TwoEach (stage_after k (Some there)) (entry_of time now who k ∷ past)
  two_makes past time now who _ _ a (Made.FreezesUser e) h = let none = ap (λ (o : Option ℕ). one_unless (is_some o)) e in omega (arith, h, none)
  two_makes past time now who _ _ a (Made.FreezesKernel e) h = let none = ap (λ (o : Option ℕ). one_unless (is_some o)) e in omega (arith, h, none)
  two_makes past time now who _ _ a (Made.FrozeUser s e f) h = let some = ap (λ (o : Option ℕ). one_unless (is_some o)) e in omega (arith, h, some)
  two_makes past time now who _ _ a (Made.FrozeKernel s e f) h = omega (arith, h)
  two_makes past time now who _ _ a (Made.UserTimesOut s n x e) h = omega (arith, h)
  two_makes past time now who _ _ a (Made.KernelTimesOut s n x e) h = omega (arith, h)
  two_makes past time now who _ _ a (Made.UserWakes s n x e f) h = omega (arith, h)
  two_makes past time now who _ _ a (Made.KernelWakes s n x e f) h = omega (arith, h)
  two_makes past time now who _ _ a (Made.NotifyFails x r e) h = omega (arith, h)
  two_makes past time now who _ _ a Made.Ends h = h
  two_makes past time now who _ _ a _ h = h

  two_beside : (past : List Entry) (time : ℕ) (now : EventNow) (who : Actor) (k : Kind) (s : Option Stage) → EntryMade m past now who k → is_device who ≡ false → Outside s k → TwoEach s past → TwoEach s (entry_of time now who k ∷ past)
  two_beside past time now who _ s x a Outside.Frozen h = h
  two_beside past time now who _ s x a _ h = h

  two_owns : (past : List Entry) (time : ℕ) (now : EventNow) (d : ℕ) (k : Kind) (s : Option Stage) → DeviceMade m past now d k → TwoEach s past → TwoEach s (entry_of time now (actor.Dev d) k ∷ past)
  two_owns past time now d _ s (DeviceMade.OwnFails p r w g f) h = h
  two_owns past time now d _ s _ h = h

  two_preserved : StageInvariant m TwoEach
  two_preserved = record { starts = omega arith; opens = λ past time now who n guarded h. omega (arith, h); comes = two_comes; makes = two_makes; beside = two_beside; owns = two_owns }

-- an attempt has two freezes at most
pub two_each : (m : Machine) (past : List Entry) → JournalPart m past → freezes past ≤ 2 * attempts past
two_each m past h = omega (arith, at_stage m TwoEach (two_preserved m) past h)

-- ---- tasks that are to freeze

-- a task is asked, and has not frozen
abbrev owes : Freezing → ℕ
owes f = one_if (f.asked && not f.frozen)

owes_one : (f : Freezing) → owes f ≤ 1
owes_one f = by_test (f.asked && not f.frozen)
  where
    by_test : (b : Bool) → one_if b ≤ 1
    by_test true = omega arith
    by_test false = omega arith

-- a freeze asks each task once
asks_few : (g : Group) (who : Actor) (n : ℕ) (ss : List Script) (fs : List Freezing) → total owes (all_asked g who n ss fs) ≤ length ss
asks_few g who n [] fs = omega arith
asks_few g who n (s ∷ ss) [] = omega arith
asks_few g who n (s ∷ ss) (f ∷ fs) = omega (arith, owes_one (asked_by g who n s.kind f), asks_few g who (suc n) ss fs)

let_less : (those : Thawing) (t : TaskKind) (f : Freezing) → owes (let_go those t f) ≤ owes f
let_less thaw.All t f = omega arith
let_less thaw.Kernel Kthread f = omega arith
let_less thaw.Kernel _ f = omega arith

-- a thaw asks none
lets_go : (those : Thawing) (ss : List Script) (fs : List Freezing) → total owes (all_let_go those ss fs) ≤ total owes fs
lets_go those [] fs = omega arith
lets_go those (s ∷ ss) [] = omega arith
lets_go those (s ∷ ss) (f ∷ fs) = omega (arith, let_less those s.kind f, lets_go those ss fs)

owes_frozen : (f : Freezing) → owes (record f { frozen = true }) ≡ 0
owes_frozen f = ap one_if (none f.asked)
  where
    none : (b : Bool) → (b && false) ≡ false
    none true = refl
    none false = refl

-- a task that was to freeze owes one less
puts : (fs : List Freezing) (i : ℕ) → (freezing_at fs i).asked ≡ true → (freezing_at fs i).frozen ≡ false → 1 + total owes (slice_set fs i (record (freezing_at fs i) { frozen = true })) ≤ total owes fs
puts [] i a f = absurd (true≢false (sym a))
puts (x ∷ fs) zero a f =
    let owed : owes x ≡ 1 = ap (λ b. one_if (b && not x.frozen)) a ∙ ap (λ b. one_if (not b)) f in
    omega (arith, owed, owes_frozen x)
puts (x ∷ fs) (suc i) a f = omega (arith, puts fs i a f)

-- who freezes is asked, and has not frozen
abbrev IsToFreeze : Machine → List Entry → Actor → Type 0
IsToFreeze m past (actor.Script i) = ((freezing m i past).asked ≡ true) × ((freezing m i past).frozen ≡ false)
IsToFreeze m past _ = ⊥

abbrev FreezesWell : Machine → List Entry → Actor → Kind → Type 0
FreezesWell m past who kind.Frozen = IsToFreeze m past who
FreezesWell m past who _ = Unit {0}

module _ (m : Machine) (past : List Entry) (now : EventNow) where
  maker_well : (who : Actor) (there : Stage) (k : Kind) → Made m past now there k → FreezesWell m past who k
  maker_well who _ _ Made.Ends = tt
  maker_well who _ _ _ = tt

  step_well : (who : Actor) (position : ScriptPosition) (asked : Bool) (o : Option Op) (k : Kind) → StepMade m past now position asked o k → FreezesWell m past who k
  step_well who position asked _ _ StepMade.Exits = tt
  step_well who position asked _ _ _ = tt

  work_well : (who : Actor) (w : Work) (k : Kind) → WorkMade m past now w k → FreezesWell m past who k
  work_well who _ _ WorkMade.Runs = tt
  work_well who _ _ _ = tt

  device_well : (who : Actor) (d : ℕ) (k : Kind) → DeviceMade m past now d k → FreezesWell m past who k
  device_well who d _ (DeviceMade.OwnFails p r w g f) = tt
  device_well who d _ _ = tt

  entry_well : (who : Actor) (k : Kind) → EntryMade m past now who k → FreezesWell m past who k
  entry_well who k (ByMaker _ here there _ a e c x) = maker_well who there k x
  entry_well _ _ (ByTask i _ a (TaskMade.Freezes s go asked)) = (asked, go.thawed)
  entry_well _ k (ByTask i _ a (TaskMade.Steps s _ o go at x)) = step_well (actor.Script i) _ _ o k x
  entry_well _ k (ByWork w _ a s o e x) = work_well actor.Auto w k x
  entry_well _ k (ByDevice d _ a x) = device_well (actor.Dev d) d k x
  entry_well _ _ ByTime = tt

  -- the tasks that froze, and those that are to, are those of the freezes
  freezes_on : (who : Actor) (k : Kind) → FreezesWell m past who k → froze past + total owes (freezings m.actors past) ≤ freezes past * length m.actors
      → one_if (is_frozen k) + froze past + total owes (freezings_after m.actors who k (freezings m.actors past)) ≤ freezes_after k (freezes past) * length m.actors
  freezes_on who (kind.Freeze g) w h = omega (arith, h, asks_few g who 0 m.actors (freezings m.actors past), add-mul (freezes past) 1 (length m.actors))
  freezes_on who (kind.Thaw those) w h = omega (arith, h, lets_go those m.actors (freezings m.actors past))
  freezes_on (actor.Script i) kind.Frozen w h = omega (arith, h, puts (freezings m.actors past) i w.0 w.1)
  freezes_on _ kind.Frozen w h = absurd w
  freezes_on who _ w h = omega (arith, h)

froze_few : (m : Machine) (past : List Entry) → JournalPart m past → froze past + total owes (freezings m.actors past) ≤ freezes past * length m.actors
froze_few m [] h = omega (arith, none m.actors)
  where
    none : (ss : List Script) → total owes (map (λ s. unasked) ss) ≡ 0
    none [] = refl
    none (s ∷ ss) = omega (arith, none ss)
froze_few m (e ∷ past) h = freezes_on m past e.now e.actor e.kind (entry_well m past e.now e.actor e.kind (entry_made m past e h)) (froze_few m past h.1)

-- so few tasks freeze
pub freezes_bounded : (m : Machine) (past : List Entry) → JournalPart m past → froze past ≤ freezes past * length m.actors
freezes_bounded m past h = omega (arith, froze_few m past h)
