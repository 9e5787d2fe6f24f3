-- What is down on the way to the entering: tasks, processors, interrupts and syscore operations, by stages.
use Rattle.std.proofs.Common.{◌≡◌, ◌∙◌, ℕ, zero, suc, Bool, true, false, not, ◌&&◌, ◌||◌, List, [], ◌∷◌, Option, Some, cond, length, refl, sym, ap, subst, slice_set}
use Rattle.std.specs.List.{list_all}
use Rattle.std.proofs.lemmas.Bool.{true≢false}
use Rattle.sleep_model.specs.declared.entry.Actor.{Actor}
use Rattle.sleep_model.specs.declared.entry.Actor.TheVariants as actor
use Rattle.sleep_model.specs.declared.entry.Entry.{Entry}
use Rattle.sleep_model.specs.declared.entry.Group.{Group}
use Rattle.sleep_model.specs.declared.entry.Group.TheVariants as group
use Rattle.sleep_model.specs.declared.entry.Kind.{Kind}
use Rattle.sleep_model.specs.declared.entry.Kind.TheVariants as kind
use Rattle.sleep_model.specs.declared.machine.Machine.{Machine}
use Rattle.sleep_model.specs.declared.machine.Script.{Script}
use Rattle.sleep_model.specs.declared.machine.TaskKind.{TaskKind}
use Rattle.sleep_model.specs.declared.machine.TaskKind.TheVariants as task
use Rattle.sleep_model.specs.declared.progress.Freezing.{Freezing}
use Rattle.sleep_model.specs.declared.progress.ScriptPosition.{ScriptPosition}
use Rattle.sleep_model.specs.declared.progress.Stage.{Stage}
use Rattle.sleep_model.specs.declared.progress.Stage.TheVariants as stage
use Rattle.sleep_model.specs.declared.word.EventNow.{EventNow}
use Rattle.sleep_model.specs.Devices.{is_device}
use Rattle.sleep_model.specs.Freezer.{is_in, is_task, freezings, freezings_after, freezing_at, all_asked, put_frozen, keeps_waiting, left_from, left}
use Rattle.sleep_model.specs.Notifiers.{cpus_off, stopped, other_cpus, syscore_steps}
use Rattle.sleep_model.specs.Positions.{PositionEffect, Exits, Stays, positions, positions_after, position_after, position_at, position_effect}
use Rattle.sleep_model.specs.Table.{stage_after}
use Rattle.sleep_model.specs.Walk.{is_so}
use Rattle.sleep_laws.proofs.Flags.{first_none, last_none, all_twice}
use Rattle.sleep_laws.proofs.LockHolding.{Outside, StageInvariant, entry_of, IsMaker}
use Rattle.sleep_laws.proofs.Made.{Made, Comes, DeviceMade, EntryMade, AtOnce, PastNotifiers, PastCpus, PastParts, PastPartsUp, PastCpusUp, PastPosts}

-- ---- tasks that are left stay none

pub cons≢nil : (x : ℕ) (xs : List ℕ) → x ∷ xs ≡ [] → ⊥
cons≢nil x xs e = subst IsSome e tt
  where
    IsSome : List ℕ → Type 0
    IsSome [] = ⊥
    IsSome (y ∷ ys) = Unit {0}

head_preserved : (n : ℕ) (rest : List ℕ) (b c : Bool) → (b ≡ false → c ≡ false) → cond b (n ∷ rest) rest ≡ [] → cond c (n ∷ rest) rest ≡ []
head_preserved n rest true c f e = absurd (cons≢nil n rest e)
head_preserved n rest false c f e = ap (λ z. cond z (n ∷ rest) rest) (f refl) ∙ e

tail_preserved : (n : ℕ) (xs ys : List ℕ) (b : Bool) → (xs ≡ [] → ys ≡ []) → cond b (n ∷ xs) xs ≡ [] → cond b (n ∷ ys) ys ≡ []
tail_preserved n xs ys true f e = absurd (cons≢nil n xs e)
tail_preserved n xs ys false f e = f e

and_false : (x : Bool) → (x && false) ≡ false
and_false true = refl
and_false false = refl

waits_less : (x : Bool) (part : PositionEffect) (position : ScriptPosition) → (x && not position.exited) ≡ false → (x && not (position_after part position).exited) ≡ false
waits_less x Exits position e = and_false x
waits_less x _ position e = e

position_kept : (g : Group) (n : ℕ) (ss : List Script) (fs : List Freezing) (places : List ScriptPosition) (i : ℕ) (part : PositionEffect) → left_from g n ss fs places ≡ [] → left_from g n ss fs (slice_set places i (position_after part (position_at places i))) ≡ []
position_kept g n [] fs places i part e = refl
position_kept g n (s ∷ ss) [] places i part e = refl
position_kept g n (s ∷ ss) (f ∷ fs) [] i part e = refl
position_kept g n (s ∷ ss) (f ∷ fs) (place ∷ places) zero part e = head_preserved n (left_from g (suc n) ss fs places) _ _ (waits_less (is_in g s.kind && f.asked && not f.frozen) part place) e
position_kept g n (s ∷ ss) (f ∷ fs) (place ∷ places) (suc i) part e = tail_preserved n (left_from g (suc n) ss fs places) _ (keeps_waiting g s.kind f place) (position_kept g (suc n) ss fs places i part) e

positions_kept : (g : Group) (ss : List Script) (fs : List Freezing) (places : List ScriptPosition) (who : Actor) (part : PositionEffect) → left_from g 0 ss fs places ≡ [] → left_from g 0 ss fs (positions_after who part places) ≡ []
positions_kept g ss fs places (actor.Script i) part e = position_kept g 0 ss fs places i part e
positions_kept g ss fs places actor.Auto part e = e
positions_kept g ss fs places (actor.Dev d) part e = e
positions_kept g ss fs places (actor.Timer d) part e = e
positions_kept g ss fs places actor.Time part e = e

frozen_waits : (x y : Bool) → ((x && false) && y) ≡ false
frozen_waits true y = refl
frozen_waits false y = refl

frozen_preserved : (g : Group) (n : ℕ) (ss : List Script) (fs : List Freezing) (places : List ScriptPosition) (i : ℕ) → left_from g n ss fs places ≡ [] → left_from g n ss (slice_set fs i (record (freezing_at fs i) { frozen = true })) places ≡ []
frozen_preserved g n [] fs places i e = refl
frozen_preserved g n (s ∷ ss) [] places i e = refl
frozen_preserved g n (s ∷ ss) (f ∷ fs) [] zero e = refl
frozen_preserved g n (s ∷ ss) (f ∷ fs) [] (suc i) e = refl
frozen_preserved g n (s ∷ ss) (f ∷ fs) (place ∷ places) zero e = head_preserved n (left_from g (suc n) ss fs places) _ _ (λ x. frozen_waits (is_in g s.kind && f.asked) (not place.exited)) e
frozen_preserved g n (s ∷ ss) (f ∷ fs) (place ∷ places) (suc i) e = tail_preserved n (left_from g (suc n) ss fs places) _ (keeps_waiting g s.kind f place) (frozen_preserved g (suc n) ss fs places i) e

put_preserved : (g : Group) (ss : List Script) (fs : List Freezing) (places : List ScriptPosition) (who : Actor) → left_from g 0 ss fs places ≡ [] → left_from g 0 ss (put_frozen who fs) places ≡ []
put_preserved g ss fs places (actor.Script i) e = frozen_preserved g 0 ss fs places i e
put_preserved g ss fs places actor.Auto e = e
put_preserved g ss fs places (actor.Dev d) e = e
put_preserved g ss fs places (actor.Timer d) e = e
put_preserved g ss fs places actor.Time e = e

-- a freeze of kernel threads asks no task of user space
ask_preserved : (n : ℕ) (who : Actor) (i : ℕ) (ss : List Script) (fs : List Freezing) (places : List ScriptPosition) → left_from group.User n ss fs places ≡ [] → left_from group.User n ss (all_asked group.Kernel who i ss fs) places ≡ []
ask_preserved n who i [] fs places e = refl
ask_preserved n who i (s ∷ ss) [] places e = refl
ask_preserved n who i (s ∷ ss) (f ∷ fs) [] e = refl
ask_preserved n who i (s ∷ ss) (f ∷ fs) (place ∷ places) e =
    ap (λ b. cond b (n ∷ left_from group.User (suc n) ss (all_asked group.Kernel who (suc i) ss fs) places) (left_from group.User (suc n) ss (all_asked group.Kernel who (suc i) ss fs) places)) (same_task s.kind)
    ∙ tail_preserved n (left_from group.User (suc n) ss fs places) _ (keeps_waiting group.User s.kind f place) (ask_preserved (suc n) who (suc i) ss fs places) e
  where
    same_task : (t : TaskKind) → keeps_waiting group.User t (cond (is_in group.Kernel t) (record { asked = f.asked || not (is_task i who); frozen = false }) f) place ≡ keeps_waiting group.User t f place
    same_task task.Kthread = refl
    same_task task.User = refl
    same_task _ = refl

-- an entry that asks tasks to freeze, or lets them go
abbrev moves_tasks : Kind → Bool
moves_tasks (kind.Freeze g) = true
moves_tasks (kind.Thaw those) = true
moves_tasks _ = false

left_preserved : (g : Group) (ss : List Script) (fs : List Freezing) (places : List ScriptPosition) (who : Actor) (k : Kind) → moves_tasks k ≡ false → left_from g 0 ss fs places ≡ [] → left_from g 0 ss (freezings_after ss who k fs) (positions_after who (position_effect k) places) ≡ []
left_preserved g ss fs places who (kind.Freeze x) m e = absurd (true≢false m)
left_preserved g ss fs places who (kind.Thaw x) m e = absurd (true≢false m)
left_preserved g ss fs places who kind.Frozen m e = positions_kept g ss (put_frozen who fs) places who Stays (put_preserved g ss fs places who e)
left_preserved g ss fs places who k m e = positions_kept g ss fs places who (position_effect k) e

-- ---- by stages

-- the claim, if that is so
abbrev pub IfSo : Bool → Type 0 → Type 0
IfSo true P = P
IfSo false P = Unit {0}

if_step : (P Q : Type 0) (b c : Bool) → (not c || b) ≡ true → (P → Q) → IfSo b P → IfSo c Q
if_step P Q b false e f h = tt
if_step P Q true true e f h = f h
if_step P Q false true e f h = absurd (true≢false (sym e))

pub if_same : (P Q : Type 0) (b : Bool) → (P → Q) → IfSo b P → IfSo b Q
if_same P Q true f h = f h
if_same P Q false f h = tt

-- user tasks are frozen from the end of their freeze to the entering
abbrev pub user_at : Option Stage → Bool
user_at (Some (stage.Freezes group.Kernel)) = true
user_at (Some (stage.PlatformDo step)) = true
user_at (Some stage.Prepares) = true
user_at (Some (stage.Downs p)) = true
user_at (Some stage.StopsCpus) = true
user_at (Some stage.StopsIrqs) = true
user_at (Some stage.ChecksWakeup) = true
user_at (Some stage.StopsSyscore) = true
user_at (Some stage.Enters) = true
user_at _ = false

-- and so are kernel threads
abbrev pub kernel_at : Option Stage → Bool
kernel_at (Some (stage.PlatformDo step)) = true
kernel_at (Some stage.Prepares) = true
kernel_at (Some (stage.Downs p)) = true
kernel_at (Some stage.StopsCpus) = true
kernel_at (Some stage.StopsIrqs) = true
kernel_at (Some stage.ChecksWakeup) = true
kernel_at (Some stage.StopsSyscore) = true
kernel_at (Some stage.Enters) = true
kernel_at _ = false

-- the other processors are off after their stopping
abbrev pub cpus_at : Option Stage → Bool
cpus_at (Some stage.StopsIrqs) = true
cpus_at (Some stage.ChecksWakeup) = true
cpus_at (Some stage.StopsSyscore) = true
cpus_at (Some stage.Enters) = true
cpus_at _ = false

-- the syscore operations are suspended at the entering
abbrev pub parts_at : Option Stage → Bool
parts_at (Some stage.Enters) = true
parts_at _ = false

-- the same of all, by values
abbrev pub Reached : Machine → Option Stage → List Freezing → List ScriptPosition → List Bool → List Bool → Type 0
Reached m s fs places cpus parts =
    IfSo (user_at s) (left_from group.User 0 m.actors fs places ≡ []) × IfSo (kernel_at s) (left_from group.Kernel 0 m.actors fs places ≡ [])
    × IfSo (cpus_at s) (list_all (is_so cpus) (other_cpus m) ≡ true) × IfSo (parts_at s) (list_all (is_so parts) (syscore_steps m) ≡ true)

abbrev pub IsReached : Machine → Option Stage → List Entry → Type 0
IsReached m s past = Reached m s (freezings m.actors past) (positions (length m.actors) past) (cpus_off m.cpus past) (stopped (length m.syscore) past)

reached_comes : (m : Machine) (past : List Entry) (here there : Stage) → Comes m past here there → IsReached m (Some here) past → IsReached m (Some there) past
reached_comes m past _ _ (AtOnce here) h = h
reached_comes m past _ _ (PastCpus e) h = (h.0, h.1, all_twice (is_so (cpus_off m.cpus past)) (other_cpus m) (first_none _ (other_cpus m) e), h.3)
reached_comes m past _ _ (PastParts e) h = (h.0, h.1, h.2, all_twice (is_so (stopped (length m.syscore) past)) (syscore_steps m) (last_none _ (syscore_steps m) e))
reached_comes m past _ _ (PastNotifiers e) h = h
reached_comes m past _ _ (PastPartsUp e) h = h
reached_comes m past _ _ (PastCpusUp e) h = h
reached_comes m past _ _ (PastPosts e) h = h

-- what an entry leaves of the tasks that are waited for
abbrev LeftAfter : Group → Machine → List Entry → Actor → Kind → Type 0
LeftAfter g m past who k = left_from g 0 m.actors (freezings_after m.actors who k (freezings m.actors past)) (positions_after who (position_effect k) (positions (length m.actors) past)) ≡ []

left_step : (g : Group) (m : Machine) (past : List Entry) (who : Actor) (k : Kind) → moves_tasks k ≡ false → left m g past ≡ [] → LeftAfter g m past who k
left_step g m past who k e h = left_preserved g m.actors (freezings m.actors past) (positions (length m.actors) past) who k e h

left_then : (g : Group) (m : Machine) (past : List Entry) (who : Actor) (k : Kind) (b c : Bool) → moves_tasks k ≡ false → (not c || b) ≡ true → IfSo b (left m g past ≡ []) → IfSo c (LeftAfter g m past who k)
left_then g m past who k b c e f h = if_step (left m g past ≡ []) (LeftAfter g m past who k) b c f (left_step g m past who k e) h

pub same_then : (P : Type 0) (b c : Bool) → (not c || b) ≡ true → IfSo b P → IfSo c P
same_then P b c e h = if_step P P b c e (λ x. x) h

reached_makes : (m : Machine) (past : List Entry) (time : ℕ) (now : EventNow) (who : Actor) (there : Stage) (k : Kind) → IsMaker past who → Made m past now there k → IsReached m (Some there) past → IsReached m (stage_after k (Some there)) (entry_of time now who k ∷ past)
reached_makes m past time now who _ _ a (Made.FreezesUser e) h = (tt, tt, tt, tt)
reached_makes m past time now who _ _ a (Made.FreezesKernel e) h =
    let fs : List Freezing = freezings m.actors past in
    (positions_kept group.User m.actors (all_asked group.Kernel who 0 m.actors fs) (positions (length m.actors) past) who Stays (ask_preserved 0 who 0 m.actors fs (positions (length m.actors) past) h.0), tt, tt, tt)
reached_makes m past time now who _ k a (Made.FrozeUser s e f) h = (left_step group.User m past who k refl f, tt, tt, tt)
reached_makes m past time now who _ k a (Made.FrozeKernel s e f) h = (left_step group.User m past who k refl h.0, left_step group.Kernel m past who k refl f, tt, tt)
reached_makes m past time now who _ k a (Made.StopsCpu x e f) h = (left_step group.User m past who k refl h.0, left_step group.Kernel m past who k refl h.1, tt, tt)
reached_makes m past time now who _ k a (Made.StartsCpu x e) h = (tt, tt, tt, tt)
reached_makes m past time now who _ k a (Made.StopsPart x e) h = (left_step group.User m past who k refl h.0, left_step group.Kernel m past who k refl h.1, h.2, tt)
reached_makes m past time now who _ k a (Made.PartFails x r e) h = (tt, tt, tt, tt)
reached_makes m past time now who _ k a (Made.StartsPart x e) h = (tt, tt, tt, tt)
reached_makes m past time now who _ k a Made.ThawsKernel h = (tt, tt, tt, tt)
reached_makes m past time now who _ k a Made.ThawsAll h = (tt, tt, tt, tt)
reached_makes m past time now who there k a x h = (
  left_then group.User m past who k (user_at (Some there)) (user_at (stage_after k (Some there))) refl refl h.0,
  left_then group.Kernel m past who k (kernel_at (Some there)) (kernel_at (stage_after k (Some there))) refl refl h.1,
  same_then (list_all (is_so (cpus_off m.cpus past)) (other_cpus m) ≡ true) (cpus_at (Some there)) (cpus_at (stage_after k (Some there))) refl h.2,
  same_then (list_all (is_so (stopped (length m.syscore) past)) (syscore_steps m) ≡ true) (parts_at (Some there)) (parts_at (stage_after k (Some there))) refl h.3,
)

reached_beside : (m : Machine) (past : List Entry) (time : ℕ) (now : EventNow) (who : Actor) (k : Kind) (s : Option Stage) → EntryMade m past now who k → is_device who ≡ false → Outside s k → IsReached m s past → IsReached m s (entry_of time now who k ∷ past)
reached_beside m past time now who k s x a Outside.Frozen h = (
  if_same (left m group.User past ≡ []) (LeftAfter group.User m past who k) (user_at s) (left_step group.User m past who k refl) h.0,
  if_same (left m group.Kernel past ≡ []) (LeftAfter group.Kernel m past who k) (kernel_at s) (left_step group.Kernel m past who k refl) h.1,
  h.2,
  h.3,
)
reached_beside m past time now who k s x a d h = (
  if_same (left m group.User past ≡ []) (LeftAfter group.User m past who k) (user_at s) (left_step group.User m past who k refl) h.0,
  if_same (left m group.Kernel past ≡ []) (LeftAfter group.Kernel m past who k) (kernel_at s) (left_step group.Kernel m past who k refl) h.1,
  h.2,
  h.3,
)

reached_owns : (m : Machine) (past : List Entry) (time : ℕ) (now : EventNow) (d : ℕ) (k : Kind) (s : Option Stage) → DeviceMade m past now d k → IsReached m s past → IsReached m s (entry_of time now (actor.Dev d) k ∷ past)
reached_owns m past time now d _ s (DeviceMade.OwnFails p r w g f) h = h
reached_owns m past time now d _ s _ h = h

pub reached_invariant : (m : Machine) → StageInvariant m (IsReached m)
reached_invariant m = record { starts = (tt, tt, tt, tt); opens = λ past time now who n guarded h. (tt, tt, tt, tt); comes = reached_comes m; makes = reached_makes m; beside = reached_beside m; owns = reached_owns m }
