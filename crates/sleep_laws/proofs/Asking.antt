-- Whom the freezes of an attempt have asked, by stages: all tasks of their group but the attempt's maker.
use Rattle.std.proofs.Common.{◌≡◌, ℕ, zero, suc, Bool, true, false, not, ◌&&◌, ◌||◌, List, [], ◌∷◌, Option, Some, None, is_some, cond, refl, sym, ap, subst, arith, slice_set}
use Rattle.std.proofs.lemmas.Bool.Decides.{nat_tests}
use Rattle.sleep_model.specs.declared.entry.Actor.{Actor}
use Rattle.sleep_model.specs.declared.entry.Actor.TheVariants as actor
use Rattle.sleep_model.specs.declared.entry.Entry.{Entry}
use Rattle.sleep_model.specs.declared.entry.Group.{Group}
use Rattle.sleep_model.specs.declared.entry.Group.TheVariants as group
use Rattle.sleep_model.specs.declared.entry.Kind.{Kind}
use Rattle.sleep_model.specs.declared.machine.Machine.{Machine}
use Rattle.sleep_model.specs.declared.machine.Script.{Script}
use Rattle.sleep_model.specs.declared.machine.TaskKind.{TaskKind}
use Rattle.sleep_model.specs.declared.progress.Freezing.{Freezing}
use Rattle.sleep_model.specs.declared.progress.Stage.{Stage}
use Rattle.sleep_model.specs.declared.progress.Stage.TheVariants as stage
use Rattle.sleep_model.specs.declared.word.EventNow.{EventNow}
use Rattle.sleep_model.specs.Attempt.{freeze_since}
use Rattle.sleep_model.specs.Devices.{is_device}
use Rattle.sleep_model.specs.Freezer.{is_in, is_task, freezings, freezing_at, asked_by, all_asked, put_frozen}
use Rattle.sleep_model.specs.Path.{maker, is_actor}
use Rattle.sleep_model.specs.Table.{stage_after}
use Rattle.sleep_laws.proofs.LockHolding.{Outside, StageInvariant, IsMaker, entry_of}
use Rattle.sleep_laws.proofs.Made.{Made, Comes, DeviceMade, EntryMade, AtOnce, PastNotifiers, PastCpus, PastParts, PastPartsUp, PastCpusUp, PastPosts}
use Rattle.sleep_laws.proofs.Reaching.{IfSo, if_same, same_then, user_at, kernel_at}
use Rattle.sleep_laws.proofs.Turning.{never}

-- ---- who is asked

-- a task of the group, but that actor, is asked
abbrev pub is_asked : Group → Option Actor → ℕ → TaskKind → Freezing → Bool
is_asked g o n t f = not (is_in g t && not (is_actor (actor.Script n) o)) || f.asked

-- so are all from number n on
abbrev pub asked_from : Group → Option Actor → ℕ → List Script → List Freezing → Bool
asked_from g o n (s ∷ ss) (f ∷ fs) = is_asked g o n s.kind f && asked_from g o (suc n) ss fs
asked_from g o n _ _ = true

pub both : (b c : Bool) → b ≡ true → c ≡ true → (b && c) ≡ true
both true true h i = refl
both true false h i = i
both false c h i = h

-- of two that hold, one more each
both_more : (a b c d : Bool) → (a ≡ true → c ≡ true) → (b ≡ true → d ≡ true) → (a && b) ≡ true → (c && d) ≡ true
both_more true true c d f g e = both c d (f refl) (g refl)
both_more true false c d f g e = never e
both_more false b c d f g e = never e

-- the maker of the attempt makes its freezes
same_task : (who : Actor) (o : Option Actor) (n : ℕ) → is_actor who o ≡ true → is_actor (actor.Script n) o ≡ is_task n who
same_task (actor.Script i) (Some (actor.Script j)) n a =
    let same : j ≡ i = grind (arith, nat_tests) in
    ap (λ k. is_task n (actor.Script k)) same
same_task actor.Auto (Some actor.Auto) n a = refl
same_task (actor.Dev i) (Some (actor.Dev j)) n a = refl
same_task (actor.Timer i) (Some (actor.Timer j)) n a = refl
same_task actor.Time (Some actor.Time) n a = refl
same_task who None n a = never a
same_task _ (Some _) n a = never a

-- who is asked but for its maker is asked, or is the maker
asked_but : (x y a : Bool) → x ≡ y → (not (not x) || (a || not y)) ≡ true
asked_but true true a e = refl
asked_but false false true e = refl
asked_but false false false e = refl
asked_but true false a e = never (sym e)
asked_but false true a e = never e

task_asked : (g : Group) (who : Actor) (o : Option Actor) (n : ℕ) (t : TaskKind) (f : Freezing) → is_actor who o ≡ true → is_asked g o n t (asked_by g who n t f) ≡ true
task_asked g who o n t f a = by_group (is_in g t)
  where
    by_group : (b : Bool) → (not (b && not (is_actor (actor.Script n) o)) || (cond b (record { asked = f.asked || not (is_task n who); frozen = false }) f).asked) ≡ true
    by_group false = refl
    by_group true = asked_but (is_actor (actor.Script n) o) (is_task n who) f.asked (same_task who o n a)

-- a freeze of the group by the attempt's maker asks all but the maker
all_are_asked : (g : Group) (who : Actor) (o : Option Actor) (n : ℕ) (ss : List Script) (fs : List Freezing) → is_actor who o ≡ true → asked_from g o n ss (all_asked g who n ss fs) ≡ true
all_are_asked g who o n [] fs a = refl
all_are_asked g who o n (s ∷ ss) [] a = refl
all_are_asked g who o n (s ∷ ss) (f ∷ fs) a =
    both (is_asked g o n s.kind (asked_by g who n s.kind f)) (asked_from g o (suc n) ss (all_asked g who (suc n) ss fs)) (task_asked g who o n s.kind f a) (all_are_asked g who o (suc n) ss fs a)

or_more : (c a z : Bool) → (c || a) ≡ true → (c || (a || z)) ≡ true
or_more true a z e = refl
or_more false true z e = refl
or_more false false z e = never e

task_stays : (g h : Group) (who : Actor) (o : Option Actor) (n : ℕ) (t : TaskKind) (f : Freezing) → is_asked g o n t f ≡ true → is_asked g o n t (asked_by h who n t f) ≡ true
task_stays g h who o n t f e = by_group (is_in h t)
  where
    by_group : (b : Bool) → is_asked g o n t (cond b (record { asked = f.asked || not (is_task n who); frozen = false }) f) ≡ true
    by_group false = e
    by_group true = or_more (not (is_in g t && not (is_actor (actor.Script n) o))) f.asked (not (is_task n who)) e

-- who is asked stays so at a freeze
all_stay : (g h : Group) (who : Actor) (o : Option Actor) (n : ℕ) (ss : List Script) (fs : List Freezing) → asked_from g o n ss fs ≡ true → asked_from g o n ss (all_asked h who n ss fs) ≡ true
all_stay g h who o n [] fs e = refl
all_stay g h who o n (s ∷ ss) [] e = refl
all_stay g h who o n (s ∷ ss) (f ∷ fs) e =
    both_more (is_asked g o n s.kind f) (asked_from g o (suc n) ss fs) (is_asked g o n s.kind (asked_by h who n s.kind f)) (asked_from g o (suc n) ss (all_asked h who (suc n) ss fs)) (task_stays g h who o n s.kind f) (all_stay g h who o (suc n) ss fs) e

frozen_stay : (g : Group) (o : Option Actor) (n : ℕ) (ss : List Script) (fs : List Freezing) (i : ℕ) → asked_from g o n ss fs ≡ true → asked_from g o n ss (slice_set fs i (record (freezing_at fs i) { frozen = true })) ≡ true
frozen_stay g o n [] fs i e = refl
frozen_stay g o n (s ∷ ss) [] i e = refl
frozen_stay g o n (s ∷ ss) (f ∷ fs) zero e = e
frozen_stay g o n (s ∷ ss) (f ∷ fs) (suc i) e =
    both_more (is_asked g o n s.kind f) (asked_from g o (suc n) ss fs) (is_asked g o n s.kind f) (asked_from g o (suc n) ss (slice_set fs i (record (freezing_at fs i) { frozen = true }))) (λ x. x) (frozen_stay g o (suc n) ss fs i) e

-- and after a task freezes
put_stay : (g : Group) (o : Option Actor) (ss : List Script) (fs : List Freezing) (who : Actor) → asked_from g o 0 ss fs ≡ true → asked_from g o 0 ss (put_frozen who fs) ≡ true
put_stay g o ss fs (actor.Script i) e = frozen_stay g o 0 ss fs i e
put_stay g o ss fs actor.Auto e = e
put_stay g o ss fs (actor.Dev d) e = e
put_stay g o ss fs (actor.Timer d) e = e
put_stay g o ss fs actor.Time e = e

-- ---- by stages

-- a freeze goes on only at the stages of freezes
abbrev pub SinceAt : Option Stage → Option ℕ → Type 0
SinceAt (Some (stage.Freezes g)) since = Unit {0}
SinceAt _ since = since ≡ None

-- user tasks are asked from the beginning of their freeze to the entering
abbrev pub asks_user : Option Stage → Option ℕ → Bool
asks_user (Some (stage.Freezes group.User)) since = is_some since
asks_user (Some (stage.Freezes group.Kernel)) since = true
asks_user s since = user_at s

-- and so are kernel threads
abbrev pub asks_kernel : Option Stage → Option ℕ → Bool
asks_kernel (Some (stage.Freezes group.Kernel)) since = is_some since
asks_kernel s since = kernel_at s

-- all of the group are asked, but the attempt's maker
abbrev pub AllAsked : Group → Machine → Option Actor → List Freezing → Type 0
AllAsked g m o fs = asked_from g o 0 m.actors fs ≡ true

-- the same of all, by values
abbrev pub Asked : Machine → Option Stage → Option ℕ → Option Actor → List Freezing → Type 0
Asked m s since o fs = SinceAt s since × IfSo (asks_user s since) (AllAsked group.User m o fs) × IfSo (asks_kernel s since) (AllAsked group.Kernel m o fs)

abbrev pub IsAsked : Machine → Option Stage → List Entry → Type 0
IsAsked m s past = Asked m s (freeze_since past) (maker past) (freezings m.actors past)

if_none : (P : Type 0) (o : Option ℕ) → o ≡ None → IfSo (is_some o) P
if_none P o e = subst (λ (x : Option ℕ). IfSo (is_some x) P) (sym e) tt

if_goes : (P : Type 0) (o : Option ℕ) (since : ℕ) → o ≡ Some since → IfSo (is_some o) P → P
if_goes P o since e h = subst (λ (x : Option ℕ). IfSo (is_some x) P) e h

asked_comes : (m : Machine) (past : List Entry) (here there : Stage) → Comes m past here there → IsAsked m (Some here) past → IsAsked m (Some there) past
asked_comes m past _ _ (AtOnce here) h = h
asked_comes m past _ _ (PastNotifiers e) h = (tt, if_none (AllAsked group.User m (maker past) (freezings m.actors past)) (freeze_since past) h.0, tt)
asked_comes m past _ _ (PastCpus e) h = h
asked_comes m past _ _ (PastParts e) h = h
asked_comes m past _ _ (PastPartsUp e) h = h
asked_comes m past _ _ (PastCpusUp e) h = h
asked_comes m past _ _ (PastPosts e) h = h

asked_makes : (m : Machine) (past : List Entry) (time : ℕ) (now : EventNow) (who : Actor) (there : Stage) (k : Kind) → IsMaker past who → Made m past now there k → IsAsked m (Some there) past → IsAsked m (stage_after k (Some there)) (entry_of time now who k ∷ past)
asked_makes m past time now who _ _ a (Made.FreezesUser e) h = (tt, all_are_asked group.User who (maker past) 0 m.actors (freezings m.actors past) a.makes, tt)
asked_makes m past time now who _ _ a (Made.FreezesKernel e) h =
    (tt, all_stay group.User group.Kernel who (maker past) 0 m.actors (freezings m.actors past) h.1, all_are_asked group.Kernel who (maker past) 0 m.actors (freezings m.actors past) a.makes)
asked_makes m past time now who _ _ a (Made.FrozeUser s e f) h = (tt, if_goes (AllAsked group.User m (maker past) (freezings m.actors past)) (freeze_since past) s e h.1, tt)
asked_makes m past time now who _ _ a (Made.FrozeKernel s e f) h = (refl, h.1, if_goes (AllAsked group.Kernel m (maker past) (freezings m.actors past)) (freeze_since past) s e h.2)
asked_makes m past time now who _ _ a (Made.UserTimesOut s n x e) h = (refl, tt, tt)
asked_makes m past time now who _ _ a (Made.KernelTimesOut s n x e) h = (refl, tt, tt)
asked_makes m past time now who _ _ a (Made.UserWakes s n x e f) h = (refl, tt, tt)
asked_makes m past time now who _ _ a (Made.KernelWakes s n x e f) h = (refl, tt, tt)
asked_makes m past time now who _ _ a Made.ThawsKernel h = (h.0, tt, tt)
asked_makes m past time now who _ _ a Made.ThawsAll h = (h.0, tt, tt)
asked_makes m past time now who _ _ a Made.Ends h = (h.0, tt, tt)
asked_makes m past time now who there k a x h = (
  h.0,
  same_then (AllAsked group.User m (maker past) (freezings m.actors past)) (asks_user (Some there) (freeze_since past)) (asks_user (stage_after k (Some there)) (freeze_since past)) refl h.1,
  same_then (AllAsked group.Kernel m (maker past) (freezings m.actors past)) (asks_kernel (Some there) (freeze_since past)) (asks_kernel (stage_after k (Some there)) (freeze_since past)) refl h.2,
)

asked_beside : (m : Machine) (past : List Entry) (time : ℕ) (now : EventNow) (who : Actor) (k : Kind) (s : Option Stage) → EntryMade m past now who k → is_device who ≡ false → Outside s k → IsAsked m s past → IsAsked m s (entry_of time now who k ∷ past)
asked_beside m past time now who _ s x a Outside.Frozen h =
    let fs : List Freezing = freezings m.actors past in (
      h.0,
      if_same (AllAsked group.User m (maker past) fs) (AllAsked group.User m (maker past) (put_frozen who fs)) (asks_user s (freeze_since past)) (put_stay group.User (maker past) m.actors fs who) h.1,
      if_same (AllAsked group.Kernel m (maker past) fs) (AllAsked group.Kernel m (maker past) (put_frozen who fs)) (asks_kernel s (freeze_since past)) (put_stay group.Kernel (maker past) m.actors fs who) h.2,
    )
asked_beside m past time now who _ s x a _ h = h

asked_owns : (m : Machine) (past : List Entry) (time : ℕ) (now : EventNow) (d : ℕ) (k : Kind) (s : Option Stage) → DeviceMade m past now d k → IsAsked m s past → IsAsked m s (entry_of time now (actor.Dev d) k ∷ past)
asked_owns m past time now d _ s (DeviceMade.OwnFails p r w g f) h = h
asked_owns m past time now d _ s _ h = h

pub asked_invariant : (m : Machine) → StageInvariant m (IsAsked m)
asked_invariant m = record { starts = (refl, tt, tt); opens = λ past time now who n guarded h. (h.0, tt, tt); comes = asked_comes m; makes = asked_makes m; beside = asked_beside m; owns = asked_owns m }
