-- All is down when the machine enters.
use Rattle.std.proofs.Common.{◌≡◌, ◌∙◌, ◌+◌, ℕ, suc, Bool, true, false, not, ◌&&◌, ◌||◌, List, [], ◌∷◌, Option, Some, cond, length, refl, sym, ap, arith}
use Rattle.std.specs.List.{list_all}
use Rattle.std.proofs.lemmas.List.{length-set, length-replicate}
use Rattle.sleep_model.specs.declared.entry.Actor.{Actor}
use Rattle.sleep_model.specs.declared.entry.Actor.TheVariants as actor
use Rattle.sleep_model.specs.declared.entry.Entry.{Entry}
use Rattle.sleep_model.specs.declared.entry.Group.{Group}
use Rattle.sleep_model.specs.declared.entry.Group.TheVariants as group
use Rattle.sleep_model.specs.declared.entry.Kind.{Kind}
use Rattle.sleep_model.specs.declared.entry.Kind.TheVariants as kind
use Rattle.sleep_model.specs.declared.machine.Machine.{Machine}
use Rattle.sleep_model.specs.declared.machine.Script.{Script}
use Rattle.sleep_model.specs.declared.progress.Freezing.{Freezing}
use Rattle.sleep_model.specs.declared.progress.ScriptPosition.{ScriptPosition}
use Rattle.sleep_model.specs.declared.progress.Stage.{Stage}
use Rattle.sleep_model.specs.declared.word.EventNow.{EventNow}
use Rattle.sleep_model.specs.Freezer.{is_in, freezings, freezing_at, left_from, left, keeps_waiting}
use Rattle.sleep_model.specs.Laws.{EntersDown, is_asleep, is_inactive, others_of}
use Rattle.sleep_model.specs.Legal.{JournalPart}
use Rattle.sleep_model.specs.Order.{order}
use Rattle.sleep_model.specs.Path.{maker, is_actor}
use Rattle.sleep_model.specs.Positions.{positions, positions_after, position_effect, position_after, position_at, first_position}
use Rattle.sleep_laws.proofs.Asking.{IsAsked, asked_invariant, asked_from, both}
use Rattle.sleep_laws.proofs.LockHolding.{Outside, Moved, Opens, Makes, Beside, Owns, at_made, moved}
use Rattle.sleep_laws.proofs.Levels.{Exact, exact_invariant}
use Rattle.sleep_laws.proofs.Made.{Made, DeviceMade}
use Rattle.sleep_laws.proofs.Reaching.{IsReached, reached_invariant, cons≢nil}
use Rattle.sleep_laws.proofs.Restoring.{freezings_length}
use Rattle.sleep_laws.proofs.Turning.{never}

-- ---- tasks that were asked, and are not left, are at rest

-- one that is of the group, does not make the attempt, was asked, and keeps none waiting
head_rests : (i r a z x : Bool) → (i && r) ≡ true → (not (i && r) || a) ≡ true → (((i && a) && not z) && not x) ≡ false → (z || x) ≡ true
head_rests i r a true x e f g = refl
head_rests i r a false true e f g = refl
head_rests true true true false false e f g = never (sym g)
head_rests true true false false false e f g = never f
head_rests true false a false false e f g = never e
head_rests false r a false false e f g = never e

none_left : (n : ℕ) (rest : List ℕ) (b : Bool) → cond b (n ∷ rest) rest ≡ [] → (b ≡ false) × (rest ≡ [])
none_left n rest true e = absurd (cons≢nil n rest e)
none_left n rest false e = (refl, e)

both_parts : (a b : Bool) → (a && b) ≡ true → (a ≡ true) × (b ≡ true)
both_parts true true e = (refl, refl)
both_parts true false e = never e
both_parts false b e = never e

next_place : (n k : ℕ) → n + suc k ≡ suc n + k
next_place n k = omega arith

first_place : (n : ℕ) → n ≡ n + 0
first_place n = omega arith

from_zero : (k : ℕ) → k ≡ 0 + k
from_zero k = omega arith

-- the tasks of a group from number n on, with what is known of each by its number
rests_from : (g : Group) (o : Option Actor) (n : ℕ) (ss : List Script) (fs : List Freezing) (places : List ScriptPosition) (F : ℕ → Freezing) (P : ℕ → ScriptPosition) → ((k : ℕ) → freezing_at fs k ≡ F (n + k)) → ((k : ℕ) → position_at places k ≡ P (n + k)) → length fs ≡ length ss → length places ≡ length ss → left_from g n ss fs places ≡ [] → asked_from g o n ss fs ≡ true → list_all (λ i. (F i).frozen || (P i).exited) (others_of g o n ss) ≡ true
rests_from g o n [] fs places F P f p lf lp e a = refl
rests_from g o n (s ∷ ss) [] places F P f p lf lp e a = absurd (omega (arith, lf))
rests_from g o n (s ∷ ss) (x ∷ fs) [] F P f p lf lp e a = absurd (omega (arith, lp))
rests_from g o n (s ∷ ss) (x ∷ fs) (y ∷ places) F P f p lf lp e a =
    by_test (rests_from g o (suc n) ss fs places F P (λ k. f (suc k) ∙ ap F (next_place n k)) (λ k. p (suc k) ∙ ap P (next_place n k)) (omega (arith, lf)) (omega (arith, lp)) left_none.1 asked.1)
    (is_in g s.kind && not (is_actor (actor.Script n) o)) refl
  where
    left_none : (keeps_waiting g s.kind x y ≡ false) × (left_from g (suc n) ss fs places ≡ [])
    left_none = none_left n (left_from g (suc n) ss fs places) (keeps_waiting g s.kind x y) e

    asked : ((not (is_in g s.kind && not (is_actor (actor.Script n) o)) || x.asked) ≡ true) × (asked_from g o (suc n) ss fs ≡ true)
    asked = both_parts (not (is_in g s.kind && not (is_actor (actor.Script n) o)) || x.asked) (asked_from g o (suc n) ss fs) a

    here : (is_in g s.kind && not (is_actor (actor.Script n) o)) ≡ true → ((F n).frozen || (P n).exited) ≡ true
    here b =
        let same_task : x ≡ F n = f 0 ∙ ap F (sym (first_place n)) in
        let same_position : y ≡ P n = p 0 ∙ ap P (sym (first_place n)) in
        ap (λ (t : Freezing). t.frozen || (P n).exited) (sym same_task)
        ∙ (ap (λ (t : ScriptPosition). x.frozen || t.exited) (sym same_position)
        ∙ head_rests (is_in g s.kind) (not (is_actor (actor.Script n) o)) x.asked x.frozen y.exited b asked.0 left_none.0)

    by_test : list_all (λ i. (F i).frozen || (P i).exited) (others_of g o (suc n) ss) ≡ true → (b : Bool) → (is_in g s.kind && not (is_actor (actor.Script n) o)) ≡ b → list_all (λ i. (F i).frozen || (P i).exited) (cond b (n ∷ others_of g o (suc n) ss) (others_of g o (suc n) ss)) ≡ true
    by_test rest true h = both ((F n).frozen || (P n).exited) (list_all (λ i. (F i).frozen || (P i).exited) (others_of g o (suc n) ss)) (here h) rest
    by_test rest false h = rest

-- each script has its position
positions_length : (n : ℕ) (past : List Entry) → length (positions n past) ≡ n
positions_length n [] = length-replicate n first_position
positions_length n (e ∷ past) = by_actor e.actor (positions_length n past)
  where
    by_actor : (a : Actor) → length (positions n past) ≡ n → length (positions_after a (position_effect e.kind) (positions n past)) ≡ n
    by_actor (actor.Script i) l = length-set (positions n past) i (position_after (position_effect e.kind) (position_at (positions n past) i)) ∙ l
    by_actor actor.Auto l = l
    by_actor (actor.Dev d) l = l
    by_actor (actor.Timer t) l = l
    by_actor actor.Time l = l

all_rest : (g : Group) (m : Machine) (past : List Entry) → left m g past ≡ [] → asked_from g (maker past) 0 m.actors (freezings m.actors past) ≡ true → list_all (is_inactive m past) (others_of g (maker past) 0 m.actors) ≡ true
all_rest g m past e a =
    rests_from g (maker past) 0 m.actors (freezings m.actors past) (positions (length m.actors) past) (λ i. freezing_at (freezings m.actors past) i) (λ i. position_at (positions (length m.actors) past) i)
    (λ k. ap (freezing_at (freezings m.actors past)) (from_zero k)) (λ k. ap (position_at (positions (length m.actors) past)) (from_zero k)) (freezings_length m.actors past) (positions_length (length m.actors) past) e a

-- ---- the entering

-- when the maker enters, all that sleep wants down is down, if the devices are
abbrev pub DevicesAsleep : Machine → List Entry → Kind → Type 0
DevicesAsleep m past (kind.Enter false) = list_all (is_asleep m past) (order m past) ≡ true
DevicesAsleep m past _ = Unit {0}

enters_made : (m : Machine) (past : List Entry) (now : EventNow) (there : Stage) (k : Kind) → Made m past now there k → IsReached m (Some there) past → IsAsked m (Some there) past → Exact (Some there) past → DevicesAsleep m past k → EntersDown m past k
enters_made m past now _ _ (Made.Enters e f) r a x d = record {
  devices = d;
  user_tasks = all_rest group.User m past r.0 a.1;
  kernel_tasks = all_rest group.Kernel m past r.1 a.2;
  begun = x.1;
  prepared = x.2;
  prepared_late = x.3;
  cpus = r.2;
  irqs = x.0;
  syscore = r.3;
}
enters_made m past now _ _ (Made.EntersNot e f) r a x d = tt
enters_made m past now _ _ _ r a x d = tt

enters_outside : (m : Machine) (past : List Entry) (k : Kind) {s : Option Stage} → Outside s k → EntersDown m past k
enters_outside m past _ Outside.Frozen = tt
enters_outside m past _ _ = tt

enters_own : (m : Machine) (past : List Entry) (now : EventNow) (y : ℕ) (k : Kind) → DeviceMade m past now y k → EntersDown m past k
enters_own m past now y _ (DeviceMade.OwnFails p r w g f) = tt
enters_own m past now y _ _ = tt

enters_moved : (m : Machine) (past : List Entry) (now : EventNow) (who : Actor) (k : Kind) → JournalPart m past → Moved m past now who k → DevicesAsleep m past k → EntersDown m past k
enters_moved m past now who _ h (Opens _ n guarded f e) d = tt
enters_moved m past now who k h (Makes _ here there _ a e c x) d = enters_made m past now there k x (at_made m (IsReached m) (reached_invariant m) past h here there e c) (at_made m (IsAsked m) (asked_invariant m) past h here there e c) (at_made m Exact (exact_invariant m) past h here there e c) d
enters_moved m past now who k h (Beside _ _ a x) d = enters_outside m past k x
enters_moved m past now _ k h (Owns y _ x) d = enters_own m past now y k x

-- the machine enters only if all is down, provided that the devices are
pub enters_down : (m : Machine) (past : List Entry) (e : Entry) → JournalPart m (e ∷ past) → DevicesAsleep m past e.kind → EntersDown m past e.kind
enters_down m past e h d = enters_moved m past e.now e.actor e.kind h.1 (moved m past e h) d
