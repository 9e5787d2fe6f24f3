-- A script whose sleep has an end is in a sleep that it has begun, and has not exited.
use Rattle.std.proofs.Common.{◌≡◌, ◌<◌, ◌∙◌, ℕ, Bool, true, false, ◌==◌, List, [], ◌∷◌, length, Option, Some, is_some, slice_get, refl, sym, ap, subst, arith}
use Rattle.std.proofs.lemmas.Bool.{true≢false}
use Rattle.std.proofs.lemmas.Bool.Decides.{nat_tests}
use Rattle.std.proofs.lemmas.List.{get_or-replicate}
use Rattle.sleep_model.specs.declared.entry.Actor.{Actor}
use Rattle.sleep_model.specs.declared.entry.Actor.TheVariants as actor
use Rattle.sleep_model.specs.declared.entry.Entry.{Entry}
use Rattle.sleep_model.specs.declared.entry.Kind.{Kind}
use Rattle.sleep_model.specs.declared.machine.Machine.{Machine}
use Rattle.sleep_model.specs.declared.machine.Op.{Op}
use Rattle.sleep_model.specs.declared.machine.Op.TheVariants as op
use Rattle.sleep_model.specs.declared.machine.Script.{Script}
use Rattle.sleep_model.specs.declared.progress.ScriptPosition.{ScriptPosition}
use Rattle.sleep_model.specs.declared.progress.Stage.{Stage}
use Rattle.sleep_model.specs.declared.word.EventNow.{EventNow}
use Rattle.sleep_model.specs.Legal.{JournalPart}
use Rattle.sleep_model.specs.Positions.{PositionEffect, Waits, Sets, Sleeps, Reads, Saves, Steps, Exits, Stays, first_position, position_after, position_at, position_effect, positions, positions_after}
use Rattle.sleep_laws.proofs.Made.{ByMaker, ByTask, EntryMade, Made, StepMade, TaskMade, position_of}
use Rattle.sleep_laws.proofs.MakingOwn.{entry_made}
use Rattle.room_laws.proofs.Sitting.{op_at, position_other, position_own, positions_len}

-- the operation is a sleep
abbrev pub IsSleep : Option Op → Type 0
IsSleep (Some (op.Sleep ms)) = Unit {0}
IsSleep (Some (op.SleepD ms)) = Unit {0}
IsSleep _ = ⊥

-- a script at that operation has begun to sleep, and is there
pub record IsDozing (o : Option Op) (position : ScriptPosition) : Type 0 where
  pub waits : position.waits ≡ true
  pub there : position.exited ≡ false
  pub sleep : IsSleep o

-- so if its sleep has an end
abbrev DozesAt : Option Op → ScriptPosition → Type 0
DozesAt o position = is_some position.until ≡ true → IsDozing o position

-- what an entry does to a position at that operation: a sleep begins at one, and no other wait and no exit does
abbrev ClassFits : PositionEffect → Option Op → ScriptPosition → Type 0
ClassFits Waits o position = IsSleep o → ⊥
ClassFits Sets o position = IsSleep o → ⊥
ClassFits Exits o position = IsSleep o → ⊥
ClassFits (Sleeps until) o position = IsSleep o × (position.exited ≡ false)
ClassFits _ o position = Unit {0}

class_dozes : (part : PositionEffect) (f : ℕ → Option Op) (position : ScriptPosition) → ClassFits part (f position.done) position → DozesAt (f position.done) position → DozesAt (f (position_after part position).done) (position_after part position)
class_dozes Waits f position n h = λ u. absurd (n (h u).sleep)
class_dozes Sets f position n h = λ u. absurd (n (h u).sleep)
class_dozes Exits f position n h = λ u. absurd (n (h u).sleep)
class_dozes (Sleeps until) f position n h = λ u. record { waits = refl; there = n.1; sleep = n.0 }
class_dozes (Reads c) f position n h = λ u. absurd (true≢false (sym u))
class_dozes (Saves ok) f position n h = λ u. absurd (true≢false (sym u))
class_dozes Steps f position n h = λ u. absurd (true≢false (sym u))
class_dozes Stays f position n h = h

step_fits : (m : Machine) (past : List Entry) (now : EventNow) (position : ScriptPosition) (asked : Bool) (o : Option Op) (k : Kind) → StepMade m past now position asked o k → position.exited ≡ false → ClassFits (position_effect k) o position
step_fits m past now position asked _ _ (StepMade.ReadWaits e f) there = λ x. x
step_fits m past now position asked _ _ (StepMade.SaveWaits c count w) there = λ x. x
step_fits m past now position asked _ _ (StepMade.StateWaits text s w) there = λ x. x
step_fits m past now position asked _ _ (StepMade.AutoSets text s w f) there = λ x. x
step_fits m past now position asked _ _ StepMade.Exits there = λ x. x
step_fits m past now position asked _ _ (StepMade.Sleeps ms until w) there = (tt, there)
step_fits m past now position asked _ _ (StepMade.SleepsD ms until w) there = (tt, there)
step_fits m past now position asked _ _ _ there = tt

maker_fits : (m : Machine) (past : List Entry) (now : EventNow) (there : Stage) (k : Kind) (o : Option Op) (position : ScriptPosition) → Made m past now there k → ClassFits (position_effect k) o position
maker_fits m past now _ _ o position Made.Ends = tt
maker_fits m past now _ _ o position _ = tt

entry_fits : (m : Machine) (past : List Entry) (now : EventNow) (i : ℕ) (k : Kind) → EntryMade m past now (actor.Script i) k → ClassFits (position_effect k) (op_at (slice_get m.actors i) (position_of m past i).done) (position_of m past i)
entry_fits m past now i k (ByMaker _ here there _ a e c d) = maker_fits m past now there k _ _ d
entry_fits m past now _ _ (ByTask i _ a (TaskMade.Freezes s go f)) = tt
entry_fits m past now _ _ (ByTask i _ a (TaskMade.Steps s k o go e d)) =
    subst (λ (x : Option Op). ClassFits (position_effect k) x (position_of m past i)) (sym (ap (λ (x : Option Script). op_at x (position_of m past i).done) go.script ∙ e)) (step_fits m past now _ _ o k d go.there)

-- of script i a sleep with an end has begun
abbrev IsDozer : Machine → List Entry → ℕ → Type 0
IsDozer m past i = DozesAt (op_at (slice_get m.actors i) (position_of m past i).done) (position_of m past i)

pub dozer : (m : Machine) (past : List Entry) → JournalPart m past → (i : ℕ) → i < length m.actors → is_some (position_of m past i).until ≡ true → IsDozing (op_at (slice_get m.actors i) (position_of m past i).done) (position_of m past i)
dozer m [] j i l = λ u. absurd (true≢false (sym u ∙ ap (λ (x : ScriptPosition). is_some x.until) (get_or-replicate (length m.actors) i first_position first_position l)))
dozer m (e ∷ past) j i l = by_actor e.actor e.kind (entry_made m past e j) (dozer m past j.1 i l)
  where
    by_actor : (a : Actor) (k : Kind) → EntryMade m past e.now a k → IsDozer m past i
        → DozesAt (op_at (slice_get m.actors i) (position_at (positions_after a (position_effect k) (positions (length m.actors) past)) i).done) (position_at (positions_after a (position_effect k) (positions (length m.actors) past)) i)
    by_actor (actor.Script n) k x h = by_same (n == i) refl
      where
        by_same : (b : Bool) → (n == i) ≡ b → DozesAt (op_at (slice_get m.actors i) (position_at (positions_after (actor.Script n) (position_effect k) (positions (length m.actors) past)) i).done) (position_at (positions_after (actor.Script n) (position_effect k) (positions (length m.actors) past)) i)
        by_same true f =
            let same : n ≡ i = grind (arith, nat_tests) in
            let own : EntryMade m past e.now (actor.Script i) k = subst (λ (y : ℕ). EntryMade m past e.now (actor.Script y) k) same x in
            subst (λ (y : ℕ). DozesAt (op_at (slice_get m.actors i) (position_at (positions_after (actor.Script y) (position_effect k) (positions (length m.actors) past)) i).done) (position_at (positions_after (actor.Script y) (position_effect k) (positions (length m.actors) past)) i)) (sym same)
            (subst (λ (y : ScriptPosition). DozesAt (op_at (slice_get m.actors i) y.done) y) (sym (position_own (positions (length m.actors) past) i (position_effect k) (subst (λ (y : ℕ). i < y) (sym (positions_len (length m.actors) past)) l)))
            (class_dozes (position_effect k) (op_at (slice_get m.actors i)) (position_of m past i) (entry_fits m past e.now i k own) h))
        by_same false f =
            subst (λ (y : ScriptPosition). DozesAt (op_at (slice_get m.actors i) y.done) y) (sym (position_other (positions (length m.actors) past) i n (position_effect k) f)) h
    by_actor actor.Auto k x h = h
    by_actor (actor.Dev d) k x h = h
    by_actor (actor.Timer s) k x h = h
    by_actor actor.Time k x h = h
