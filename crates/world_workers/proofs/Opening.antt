-- The machine and its sources are objects of a world as they go into it, and may go into another as they come back.
use Rattle.std.proofs.Common.{◌≡◌, ◌∙◌, ◌+◌, ℕ, zero, suc, List, [], ◌∷◌, length, Some, None, refl, sym, ap, subst, arith}
use Rattle.std.proofs.lemmas.List.{length-map}
use mathlib.Core.Option.{some, none}
use lib.ListN.{get_elem?}
use Rattle.sleep_model.specs.declared.machine.Machine.{Machine}
use Rattle.atomic_table.specs.Seated.{TableId}
use Rattle.event_word.specs.Seats.{WordToken, source_count}
use Rattle.run_objects.specs.Objects.{SourcesInvariant, IsSeatedSource, SeatedCoreState, SeatedSourceState, seats_of}
use Rattle.run_world.specs.declared.object.WorldObject.{WorldObject}
use Rattle.run_world.specs.declared.object.WorldObject.TheVariants as object
use Rattle.run_world.specs.ObjectLists.{AreObjectsOf, AreAtMoment, AreThose}
use Rattle.run_world.specs.Roots.{machine_root, source_root}
use Rattle.run_world.specs.Objects.{AreObjects, root_of}
use Rattle.run_world.specs.declared.task.Task.{Task}
use Rattle.world_workers.specs.Bursts.{AreReady}

-- ---- lists

some_same : {A : Type 0} (x y : A) → some x ≡ some y → x ≡ y
some_same x y e = cc

-- a seat among those of sources is one of theirs
pub seat_at : (sources : List SeatedSourceState) (k : ℕ) (t : WordToken) → get_elem? (seats_of sources) k ≡ some t
    → (x : SeatedSourceState) × (get_elem? sources k ≡ some x) × (t ≡ x.seat)
seat_at [] k t at = absurd (let e : none ≡ some t = at in cc)
seat_at (x ∷ sources) zero t at = (x, refl, sym (some_same x.seat t at))
seat_at (x ∷ sources) (suc k) t at = seat_at sources k t at

-- a source has its seat among theirs
seat_of : (sources : List SeatedSourceState) (k : ℕ) (x : SeatedSourceState) → get_elem? sources k ≡ some x → get_elem? (seats_of sources) k ≡ some x.seat
seat_of [] k x at = absurd (let e : none ≡ some x = at in cc)
seat_of (y ∷ sources) zero x at = ap (λ (s : SeatedSourceState). some s.seat) (some_same y x at)
seat_of (y ∷ sources) (suc k) x at = seat_of sources k x at

pub preserved_at : (sources : List SeatedSourceState) → SourcesInvariant sources → (k : ℕ) (x : SeatedSourceState) → get_elem? sources k ≡ some x → IsSeatedSource x
preserved_at [] are k x at = absurd (let e : none ≡ some x = at in cc)
preserved_at (y ∷ sources) are zero x at = subst IsSeatedSource (some_same y x at) are.0
preserved_at (y ∷ sources) are (suc k) x at = preserved_at sources are.1 k x at

-- ---- objects and sources

pub those_count : (sources : List SeatedSourceState) (objects : List WorldObject) → AreThose sources objects → length objects ≡ length sources
those_count [] [] are = refl
those_count [] (y ∷ objects) are = absurd are
those_count (x ∷ sources) [] are = absurd are
those_count (x ∷ sources) (y ∷ objects) are = ap (λ (n : ℕ). suc n) (those_count sources objects are.1)

-- an object among those of sources is one of them
object_at : (moment : ℕ) (sources : List SeatedSourceState) (objects : List WorldObject) → AreThose sources objects → AreAtMoment moment objects
    → (k : ℕ) (u : WorldObject) → get_elem? objects k ≡ some u → (x : SeatedSourceState) × (get_elem? sources k ≡ some x) × (root_of u ≡ source_root x moment)
object_at moment [] [] are at k u is = absurd (let e : none ≡ some u = is in cc)
object_at moment [] (y ∷ objects) are at k u is = absurd are
object_at moment (x ∷ sources) [] are at k u is = absurd are
object_at moment (x ∷ sources) (object.Machine s ∷ objects) are at zero u is = absurd at.0
object_at moment (x ∷ sources) (object.Source s ∷ objects) are at zero u is =
    (x, refl, sym (ap root_of (some_same (object.Source s) u is)) ∙ ap (λ (y : SeatedSourceState). source_root y s.moment) are.0 ∙ ap (source_root x) at.0)
object_at moment (x ∷ sources) (y ∷ objects) are at (suc k) u is = object_at moment sources objects are.1 at.1 k u is

-- a source has its object among theirs
pub that_at : (moment : ℕ) (sources : List SeatedSourceState) (objects : List WorldObject) → AreThose sources objects → AreAtMoment moment objects
    → (k : ℕ) (x : SeatedSourceState) → get_elem? sources k ≡ some x → (u : WorldObject) × (get_elem? objects k ≡ some u) × (root_of u ≡ source_root x moment)
that_at moment [] objects are at k x is = absurd (let e : none ≡ some x = is in cc)
that_at moment (y ∷ sources) [] are at k x is = absurd are
that_at moment (y ∷ sources) (object.Machine s ∷ objects) are at zero x is = absurd at.0
that_at moment (y ∷ sources) (object.Source s ∷ objects) are at zero x is =
    (object.Source s, refl, ap (λ (z : SeatedSourceState). source_root z s.moment) are.0 ∙ ap (source_root y) at.0 ∙ ap (λ (z : SeatedSourceState). source_root z moment) (some_same y x is))
that_at moment (y ∷ sources) (o ∷ objects) are at (suc k) x is = that_at moment sources objects are.1 at.1 k x is

-- ---- the objects of a world

numbers_same : (a b : ℕ) → Some a ≡ Some b → a ≡ b
numbers_same a b e = cc

module _ (m : Machine) (table : TableId) (moment : ℕ) (core : SeatedCoreState) (sources : List SeatedSourceState) (tasks : List Task) where
  module _ (ready : AreReady m table core sources tasks) (kept : SourcesInvariant sources) where
    source_is : (s : ℕ) (x : SeatedSourceState) → get_elem? sources s ≡ some x → source_root x moment ≡ record { machine = None; table = table; number = s; moment = moment }
    source_is s x at =
        let seat = ready.seats.each_is s x.seat (seat_of sources s x at) in
        let number : x.source.id ≡ s = numbers_same x.source.id s (sym (preserved_at sources kept s x at).number ∙ seat.1) in
        let place : x.seat.table_id ≡ table = seat.0 ∙ ready.table_is in
        ap (λ (t : TableId). record { machine = None; table = t; number = x.source.id; moment = moment }) place
        ∙ ap (λ (n : ℕ). record { machine = None; table = table; number = n; moment = moment }) number

    machine_is : machine_root core ≡ record { machine = Some m; table = table; number = length m.sources + 1; moment = 0 }
    machine_is =
        let many : source_count core.seat ≡ length m.sources + 1 = sym ready.seats.counted ∙ length-map sources (λ s. s.seat) ∙ ready.count in
        ap (λ (x : Machine). record { machine = Some x; table = core.seat.table_id; number = source_count core.seat; moment = 0 }) ready.machine
        ∙ ap (λ (t : TableId). record { machine = Some m; table = t; number = source_count core.seat; moment = 0 }) ready.table_is
        ∙ ap (λ (n : ℕ). record { machine = Some m; table = table; number = n; moment = 0 }) many

    -- what goes in is a world
    pub objects_are : (objects : List WorldObject) → AreObjectsOf moment core sources objects → AreObjects m table moment objects
    objects_are objects all = record {
      count = ap (λ (l : List WorldObject). length l) all.are ∙ ap (λ (n : ℕ). suc n) (those_count sources all.rest all.those ∙ ready.count) ∙ omega arith;
      machine = λ u at.
          let at_head : some (object.Machine core) ≡ some u = sym (ap (λ (l : List WorldObject). get_elem? l 0) all.are) ∙ at in
          sym (ap root_of (some_same (object.Machine core) u at_head)) ∙ machine_is;
      source = λ s u at.
          let plus : 1 + s ≡ suc s = omega arith in
          let at_rest : get_elem? all.rest s ≡ some u = sym (ap (λ (l : List WorldObject). get_elem? l (suc s)) all.are) ∙ sym (ap (λ (n : ℕ). get_elem? objects n) plus) ∙ at in
          let one = object_at moment sources all.rest all.those all.at s u at_rest in
          one.2 ∙ source_is s one.0 one.1;
    }
