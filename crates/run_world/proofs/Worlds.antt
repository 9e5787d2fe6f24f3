-- The machine and its sources that go into a world, and come back from it.
use Rattle.std.proofs.Common.{◌≡◌, ◌∙◌, ◌+◌, ℕ, suc, List, [], ◌∷◌, ◌++◌, length, Some, None, refl, sym, ap, subst, arith, slice_index_or, remove}
use mathlib.Core.Option.{some}
use lib.ListN.{get_elem?}
use Rattle.sleep_model.specs.declared.machine.Machine.{Machine}
use Rattle.atomic_table.specs.Seated.{TableId}
use Rattle.turn_lock.specs.declared.view.Made.{Made}
use Rattle.turn_lock.specs.Locks.{AreClosed}
use Rattle.run_laws.specs.Passes.{Noted}
use Rattle.run_objects.specs.Objects.{SeatedCoreState, SeatedSourceState}
use Rattle.run_world.specs.declared.object.WorldObject.{WorldObject}
use Rattle.run_world.specs.declared.object.WorldObject.TheVariants as object
use Rattle.run_world.specs.ObjectLists.{AreAtMoment, AreThose, IsAtMoment, IsClosedWorld, IsMachine, IsThat}
use Rattle.run_world.specs.Roots.{WorldRoot}
use Rattle.run_world.specs.Objects.{AreObjects, notes_of, root_of}

pub those_more : (sources : List SeatedSourceState) (s : SeatedSourceState) (objects : List WorldObject) (y : WorldObject) → AreThose sources objects → IsThat s y
    → AreThose (sources ++ s ∷ []) (objects ++ y ∷ [])
those_more [] s [] y are is = (is, tt)
those_more [] s (x ∷ objects) y are is = absurd are
those_more (t ∷ sources) s [] y are is = absurd are
those_more (t ∷ sources) s (x ∷ objects) y are is = (are.0, those_more sources s objects y are.1 is)

pub at_more : (moment : ℕ) (objects : List WorldObject) (y : WorldObject) → AreAtMoment moment objects → IsAtMoment moment y → AreAtMoment moment (objects ++ y ∷ [])
at_more moment [] y are is = (is, tt)
at_more moment (x ∷ objects) y are is = (are.0, at_more moment objects y are.1 is)

-- ---- the closed table

-- an object with a source's root is one
at_one : (moment : ℕ) (y : WorldObject) → (root_of y).machine ≡ None → (root_of y).moment ≡ moment → IsAtMoment moment y
at_one moment (object.Machine s) none is = absurd (let e : Some s.core.machine ≡ None = none in cc)
at_one moment (object.Source s) none is = is

machine_one : (m : Machine) (y : WorldObject) → (root_of y).machine ≡ Some m → IsMachine y
machine_one m (object.Machine s) is = tt
machine_one m (object.Source s) is = absurd (let e : None ≡ Some m = is in cc)

HasRoots : ℕ → List WorldObject → Type 0
HasRoots moment objects = (i : ℕ) (y : WorldObject) → get_elem? objects i ≡ some y → ((root_of y).machine ≡ None) × ((root_of y).moment ≡ moment)

at_all : (moment : ℕ) (objects : List WorldObject) → HasRoots moment objects → AreAtMoment moment objects
unfolding HasRoots
at_all moment [] have = tt
at_all moment (y ∷ objects) have = (at_one moment y (have 0 y refl).0 (have 0 y refl).1, at_all moment objects (λ i x at. have (suc i) x at))

-- the objects at the close, by those at first: the machine comes first, and after it the sources
pub record AreBack (moment : ℕ) (values : List WorldObject) : Type 0 where
  pub head : WorldObject
  pub rest : List WorldObject
  pub are : values ≡ head ∷ rest
  pub machine : IsMachine head
  pub sources : AreAtMoment moment rest

module _ (m : Machine) (table : TableId) (moment : ℕ) (first : List WorldObject) (passes : List (List (Made Noted))) (are : AreObjects m table moment first) where
  pub back : (values : List WorldObject) → AreClosed root_of notes_of first passes values → AreBack moment values
  unfolding HasRoots
  back [] closed = absurd (let n : 0 ≡ length first = closed.counted in omega (arith, are.count, n))
  back (y ∷ rest) closed = record {
    head = y;
    rest = rest;
    are = refl;
    machine = let o = closed.objects 0 y refl in machine_one m y (ap (λ (r : WorldRoot). r.machine) (o.2 ∙ are.machine o.0 o.1));
    sources = at_all moment rest (λ i x at.
        let o = closed.objects (suc i) x at in
        let plus : suc i ≡ 1 + i = omega arith in
        let is = are.source i o.0 (ap (λ (n : ℕ). get_elem? first n) (sym plus) ∙ o.1) in
        (ap (λ (r : WorldRoot). r.machine) (o.2 ∙ is), ap (λ (r : WorldRoot). r.moment) (o.2 ∙ is)));
  }

module _ (moment : ℕ) (values rest : List WorldObject) (y : WorldObject) (b : AreBack moment values) (first_is : y ≡ slice_index_or values 0 y) (rest_is : rest ≡ remove values 0) where
  head_is : y ≡ b.head
  head_is = first_is ∙ ap (λ (l : List WorldObject). slice_index_or l 0 y) b.are

  after_is : rest ≡ b.rest
  after_is = rest_is ∙ ap (λ (l : List WorldObject). remove l 0) b.are

  -- the first is the machine, and those after it are sources
  pub head_machine : IsMachine y
  head_machine = subst IsMachine (sym head_is) b.machine

  pub rest_at : AreAtMoment moment rest
  rest_at = subst (AreAtMoment moment) (sym after_is) b.sources

  -- the world is closed
  pub closed_world : (first : List WorldObject) (passes : List (List (Made Noted))) (machine : SeatedCoreState) (sources : List SeatedSourceState)
      → AreClosed root_of notes_of first passes values → y ≡ object.Machine machine → AreThose sources rest → IsClosedWorld first passes machine sources
  closed_world first passes machine sources closed is those = record {
    moment = moment;
    values = values;
    closed = closed;
    are = record {
      rest = b.rest;
      are = b.are ∙ ap (λ (h : WorldObject). h ∷ b.rest) (sym head_is ∙ is);
      those = subst (AreThose sources) after_is those;
      at = b.sources;
    };
  }
