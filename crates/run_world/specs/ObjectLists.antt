-- The objects of the world as lists of the machine and its sources.
use Rattle.std.specs.Prelude.{◌≡◌, ◌≤◌, ℕ, List, [], ◌∷◌}
use Rattle.wakeup_source.specs.SourceStates.{unstamped_source, latest}
use Rattle.run_laws.specs.Passes.{Noted}
use Rattle.turn_lock.specs.declared.view.Made.{Made}
use Rattle.turn_lock.specs.Locks.{AreClosed}
use Rattle.run_objects.specs.Objects.{SeatedCoreState, SeatedSourceState}
use Rattle.run_world.specs.declared.object.WorldObject.{WorldObject}
use Rattle.run_world.specs.declared.object.WorldObject.TheVariants as object
use Rattle.run_world.specs.Objects.{notes_of, root_of}

-- no source has an entry later than that moment
abbrev pub AreTimely : ℕ → List SeatedSourceState → Type 0
AreTimely moment [] = Unit {0}
AreTimely moment (s ∷ sources) = (latest (unstamped_source s.source.past) ≤ moment) × AreTimely moment sources

-- the object is the machine
abbrev pub IsMachine : WorldObject → Type 0
IsMachine (object.Machine s) = Unit {0}
IsMachine (object.Source s) = ⊥

-- the object is a source in a burst at that moment
abbrev pub IsAtMoment : ℕ → WorldObject → Type 0
IsAtMoment moment (object.Machine s) = ⊥
IsAtMoment moment (object.Source s) = s.moment ≡ moment

-- so is each
abbrev pub AreAtMoment : ℕ → List WorldObject → Type 0
AreAtMoment moment [] = Unit {0}
AreAtMoment moment (y ∷ objects) = IsAtMoment moment y × AreAtMoment moment objects

-- the object is that source
abbrev pub IsThat : SeatedSourceState → WorldObject → Type 0
IsThat source (object.Machine s) = ⊥
IsThat source (object.Source s) = s.source ≡ source

-- the objects are these sources, in order
abbrev pub AreThose : List SeatedSourceState → List WorldObject → Type 0
AreThose [] [] = Unit {0}
AreThose [] (y ∷ objects) = ⊥
AreThose (s ∷ sources) [] = ⊥
AreThose (s ∷ sources) (y ∷ objects) = IsThat s y × AreThose sources objects

-- the objects are the machine, and after it these sources, in a burst at that moment
pub record AreObjectsOf (moment : ℕ) (machine : SeatedCoreState) (sources : List SeatedSourceState) (objects : List WorldObject) : Type 0 where
  pub rest : List WorldObject
  pub are : objects ≡ object.Machine machine ∷ rest
  pub those : AreThose sources rest
  pub at : AreAtMoment moment rest

-- a world that is closed: each object has gained what the passes made, and is this machine, or one of these sources
pub record IsClosedWorld
    (first : List WorldObject) (passes : List (List (Made Noted))) (machine : SeatedCoreState)
    (sources : List SeatedSourceState) : Type 0 where
  pub moment : ℕ
  pub values : List WorldObject
  pub closed : AreClosed root_of notes_of first passes values
  pub are : AreObjectsOf moment machine sources values
