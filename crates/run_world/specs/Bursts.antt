-- What a whole burst came to.
use Rattle.std.specs.Prelude.{◌≡◌, ℕ, true, List, [], ◌∷◌, length}
use Rattle.sleep_model.specs.Fits.{is_word64}
use Rattle.turn_lock.specs.declared.view.Made.{Made}
use Rattle.run_laws.specs.Passes.{Noted}
use Rattle.run_objects.specs.Objects.{SeatedCoreState, SeatedSourceState}
use Rattle.run_world.specs.declared.object.WorldObject.{WorldObject}
use Rattle.run_world.specs.ObjectLists.{AreObjectsOf, IsClosedWorld}
use Rattle.run_world.specs.declared.task.Task.{Task}
use Rattle.run_world.specs.Acts.{Plays, all_gains}

-- each task went on by acts of its own, and its pass made just what they added
abbrev pub AllPlayed : ℕ → ℕ → List Task → List (List (Made Noted)) → List Task → Type 0
AllPlayed count moment [] [] [] = Unit {0}
AllPlayed count moment (old ∷ olds) (made ∷ passes) (new ∷ news) =
    ((acts : List (List (Made Noted))) × (made ≡ all_gains acts) × Plays count moment old acts new) × AllPlayed count moment olds passes news
AllPlayed count moment _ _ _ = ⊥

-- a burst at that moment: the machine and its sources went in under locks, and came back with what the passes made, each pass what its
-- task's acts added
pub record IsBurst
    (moment : ℕ) (machine : SeatedCoreState) (sources : List SeatedSourceState) (tasks : List Task)
    (machine_then : SeatedCoreState) (sources_then : List SeatedSourceState) (tasks_then : List Task) : Type 0 where
  pub first : List WorldObject
  pub passes : List (List (Made Noted))
  pub timed : is_word64 moment ≡ true
  pub opened : AreObjectsOf moment machine sources first
  pub closed : IsClosedWorld first passes machine_then sources_then
  pub played : AllPlayed (length sources) moment tasks passes tasks_then
