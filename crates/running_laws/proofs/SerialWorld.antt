-- The objects of a burst by the lists of its machine and its sources.
use Rattle.std.proofs.Common.{◌≡◌, ◌≤◌, ◌+◌, ◌∙◌, ℕ, zero, suc, List, [], ◌∷◌, length, map, refl, sym, ap, subst, arith}
use mathlib.Core.Option.{some}
use lib.ListN.{get_elem?}
use Rattle.sleep_model.specs.declared.entry.JournalEntry.{JournalEntry}
use Rattle.sleep_model.specs.Merge.{of_source}
use Rattle.running_laws.specs.Running.{of_sources}
use Rattle.run_objects.specs.Objects.{SeatedCoreState, SeatedSourceState, sources_of}
use Rattle.run_world.specs.declared.object.WorldObject.{WorldObject}
use Rattle.run_world.specs.declared.object.WorldObject.TheVariants as object
use Rattle.run_world.specs.ObjectLists.{AreObjectsOf, AreThose, IsThat}
use Rattle.run_world.specs.Objects.{journal_of}
use Rattle.running_laws.specs.Courses.{lists_of}

that_is : (s : SeatedSourceState) (y : WorldObject) → IsThat s y → journal_of y ≡ map of_source s.source.past
that_is s (object.Machine m) is = absurd is
that_is s (object.Source t) is = ap (λ (x : SeatedSourceState). map of_source x.source.past) is

those_are : (sources : List SeatedSourceState) (objects : List WorldObject) → AreThose sources objects → (s : ℕ) (u : WorldObject) → get_elem? objects s ≡ some u
    → journal_of u ≡ of_sources (sources_of sources) s
those_are [] [] are s u h = absurd (cc)
those_are (x ∷ sources) (y ∷ objects) are zero u h =
    let same : y ≡ u = cc in ap journal_of (sym same) ∙ that_is x y are.0
those_are (x ∷ sources) (y ∷ objects) are (suc s) u h = those_are sources objects are.1 s u h
those_are sources objects are s u h = absurd are

those_count : (sources : List SeatedSourceState) (objects : List WorldObject) → AreThose sources objects → length objects ≡ length sources
those_count [] [] are = refl
those_count (x ∷ sources) (y ∷ objects) are = ap suc (those_count sources objects are.1)
those_count sources objects are = absurd are

-- past the last source there is no list
none_past : (sources : List SeatedSourceState) (s : ℕ) → length sources ≤ s → of_sources (sources_of sources) s ≡ []
none_past [] s l = refl
none_past (x ∷ sources) zero l = absurd (omega arith)
none_past (x ∷ sources) (suc s) l = none_past sources s (omega arith)

module _ (moment : ℕ) (machine : SeatedCoreState) (sources : List SeatedSourceState) (objects : List WorldObject) (all : AreObjectsOf moment machine sources objects) where
  abbrev lists : ℕ → List JournalEntry
  lists = lists_of machine.core.past (sources_of sources)

  pub object_count : length objects ≡ 1 + length sources
  object_count = ap length all.are ∙ (let n : length all.rest ≡ length sources = those_count sources all.rest all.those in omega arith)

  -- an object's list
  pub list_is : (i : ℕ) (u : WorldObject) → get_elem? objects i ≡ some u → journal_of u ≡ lists i
  list_is i u h = at i (subst (λ (l : List WorldObject). get_elem? l i ≡ some u) all.are h)
    where
      at : (j : ℕ) → get_elem? (object.Machine machine ∷ all.rest) j ≡ some u → journal_of u ≡ lists j
      at zero g = let same : object.Machine machine ≡ u = cc in ap journal_of (sym same)
      at (suc s) g = those_are sources all.rest all.those s u g

  -- past the last object there is none
  pub no_list : (i : ℕ) → 1 + length sources ≤ i → lists i ≡ []
  no_list zero l = absurd (omega arith)
  no_list (suc s) l = none_past sources s (omega arith)
