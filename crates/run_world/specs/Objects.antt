-- The objects of the world: object 0 is the machine, object 1 + s the source s.
use Rattle.std.specs.Prelude.{◌≡◌, ◌+◌, ℕ, List, map, length, Some, None}
use mathlib.Core.Option.{some}
use lib.ListN.{get_elem?}
use Rattle.sleep_model.specs.declared.entry.JournalEntry.{JournalEntry}
use Rattle.sleep_model.specs.declared.machine.Machine.{Machine}
use Rattle.sleep_model.specs.Merge.{of_source}
use Rattle.atomic_table.specs.Seated.{TableId}
use Rattle.run_laws.specs.Passes.{Noted, items}
use Rattle.turn_lock.specs.Passes.{LockToken, IsPass, first_of}
use Rattle.run_world.specs.declared.object.WorldObject.{WorldObject}
use Rattle.run_world.specs.declared.object.WorldObject.TheVariants as object
use Rattle.run_world.specs.Roots.{WorldRoot, machine_root, source_root}

-- what never changes in an object
abbrev pub root_of : WorldObject → WorldRoot
root_of (object.Machine s) = machine_root s
root_of (object.Source s) = source_root s.source s.moment

-- the entries of an object, the newest first: the machine's journal, or a source's history
abbrev pub journal_of : WorldObject → List JournalEntry
journal_of (object.Machine s) = s.core.past
journal_of (object.Source s) = map of_source s.source.source.past

-- its list: each entry with those before it
abbrev pub notes_of : WorldObject → List Noted
notes_of y = items (journal_of y)

-- the objects of a machine's world in a burst: the machine, and each of its sources, autosleep's last, all with seats of that table
pub record AreObjects (m : Machine) (table : TableId) (moment : ℕ) (first : List WorldObject) : Type 0 where
  pub count : length first ≡ length m.sources + 2
  pub machine : (u : WorldObject) → get_elem? first 0 ≡ some u
      → root_of u ≡ record { machine = Some m; table = table; number = length m.sources + 1; moment = 0 }
  pub source : (s : ℕ) (u : WorldObject) → get_elem? first (1 + s) ≡ some u
      → root_of u ≡ record { machine = None; table = table; number = s; moment = moment }

-- a pass at the lock of a machine's world, which holds nothing
pub record IsWorldPass (m : Machine) (table locks : TableId) (moment : ℕ) (p : LockToken WorldObject Noted) : Type 0 where
  pub pass : IsPass locks (first_of p) p
  pub objects : AreObjects m table moment (first_of p)
