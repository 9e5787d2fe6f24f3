-- Which rules a log breaks at an index.
use Rattle.std.specs.Prelude.{ℕ, Bool, true, false, List, [], ◌∷◌, take, drop, reverse}
use Rattle.sleep_model.specs.declared.entry.Entry.{Entry}
use Rattle.sleep_model.specs.declared.machine.Machine.{Machine}
use Rattle.sleep_model.specs.Order.{is_among}
use Rattle.sleep_model.specs.EntryClasses.{class_of}
use Rattle.rule_definitions.specs.Entry.{Rule, Links, Numbers, Attempts, Reads, Walk, Skip, Runtime, Owed, Freezer, Path, Answers, Restored, Steps, Enabled, Source, KeepsRule}

-- what may be asked of an entry, by the entries before it
abbrev pub Question : Type 1
Question = Machine → List Entry → Entry → Type 0

-- it holds of the first of the later entries, from those before it
abbrev pub HoldsNext : Question → Machine → List Entry → List Entry → Type 0
HoldsNext question m past [] = ⊥
HoldsNext question m past (e ∷ later) = question m past e

-- it holds of the entry with that index, from 0
abbrev pub HoldsAt : Question → Machine → ℕ → List Entry → Type 0
HoldsAt question m k entries = HoldsNext question m (reverse (take k entries)) (drop k entries)

-- an entry breaks a rule or keeps it, as is said
abbrev pub Judged : Bool → Rule → Question
Judged true rule m past e = KeepsRule m past e (class_of e.kind) rule → ⊥
Judged false rule m past e = KeepsRule m past e (class_of e.kind) rule

-- an entry breaks the rules with these numbers, and no other
abbrev pub BreaksJust : List ℕ → Question
BreaksJust numbers m past e =
    Judged (is_among numbers 2) Links m past e × Judged (is_among numbers 4) Numbers m past e
    × Judged (is_among numbers 7) Attempts m past e × Judged (is_among numbers 8) Reads m past e
    × Judged (is_among numbers 9) Walk m past e × Judged (is_among numbers 10) Skip m past e
    × Judged (is_among numbers 11) Runtime m past e × Judged (is_among numbers 12) Owed m past e
    × Judged (is_among numbers 13) Freezer m past e × Judged (is_among numbers 14) Path m past e
    × Judged (is_among numbers 15) Answers m past e × Judged (is_among numbers 16) Restored m past e
    × Judged (is_among numbers 17) Steps m past e × Judged (is_among numbers 18) Enabled m past e
    × Judged (is_among numbers 22) Source m past e
