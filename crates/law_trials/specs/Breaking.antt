-- A log with one thing changed, and a law that fails at one entry.
use Rattle.std.specs.Prelude.{ℕ, ◌+◌, List, [], ◌∷◌, ◌++◌, take, drop, reverse}
use Rattle.sleep_model.specs.declared.entry.Actor.{Actor}
use Rattle.sleep_model.specs.declared.entry.Entry.{Entry}
use Rattle.sleep_model.specs.declared.entry.JournalEntry.{JournalEntry}
use Rattle.sleep_model.specs.declared.entry.Kind.{Kind}
use Rattle.sleep_model.specs.declared.machine.Machine.{Machine}

-- the entry with that index, from 0, is left out
abbrev pub left_out : ℕ → List Entry → List Entry
left_out k entries = take k entries ++ drop (k + 1) entries

-- the first says something else
abbrev pub first_says : Kind → List Entry → List Entry
first_says kind [] = []
first_says kind (e ∷ entries) = record e { kind = kind } ∷ entries

-- it says something else
abbrev pub says : ℕ → Kind → List Entry → List Entry
says k kind entries = take k entries ++ first_says kind (drop k entries)

-- the first is by another
abbrev pub first_by : Actor → List Entry → List Entry
first_by who [] = []
first_by who (e ∷ entries) = record e { actor = who } ∷ entries

-- it is by another
abbrev pub by : ℕ → Actor → List Entry → List Entry
by k who entries = take k entries ++ first_by who (drop k entries)

-- the first is made at another time
abbrev pub first_at_time : ℕ → List Entry → List Entry
first_at_time time [] = []
first_at_time time (e ∷ entries) = record e { time = time } ∷ entries

-- it is made at another time
abbrev pub at_time : ℕ → ℕ → List Entry → List Entry
at_time k time entries = take k entries ++ first_at_time time (drop k entries)

-- the first has another stamp
abbrev pub first_stamped : ℕ → ℕ → List JournalEntry → List JournalEntry
first_stamped pos tick [] = []
first_stamped pos tick (e ∷ entries) = record e { stamp = record { pos = pos; tick = tick } } ∷ entries

-- the entry with that index, from 0, has another stamp, of that position and that tick
abbrev pub with_stamp : ℕ → ℕ → ℕ → List JournalEntry → List JournalEntry
with_stamp k pos tick entries = take k entries ++ first_stamped pos tick (drop k entries)

-- the law fails at the first of the later entries, from those before it
abbrev pub FailsNext : (Machine → List Entry → Kind → Type 0) → Machine → List Entry → List Entry → Type 0
FailsNext law m past [] = ⊥
FailsNext law m past (e ∷ later) = law m past e.kind → ⊥

-- the law fails at the entry with that index, from 0
abbrev pub FailsAt : (Machine → List Entry → Kind → Type 0) → Machine → ℕ → List Entry → Type 0
FailsAt law m k entries = FailsNext law m (reverse (take k entries)) (drop k entries)
