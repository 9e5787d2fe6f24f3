-- Entries that may not be made, tables that schedule no steps, and looks that are not the last.
use Rattle.std.specs.Prelude.{ℕ, false, List, [], ◌∷◌, drop, reverse}
use Rattle.sleep_model.specs.declared.entry.Actor.TheVariants as actor
use Rattle.sleep_model.specs.declared.entry.Entry.{Entry}
use Rattle.sleep_model.specs.declared.entry.JournalEntry.{JournalEntry}
use Rattle.sleep_model.specs.declared.entry.Kind.TheVariants as kind
use Rattle.sleep_model.specs.declared.entry.SourceEntry.{SourceEntry}
use Rattle.sleep_model.specs.declared.word.EventNow.{EventNow}
use Rattle.sleep_model.specs.declared.word.Stamp.{Stamp}
use Rattle.sleep_model.specs.declared.word.WordKind.TheVariants as step
use Rattle.event_word.specs.Steps.{MadeStep}
use Rattle.wakeup_source.specs.declared.call_by.CallBy.{CallBy}
use Rattle.law_trials.specs.Merging.{all_ticked, in_history}
use Rattle.law_trials.specs.Terms.{entry, word}
use Rattle.law_trials.specs.Timers.{event_expires_entries}

-- the first n entries of a log with three jumps, the newest first
abbrev pub first_of : ℕ → List JournalEntry
first_of left = drop left (reverse (all_ticked 1 event_expires_entries))

-- an entry with that position and that tick
abbrev pub stamped : ℕ → ℕ → Entry → JournalEntry
stamped pos tick e = record { stamp = record { pos = pos; tick = tick }; entry = e }

-- the line's step of its sleep, before it has made the start of its call
abbrev pub sleep_in_the_call : JournalEntry
sleep_in_the_call = stamped 0 2 (entry 0 (word 0 0 0) (actor.Script 0) (kind.Sleep 50))

-- the start of the call, by another than its caller
abbrev pub start_of_another : JournalEntry
start_of_another = stamped 0 2 (entry 0 (word 0 0 0) (actor.Timer 0) (kind.Start 0))

-- the start of the call, with the tick of its note
abbrev pub start_too_early : JournalEntry
start_too_early = stamped 0 1 (entry 0 (word 0 0 0) (actor.Script 0) (kind.Start 0))

-- the sleep after the call, at the position before its start
abbrev pub sleep_at_an_older_word : JournalEntry
sleep_at_an_older_word = stamped 0 3 (entry 0 (word 1 0 0) (actor.Script 0) (kind.Sleep 50))

-- the last jump, of a maker whose floor is before the source's finish
abbrev pub jump_one_source_short : JournalEntry
jump_one_source_short = stamped 1 12 (entry 250 (word 0 1 0) actor.Time kind.Jump)

-- the first jump, too far
abbrev pub jump_too_far : JournalEntry
jump_too_far = stamped 1 4 (entry 60 (word 1 0 0) actor.Time kind.Jump)

-- the end of the sleep, at the time before the jump
abbrev pub slept_too_early : JournalEntry
slept_too_early = stamped 1 5 (entry 0 (word 1 0 0) (actor.Script 0) kind.Slept)

-- ---- the table

-- an event on the first of two sources, noted and begun
abbrev pub begun : List (List SourceEntry)
begun =
    (in_history (stamped 0 1 (entry 0 (word 0 0 0) (actor.Script 0) (kind.Event 0 100 false)))
    ∷ in_history (stamped 0 2 (entry 0 (word 0 0 0) (actor.Script 0) (kind.Start 0)))
    ∷ [])
    ∷ []
    ∷ []

-- the sleep after it
abbrev pub asleep : List JournalEntry
asleep = stamped 1 3 (entry 0 (word 1 0 0) (actor.Script 0) (kind.Sleep 50)) ∷ []

-- the start as its seat made it
abbrev pub made_start : List (List MadeStep)
made_start = (record { step = step.Start; before = word 0 0 0 } ∷ []) ∷ [] ∷ []

-- no step was made
abbrev pub made_nothing : List (List MadeStep)
made_nothing = [] ∷ [] ∷ []

-- the looks of the first source's seat, and of the machine's
abbrev pub looks : List (List EventNow)
looks = (word 0 0 0 ∷ []) ∷ [] ∷ (word 1 0 0 ∷ []) ∷ []

-- the same, but that the machine saw the word before the start
abbrev pub older_looks : List (List EventNow)
older_looks = (word 0 0 0 ∷ []) ∷ [] ∷ (word 0 0 0 ∷ []) ∷ []

-- what the maker of that jump knew: all but the source's finish
abbrev pub short_floor : Stamp
short_floor = record { pos = 1; tick = 11 }

-- what the line knew after its note
abbrev pub note_floor : Stamp
note_floor = record { pos = 0; tick = 1 }

-- ---- a call and a seat

-- the line's call, before anything was made
abbrev pub by_line : CallBy
by_line = record { actor = actor.Script 0; floor = record { pos = 0; tick = 0 }; now = 0 }

-- the event begun, the newest first
abbrev pub begun_back : List SourceEntry
begun_back =
    in_history (stamped 0 2 (entry 0 (word 0 0 0) (actor.Script 0) (kind.Start 0)))
    ∷ in_history (stamped 0 1 (entry 0 (word 0 0 0) (actor.Script 0) (kind.Event 0 100 false)))
    ∷ []

-- its start, as the seat made it
abbrev pub start_made : List MadeStep
start_made = record { step = step.Start; before = word 0 0 0 } ∷ []

-- the start, and a finish that the history lacks
abbrev pub finish_too : List MadeStep
finish_too = record { step = step.Finish; before = word 1 0 0 } ∷ start_made
