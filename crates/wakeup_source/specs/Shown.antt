-- A call on a source if its bump shows the word, and if it shows its steps.
use Rattle.std.specs.Prelude.{◌≡◌, ◌++◌, ℕ, true, List, [], ◌∷◌, Option, Some, None, Result, Ok}
use Rattle.sleep_model.specs.declared.entry.Actor.{Actor}
use Rattle.sleep_model.specs.declared.entry.Entry.{Entry}
use Rattle.sleep_model.specs.declared.machine.SourceCall.{SourceCall}
use Rattle.sleep_model.specs.declared.machine.SourceCall.TheVariants as call
use Rattle.sleep_model.specs.declared.word.EventNow.{EventNow}
use Rattle.sleep_model.specs.declared.word.WordKind.{WordKind}
use Rattle.sleep_model.specs.Numbers.{after_step}
use Rattle.sleep_model.specs.EntryClasses.{EntryClass, Moves, class_of}
use Rattle.sleep_model.specs.Sources.{makes, since, expiry, has_expired}
use Rattle.event_word.specs.Steps.{MadeStep}
use Rattle.wakeup_source.specs.declared.call_by.CallBy.{CallBy}
use Rattle.wakeup_source.specs.SourceStates.{SourceState, unstamped_source, note_entry, step_entry}

-- the word after these steps
abbrev pub word_after_kinds : List WordKind → EventNow → EventNow
word_after_kinds [] word = word
word_after_kinds (step ∷ rest) word = word_after_kinds rest (after_step (Some step) word)

-- the entries, the newest first, after these steps from that word on
abbrev pub after_steps : ℕ → Actor → ℕ → EventNow → List WordKind → List Entry → List Entry
after_steps s who time word [] own = own
after_steps s who time word (step ∷ rest) own =
    after_steps s who time (after_step (Some step) word) rest (step_entry s step who time word ∷ own)

-- the entries of a call on a source with that history, the newest first, at that word: its note, and each step of it
abbrev pub source_call : ℕ → SourceCall → Actor → ℕ → EventNow → List Entry → List Entry
source_call s call who time word own =
    after_steps s who time word (makes call (since own)) (note_entry s call who time word ∷ [])

-- if the holder shows the word, a call adds its entries at that word, and the word then is the one after its steps
abbrev pub IsShownCall : CallBy → SourceCall → Option EventNow → Option EventNow → SourceState → SourceState → Type 0
IsShownCall by call None shown old new = shown ≡ None
IsShownCall by call (Some word) shown old new =
    (unstamped_source new.past ≡ source_call old.id call by.actor by.now word (unstamped_source old.past) ++ unstamped_source old.past)
    × (shown ≡ Some (word_after_kinds (makes call (since (unstamped_source old.past))) word))

-- an entry's step on the word put before others, if it is one
abbrev pub step_by : EntryClass → EventNow → List MadeStep → List MadeStep
step_by (Moves s step) before made = record { step = step; before = before } ∷ made
step_by _ before made = made

-- the steps on the word in a history, the newest first
abbrev pub steps_in : List Entry → List MadeStep
steps_in [] = []
steps_in (e ∷ own) = step_by (class_of e.kind) e.now (steps_in own)

-- if a bump showed the history's steps as its own, it shows them after the call
abbrev pub AreOwnSteps : Option (List MadeStep) → Option (List MadeStep) → SourceState → SourceState → Type 0
AreOwnSteps old_made new_made old new =
    old_made ≡ Some (steps_in (unstamped_source old.past)) → new_made ≡ Some (steps_in (unstamped_source new.past))

-- a call may be made: an expiry only if its moment has come (pm_wakeup_timer_fn)
abbrev pub MayCall : SourceCall → List Entry → ℕ → Type 0
MayCall call.Expire own time = has_expired (expiry own) time ≡ true
MayCall _ own time = Unit {0}

-- a fact of an expiry that was made
abbrev pub OnDone : {A E : Type 0} → Result (Option A) E → Type 0 → Type 0
OnDone (Ok (Some answer)) fact = fact
OnDone _ fact = Unit {0}
