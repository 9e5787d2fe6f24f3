-- Whose entry a kind is: the journal's, a source's, or time's.
use Rattle.std.specs.Prelude.{ℕ, Bool, true, false, List, filter}
use Rattle.sleep_model.specs.declared.entry.Entry.{Entry}
use Rattle.sleep_model.specs.declared.entry.Kind.{Kind}
use Rattle.sleep_model.specs.declared.entry.Kind.TheVariants.{Awake, Relax, Event, Expire, Start, Finish, Hard, Jump}
use Rattle.sleep_model.specs.declared.machine.SourceCall.{SourceCall}
use Rattle.sleep_model.specs.declared.machine.SourceCall.TheVariants as call
use Rattle.sleep_model.specs.declared.word.WordKind.{WordKind}
use Rattle.sleep_model.specs.declared.word.WordKind.TheVariants as step

-- an entry of the journal, the note of a call on a source, a step that a source makes on the word, or a jump of time (own)
pub data EntryClass : Type 0 where
  OfJournal : EntryClass
  Notes : (source : ℕ) → (made : SourceCall) → EntryClass
  Moves : (source : ℕ) → (step : WordKind) → EntryClass
  OfTime : EntryClass

-- notes and word steps are a source's (wakeup_source_report_event, wakeup_source_activate, wakeup_source_deactivate)
abbrev pub class_of : Kind → EntryClass
class_of (Awake s) = Notes s call.Awake
class_of (Relax s) = Notes s call.Relax
class_of (Event s ms hard) = Notes s (call.Event ms hard)
class_of (Expire s) = Notes s call.Expire
class_of (Start s) = Moves s step.Start
class_of (Finish s) = Moves s step.Finish
class_of (Hard s) = Moves s step.Hard
class_of Jump = OfTime
class_of _ = OfJournal

-- the journal has its own entries and the jumps of time
abbrev pub is_in_journal : EntryClass → Bool
is_in_journal OfJournal = true
is_in_journal OfTime = true
is_in_journal _ = false

-- the journal among all entries: the sources have their own
abbrev pub journal : List Entry → List Entry
journal past = filter (λ e. is_in_journal (class_of e.kind)) past
