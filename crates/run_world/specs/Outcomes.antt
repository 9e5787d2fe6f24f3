-- What a call on an object of the world came to.
use Rattle.std.specs.Prelude.{◌≡◌, ◌≢◌, ◌≤◌, ◌+◌, ◌⊎◌, ℕ, false, List, [], ◌∷◌, ◌++◌, map, length, Option, Some, None, Result, Ok, Err}
use Rattle.sleep_model.specs.declared.entry.Actor.{Actor}
use Rattle.sleep_model.specs.declared.entry.JournalEntry.{JournalEntry}
use Rattle.sleep_model.specs.declared.entry.SourceEntry.{SourceEntry}
use Rattle.sleep_model.specs.declared.entry.Kind.{Kind}
use Rattle.sleep_model.specs.declared.log.Why.{Why}
use Rattle.sleep_model.specs.declared.log.Why.TheVariants as why
use Rattle.sleep_model.specs.declared.machine.Machine.{Machine}
use Rattle.sleep_model.specs.declared.machine.SourceCall.{SourceCall}
use Rattle.sleep_model.specs.declared.machine.SourceCall.TheVariants as calls
use Rattle.sleep_model.specs.declared.progress.Due.TheVariants.{Makes, Waits, Nothing}
use Rattle.sleep_model.specs.declared.progress.Due.{Due}
use Rattle.sleep_model.specs.declared.word.EventNow.{EventNow}
use Rattle.sleep_model.specs.declared.word.Stamp.{Stamp}
use Rattle.sleep_model.specs.Calls.{calls_due}
use Rattle.sleep_model.specs.Devices.{is_device}
use Rattle.sleep_model.specs.Due.{due}
use Rattle.sleep_model.specs.Legal.{JournalPart}
use Rattle.sleep_model.specs.Merge.{of_source}
use Rattle.sleep_model.specs.Numbers.{time_of}
use Rattle.sleep_model.specs.Path.{attempts, is_actor, maker}
use Rattle.sleep_model.specs.Sources.{expiry, has_expired}
use Rattle.sleep_model.specs.Word.{position}
use Rattle.sleep_state.specs.JournalRooms.{entries}
use Rattle.sleep_core.specs.declared.turns.CoreFault.{CoreFault}
use Rattle.sleep_core.specs.declared.turns.CoreTurn.{CoreTurn}
use Rattle.sleep_core.specs.declared.turns.CoreTurn.TheVariants.{Did, NotYet, Done}
use Rattle.sleep_core.specs.Cores.{made_entry, next_stamp}
use Rattle.core_history.specs.Histories.{last_stamp}
use Rattle.wakeup_source.specs.declared.call_by.CallBy.{CallBy}
use Rattle.wakeup_source.specs.declared.fault.SourceFault.{SourceFault}
use Rattle.wakeup_source.specs.Called.{Calls, SourceView}
use Rattle.wakeup_source.specs.SourceStates.{IsSettled, unstamped_source}
use Rattle.wakeup_source.specs.Shown.{MayCall}
use Rattle.turn_lock.specs.declared.view.Made.{Made}
use Rattle.turn_lock.specs.Bookings.{placed}
use Rattle.turn_lock.specs.Locks.{IsTaken}
use Rattle.turn_lock.specs.Passes.{LockToken}
use Rattle.run_laws.specs.Passes.{Noted, items}
use Rattle.run_laws.specs.Seated.{IsFresh}
use Rattle.run_world.specs.declared.object.WorldObject.{WorldObject}
use Rattle.run_world.specs.Calling.{IsRefusedBy}
use Rattle.run_world.specs.Objects.{notes_of, root_of}
use Rattle.run_world.specs.Roots.{notes_on}

-- a whole call on that source, which was between calls: what the pass gained is just the call's entries, after the source's history
pub record IsReport (by : CallBy) (call : SourceCall) (s : ℕ) (stamp : Stamp) (gains : List (Made Noted)) : Type 0 where
  pub old : SourceView
  pub new : SourceView
  pub added : List SourceEntry
  pub number : old.source.id ≡ s
  pub settled : IsSettled old.source
  pub fresh : IsFresh old.source
  pub may : MayCall call (unstamped_source old.source.past) by.now
  pub calls : Calls by call old new
  pub grown : new.source.past ≡ added ++ old.source.past
  pub leaves : IsSettled new.source
  pub stamp_is : stamp ≡ new.source.floor
  pub gained : gains ≡ placed (1 + s) (length old.source.past) (notes_on (map of_source old.source.past) (map of_source added))

-- a report that made no call: it was an expiry whose moment, by the history before, has not come, and the pass gained nothing
pub record IsNoReport (by : CallBy) (call : SourceCall) (past : List SourceEntry) (gains : List (Made Noted)) : Type 0 where
  pub is : call ≡ calls.Expire
  pub waits : has_expired (expiry (unstamped_source past)) by.now ≡ false
  pub gained : gains ≡ []

-- a report that was refused, for the places that the history before has left, or if it is out of memory: the pass gained nothing
pub record IsRefusedReport (fault : SourceFault) (past : List SourceEntry) (gains : List (Made Noted)) : Type 0 where
  pub refused : IsRefusedBy fault (length past)
  pub gained : gains ≡ []

-- a report on a source with that history that answers a stamp added its entries; none comes only for an expiry whose moment has not come;
-- nothing else adds any
abbrev pub AfterReport : CallBy → SourceCall → ℕ → List SourceEntry → Result (Option Stamp) SourceFault → List (Made Noted) → Type 0
AfterReport by call s past (Ok (Some stamp)) gains = (report : IsReport by call s stamp gains) × (report.old.source.past ≡ past)
AfterReport by call s past (Ok None) gains = IsNoReport by call past gains
AfterReport by call s past (Err fault) gains = IsRefusedReport fault past gains

-- the history that a pass finds at a source's lock: what it made there itself is in it, at its indices
pub record FindsSource (p : LockToken WorldObject Noted) (s : ℕ) (past : List SourceEntry) : Type 0 where
  pub found : WorldObject
  pub taken : IsTaken root_of notes_of p.me.0 (1 + s) found
  pub notes : notes_of found ≡ items (map of_source past)

-- a turn of the machine by an actor whose calls were all made: what the pass gained is its one entry, which is due, after the journal
pub record IsTurn (m : Machine) (who : Actor) (calls : ℕ) (floor stamp : Stamp) (k : Kind) (attempt : ℕ) (gains : List (Made Noted)) : Type 0 where
  pub past : List JournalEntry
  pub word : EventNow
  pub calls_are : calls ≡ calls_due m who (entries past)
  pub due_is : due m (entries past) who word ≡ Makes k
  pub floor_low : floor.pos ≤ position word
  pub last_low : (last_stamp past).pos ≤ position word
  pub stamp_is : stamp ≡ next_stamp past floor word
  pub attempt_is : attempt ≡ attempts (entries (made_entry past who word floor k ∷ past))
  pub legal : JournalPart m (entries (made_entry past who word floor k ∷ past))
  pub gained : gains ≡ placed 0 (length past) (record { entry = made_entry past who word floor k; past = past } ∷ [])

-- a turn that was tried at the core's time, and did nothing: the pass gained nothing
pub record IsNoTurn
    (m : Machine) (who : Actor) (calls : ℕ) (floor : Stamp) (now : ℕ) (past : List JournalEntry) (answer : Due)
    (gains : List (Made Noted)) : Type 0 where
  pub word : EventNow
  pub calls_are : calls ≡ calls_due m who (entries past)
  pub now_is : now ≡ time_of (entries past)
  pub due_is : due m (entries past) who word ≡ answer
  pub floor_low : floor.pos ≤ position word
  pub gained : gains ≡ []

-- a turn by numbers that are no longer the core's is answered the core's own, of which one is not what was given, and the pass gained
-- nothing
pub record IsStaleTurn
    (m : Machine) (who : Actor) (calls now : ℕ) (past : List JournalEntry) (cause : Why) (gains : List (Made Noted))
    : Type 0 where
  pub due : ℕ
  pub time : ℕ
  pub shown : cause ≡ why.Stale due time
  pub due_is : due ≡ calls_due m who (entries past)
  pub time_is : time ≡ time_of (entries past)
  pub differs : (due ≢ calls) ⊎ (time ≢ now)
  pub gained : gains ≡ []

-- a turn that found no memory: it comes to no maker of an open attempt, and to no device, and the pass gained nothing
pub record IsRefusedTurn
    (m : Machine) (who : Actor) (calls now : ℕ) (past : List JournalEntry) (gains : List (Made Noted)) : Type 0 where
  pub calls_are : calls ≡ calls_due m who (entries past)
  pub now_is : now ≡ time_of (entries past)
  pub no_maker : is_actor who (maker (entries past)) ≡ false
  pub no_device : is_device who ≡ false
  pub gained : gains ≡ []

-- a turn by a journal that did something added its entry at its time; whoever waits does so by what is due, or for numbers that are no
-- longer the core's; nothing else adds any
abbrev pub AfterCoreTurn : Machine → Actor → ℕ → Stamp → ℕ → List JournalEntry → Result CoreTurn CoreFault → List (Made Noted) → Type 0
AfterCoreTurn m who calls floor now past (Ok (Did stamp k attempt)) gains =
    (turn : IsTurn m who calls floor stamp k attempt gains) × (turn.past ≡ past) × (now ≡ time_of (entries past))
AfterCoreTurn m who calls floor now past (Ok (NotYet cause)) gains =
    IsNoTurn m who calls floor now past (Waits cause) gains ⊎ IsStaleTurn m who calls now past cause gains
AfterCoreTurn m who calls floor now past (Ok Done) gains = IsNoTurn m who calls floor now past Nothing gains
AfterCoreTurn m who calls floor now past (Err fault) gains = IsRefusedTurn m who calls now past gains

-- the journal that a pass finds at the machine's lock: what it made there itself is in it, at its indices
pub record FindsMachine (p : LockToken WorldObject Noted) (past : List JournalEntry) : Type 0 where
  pub found : WorldObject
  pub taken : IsTaken root_of notes_of p.me.0 0 found
  pub notes : notes_of found ≡ items past
