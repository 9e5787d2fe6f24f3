-- What a call on a source, and a turn of the machine, in a burst come to.
use Rattle.std.specs.Prelude.{◌≡◌, ◌≢◌, ◌≤◌, ◌<◌, ◌+◌, ◌⊎◌, ℕ, false, length, Option, Some, None, Result, Ok, Err}
use Rattle.sleep_model.specs.declared.entry.Actor.{Actor}
use Rattle.sleep_model.specs.declared.word.EventNow.{EventNow}
use Rattle.sleep_model.specs.declared.log.Why.TheVariants as why
use Rattle.sleep_model.specs.declared.machine.SourceCall.{SourceCall}
use Rattle.sleep_model.specs.declared.machine.SourceCall.TheVariants as calls
use Rattle.sleep_model.specs.declared.word.Stamp.{Stamp}
use Rattle.sleep_model.specs.Calls.{calls_due}
use Rattle.sleep_model.specs.Legal.{JournalPart}
use Rattle.sleep_model.specs.Numbers.{time_of}
use Rattle.sleep_model.specs.Sources.{expiry, has_expired, most_entries}
use Rattle.sleep_model.specs.Word.{position}
use Rattle.sleep_state.specs.JournalRooms.{entries}
use Rattle.sleep_core.specs.declared.turns.CoreFault.{CoreFault}
use Rattle.sleep_core.specs.declared.turns.CoreTurn.{CoreTurn}
use Rattle.sleep_core.specs.declared.turns.CoreTurn.TheVariants.{NotYet}
use Rattle.sleep_core.specs.Cores.{CoreState}
use Rattle.core_history.specs.Histories.{last_stamp}
use Rattle.sleep_core.specs.Turned.{AfterTurn}
use Rattle.wakeup_source.specs.declared.call_by.CallBy.{CallBy}
use Rattle.wakeup_source.specs.declared.fault.SourceFault.{SourceFault}
use Rattle.wakeup_source.specs.declared.fault.SourceFault.TheVariants as fault
use Rattle.wakeup_source.specs.Called.{Calls}
use Rattle.wakeup_source.specs.SourceStates.{IsSettled, unstamped_source}
use Rattle.wakeup_source.specs.Shown.{MayCall}
use Rattle.run_laws.specs.Seated.{IsFresh}
use Rattle.run_objects.specs.Objects.{SeatedSourceState, viewed_source_of}

-- a whole call that may be made on a source between calls (__pm_stay_awake, __pm_relax, pm_wakeup_ws_event, pm_wakeup_timer_fn)
pub record IsMade (by : CallBy) (call : SourceCall) (old new : SeatedSourceState) (stamp : Stamp) : Type 0 where
  pub settled : IsSettled old.source
  pub fresh : IsFresh old.source
  pub may : MayCall call (unstamped_source old.source.past) by.now
  pub calls : Calls by call (viewed_source_of old) (viewed_source_of new)
  pub leaves : IsSettled new.source
  pub stamp_is : stamp ≡ new.source.floor

-- why a call on a source with so many entries is refused: fewer than four places are left; or they are left, and there is no memory
abbrev pub IsRefusedBy : SourceFault → ℕ → Type 0
IsRefusedBy fault.Full entries = most_entries < entries + 4
IsRefusedBy fault.Mem entries = entries + 4 ≤ most_entries

-- a call that answers a stamp was made; none comes only for an expiry whose moment has not come; nothing else changes the source
abbrev pub AfterCall : CallBy → SourceCall → SeatedSourceState → SeatedSourceState → Result (Option Stamp) SourceFault → Type 0
AfterCall by call old new (Ok (Some stamp)) = IsMade by call old new stamp
AfterCall by call old new (Ok None) =
    (call ≡ calls.Expire) × (has_expired (expiry (unstamped_source old.source.past)) by.now ≡ false) × (new ≡ old)
AfterCall by call old new (Err fault) = IsRefusedBy fault (length old.source.past) × (new ≡ old)

-- a turn of an actor whose calls were all made, by a word that is looked at
pub record IsTried (old new : CoreState) (who : Actor) (calls : ℕ) (floor : Stamp) (result : Result CoreTurn CoreFault) : Type 0 where
  pub calls_are : calls ≡ calls_due old.machine who (entries old.past)
  pub word : EventNow
  pub floor_low : floor.pos ≤ position word
  pub last_low : (last_stamp old.past).pos ≤ position word
  pub after : AfterTurn old new who word floor result
  pub legal : JournalPart new.machine (entries new.past)

-- a turn by numbers that are no longer the core's is answered the core's own, of which one is not what was given, and nothing has changed
pub record IsStale (old new : CoreState) (who : Actor) (calls now : ℕ) (result : Result CoreTurn CoreFault) : Type 0 where
  pub due : ℕ
  pub time : ℕ
  pub shown : result ≡ Ok (NotYet (why.Stale due time))
  pub due_is : due ≡ calls_due old.machine who (entries old.past)
  pub time_is : time ≡ time_of (entries old.past)
  pub differs : (due ≢ calls) ⊎ (time ≢ now)
  pub same : new ≡ old

-- a turn of the machine was tried at the core's time, or the numbers given are no longer the core's
abbrev pub AfterMachineTurn : CoreState → CoreState → Actor → ℕ → Stamp → ℕ → Result CoreTurn CoreFault → Type 0
AfterMachineTurn old new who calls floor now result =
    ((now ≡ time_of (entries old.past)) × IsTried old new who calls floor result) ⊎ IsStale old new who calls now result
