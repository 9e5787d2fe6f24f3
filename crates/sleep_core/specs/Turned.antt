-- What a turn of the core does.
use Rattle.std.specs.Prelude.{◌≡◌, false, Result, Ok, Err}
use Rattle.sleep_model.specs.declared.entry.Actor.{Actor}
use Rattle.sleep_model.specs.declared.progress.Due.TheVariants.{Makes, Waits, Nothing}
use Rattle.sleep_model.specs.declared.word.EventNow.{EventNow}
use Rattle.sleep_model.specs.declared.word.Stamp.{Stamp}
use Rattle.sleep_model.specs.Devices.{is_device}
use Rattle.sleep_model.specs.Due.{due}
use Rattle.sleep_model.specs.Path.{attempts, is_actor, maker}
use Rattle.sleep_state.specs.JournalRooms.{entries}
use Rattle.sleep_core.specs.declared.turns.CoreFault.{CoreFault}
use Rattle.sleep_core.specs.declared.turns.CoreTurn.{CoreTurn}
use Rattle.sleep_core.specs.declared.turns.CoreTurn.TheVariants.{Did, NotYet, Done}
use Rattle.sleep_core.specs.Cores.{CoreState, next_stamp, made_entry, core_after}

-- a turn of an actor that saw this word makes what is due, or says why not; out of memory comes for no maker of an open attempt, and for no
-- device
abbrev pub AfterTurn : CoreState → CoreState → Actor → EventNow → Stamp → Result CoreTurn CoreFault → Type 0
AfterTurn old new who word floor (Ok (Did stamp kind attempt)) =
    (due old.machine (entries old.past) who word ≡ Makes kind)
    × (new ≡ core_after old (made_entry old.past who word floor kind))
    × (stamp ≡ next_stamp old.past floor word)
    × (attempt ≡ attempts (entries new.past))
AfterTurn old new who word floor (Ok (NotYet why)) = (due old.machine (entries old.past) who word ≡ Waits why) × (new ≡ old)
AfterTurn old new who word floor (Ok Done) = (due old.machine (entries old.past) who word ≡ Nothing) × (new ≡ old)
AfterTurn old new who word floor (Err fault) =
    (is_actor who (maker (entries old.past)) ≡ false) × (is_device who ≡ false) × (new ≡ old)
