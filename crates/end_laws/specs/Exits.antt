-- Who has nothing more to do, for what the others wait, and whom the end of a log names.
use Rattle.std.specs.Prelude.{◌≡◌, ◌<◌, ◌↔◌, ℕ, true, false, List, length}
use Rattle.std.specs.List.{list_any}
use Rattle.sleep_model.specs.declared.entry.Actor.{Actor}
use Rattle.sleep_model.specs.declared.entry.Actor.TheVariants as actor
use Rattle.sleep_model.specs.declared.entry.Entry.{Entry}
use Rattle.sleep_model.specs.declared.log.Waiting.{Waiting}
use Rattle.sleep_model.specs.declared.log.Why.TheVariants as why
use Rattle.sleep_model.specs.declared.machine.Machine.{Machine}
use Rattle.sleep_model.specs.declared.progress.Due.TheVariants.{Waits, Nothing}
use Rattle.sleep_model.specs.declared.word.EventNow.{EventNow}
use Rattle.sleep_model.specs.Due.{due}
use Rattle.sleep_model.specs.Legal.{IsLegal, IsStuckAfter, JournalPart, waiting}
use Rattle.sleep_model.specs.Numbers.{numbers}
use Rattle.sleep_model.specs.EntryClasses.{journal}
use Rattle.sleep_model.specs.Path.{is_same}
use Rattle.sleep_model.specs.Positions.{position_at, positions}

-- an actor that has turns at the core: a script, the autosleep work, or a device
abbrev pub HasTurns : Machine → Actor → Type 0
HasTurns m (actor.Script i) = i < length m.actors
HasTurns m actor.Auto = Unit {0}
HasTurns m (actor.Dev d) = d < length m.devices
HasTurns m (actor.Timer s) = ⊥
HasTurns m actor.Time = ⊥

-- a script that has exited (do_exit)
abbrev pub HasExited : Machine → List Entry → Actor → Type 0
HasExited m past (actor.Script i) = (position_at (positions (length m.actors) past) i).exited ≡ true
HasExited m past _ = ⊥

-- nothing is due any more of just those that have exited (do_exit)
abbrev pub DoneHaveExited : Type 0
DoneHaveExited =
    (m : Machine) (past : List Entry) → JournalPart m past → (who : Actor) → HasTurns m who → (now : EventNow)
    → (due m past who now ≡ Nothing) ↔ HasExited m past who

-- nobody waits because numbers that somebody keeps are no longer the core's (own)
abbrev pub NoneWaitStale : Type 0
NoneWaitStale =
    (m : Machine) (past : List Entry) → JournalPart m past → (who : Actor) → HasTurns m who → (now : EventNow)
    → (calls time : ℕ) → due m past who now ≡ Waits (why.Stale calls time) → ⊥

-- somebody is among those that wait
abbrev pub names : Actor → List Waiting → Type 0
names who those = list_any (λ w. is_same w.actor who) those ≡ true

-- a log that goes no further names each script that has not exited (own)
abbrev pub StuckNamesAll : Type 0
StuckNamesAll =
    (m : Machine) (past : List Entry) → IsLegal m past → IsStuckAfter m past → (i : ℕ) → i < length m.actors
    → (position_at (positions (length m.actors) (journal past)) i).exited ≡ false
    → names (actor.Script i) (waiting m (journal past) (numbers past))
