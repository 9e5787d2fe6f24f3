-- The invariant of the loop of `Run::enabled_device`.
use Rattle.std.proofs.Common.{◌≡◌, true}
use Rattle.sleep_model.specs.declared.entry.Actor.TheVariants.{Dev}
use Rattle.sleep_model.specs.Legal.{none_enabled}
use Rattle.sleep_state.specs.JournalRooms.{entries}
use Rattle.running_laws.specs.Running.{histories}
use Rattle.machine_rounds.proofs.run.Run.enabled_device.Given as goal

abbrev pub invariant-loop-device : goal.invariant-loop-device
invariant-loop-device l = none_enabled l.self.machine (entries l.self.journal) (histories l.self.sources) l.word Dev l.device ≡ true
