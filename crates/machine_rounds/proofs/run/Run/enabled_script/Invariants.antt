-- The invariant of the loop of `Run::enabled_script`.
use Rattle.std.proofs.Common.{◌≡◌, true}
use Rattle.sleep_model.specs.declared.entry.Actor.TheVariants.{Script}
use Rattle.sleep_model.specs.Legal.{none_enabled}
use Rattle.sleep_state.specs.JournalRooms.{entries}
use Rattle.running_laws.specs.Running.{histories}
use Rattle.machine_rounds.proofs.run.Run.enabled_script.Given as goal

abbrev pub invariant-loop-script : goal.invariant-loop-script
invariant-loop-script l = none_enabled l.self.machine (entries l.self.journal) (histories l.self.sources) l.word Script l.script ≡ true
