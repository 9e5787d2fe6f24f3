-- The invariant of the loop of `Run::expired_source`.
use Rattle.std.proofs.Common.{◌≡◌, true}
use Rattle.sleep_model.specs.Legal.{none_expires}
use Rattle.sleep_model.specs.Numbers.{time_of}
use Rattle.sleep_state.specs.JournalRooms.{entries}
use Rattle.running_laws.specs.Running.{histories}
use Rattle.machine_rounds.proofs.run.Run.expired_source.Given as goal

abbrev pub invariant-loop-source : goal.invariant-loop-source
invariant-loop-source l = none_expires l.source (histories l.self.sources) (time_of (entries l.self.journal)) ≡ true
