-- The invariant of the loop of `Run::waiting`.
use Rattle.std.proofs.Common.{◌≡◌, ◌++◌, length, drop}
use Rattle.sleep_model.specs.Legal.{waiting, waiting_from}
use Rattle.sleep_model.specs.Positions.{positions}
use Rattle.sleep_state.specs.JournalRooms.{entries}
use Rattle.machine_rounds.proofs.run.Run.waiting.Given as goal

abbrev pub invariant-loop-script : goal.invariant-loop-script
invariant-loop-script l =
    l.those.items ++ waiting_from l.self.machine (entries l.self.journal) l.word l.script (drop l.script (positions (length l.self.machine.actors) (entries l.self.journal))) ≡ waiting l.self.machine (entries l.self.journal) l.word
