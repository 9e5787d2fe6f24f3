-- The invariant of the loop of `Core::least_sleep`.
use Rattle.std.proofs.Common.{◌≡◌}
use Rattle.sleep_model.specs.Legal.{next_sleep}
use Rattle.sleep_state.specs.JournalRooms.{entries}
use Rattle.sleep_core.proofs.state.Core.least_sleep.Given as goal

abbrev pub invariant-loop-script : goal.invariant-loop-script
invariant-loop-script l = l.next ≡ next_sleep l.self.machine (entries l.self.past) l.script
