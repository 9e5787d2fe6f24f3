-- The invariant of the loop of `Run::ask_all_timers`.
use Rattle.std.proofs.Common.{◌≡◌, Ok}
use Rattle.machine_rounds.specs.Runs.{AfterTry}
use Rattle.machine_rounds.proofs.run.Run.ask_all_timers.Given as goal

abbrev pub invariant-loop-source : goal.invariant-loop-source
invariant-loop-source g l = record { machine : l.self.machine ≡ l.fn.self.machine; after : AfterTry l.fn.self l.self (Ok l.made) }
