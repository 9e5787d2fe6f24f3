-- The invariant of the loop of `Run::rounds`.
use Rattle.std.proofs.Common.{◌≡◌, Ok}
use Rattle.machine_rounds.specs.Runs.{AfterRounds}
use Rattle.machine_rounds.proofs.run.Run.rounds.Given as goal

abbrev pub invariant-loop : goal.invariant-loop
invariant-loop g l = record { machine : l.self.machine ≡ l.fn.self.machine; after : AfterRounds l.fn.self l.self (Ok l.made) }
