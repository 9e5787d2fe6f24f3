-- The invariant of the loop of `Run::to_end`.
use Rattle.std.proofs.Common.{◌≡◌, ◌≤◌}
use Rattle.machine_rounds.specs.Runs.{entries_made}
use Rattle.machine_rounds.proofs.run.Run.to_end.Given as goal

abbrev pub invariant-loop-pass : goal.invariant-loop-pass
invariant-loop-pass g l = record { machine : l.run.machine ≡ l.fn.self.machine; more : l._pass ≤ entries_made l.run }
