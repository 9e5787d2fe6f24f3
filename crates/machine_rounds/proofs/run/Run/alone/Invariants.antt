-- The invariant of the loop of `Run::alone`.
use Rattle.std.proofs.Common.{◌≡◌, ◌≤◌, ◌+◌}
use Rattle.machine_rounds.specs.Runs.{entries_made}
use Rattle.machine_rounds.proofs.run.Run.alone.Given as goal

abbrev pub invariant-loop-stretch : goal.invariant-loop-stretch
invariant-loop-stretch g l = record { machine : l.self.machine ≡ l.fn.self.machine; more : entries_made l.fn.self + l._stretch ≤ entries_made l.self }
