-- The invariant of the loop of `run`.
use Rattle.std.proofs.Common.{◌≡◌, ◌≤◌}
use Rattle.core_history.specs.Histories.{last_stamp}
use Rattle.row_trials.proofs.alone.run.Given as goal

abbrev pub invariant-loop : goal.invariant-loop
invariant-loop g l = record { machine : l.core.machine ≡ l.fn.core.machine; low : (last_stamp l.core.past).pos ≤ g.E.Events.floor l.events }
