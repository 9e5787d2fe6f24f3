-- The invariant of the loop of `extend`.
use Rattle.std.proofs.Common.{◌≡◌, ◌++◌, map, take}
use Rattle.script_plan.specs.CallPlans.{noted}
use Rattle.check_sources.proofs.calls.Calls.extend.Given as goal

abbrev pub invariant-loop-report : goal.invariant-loop-report
invariant-loop-report l = l.self-inside.notes.items ≡ l.fn.self ++ map noted (take l.report-index l.reports)
