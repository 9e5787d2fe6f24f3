-- The invariant of the loop of `with_history`.
use Rattle.std.proofs.Common.{◌≡◌, ◌++◌, map, take}
use Rattle.sleep_model.specs.Merge.{of_source}
use Rattle.log_merge.specs.Remainders.{seen}
use Rattle.log_merge.proofs.sources.with_history.Given as goal

abbrev pub invariant-loop-entry : goal.invariant-loop-entry
invariant-loop-entry l = seen l.entries.items ≡ seen l.fn.entries.items ++ map of_source (take l.entry-index l.history)
