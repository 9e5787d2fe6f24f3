-- The invariant of the loop of `only_history`.
use Rattle.std.proofs.Common.{◌≡◌, true, map, take}
use Rattle.sleep_model.specs.Merge.{of_source, rises}
use Rattle.log_merge.specs.Remainders.{sources_entries}
use Rattle.apart_log.proofs.merged.only_history.Given as goal

abbrev pub invariant-loop-history : goal.invariant-loop-history
invariant-loop-history l =
    (map of_source l.only ≡ sources_entries (take l.history-index l.histories))
    × (rises (map of_source l.only) ≡ true)
