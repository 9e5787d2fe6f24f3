-- The invariant of the loop of `those_in`.
use Rattle.std.proofs.Common.{◌≡◌, filter, map, take}
use Rattle.sleep_model.specs.Merge.{of_source}
use Rattle.log_merge.specs.Remainders.{seen}
use Rattle.apart_log.specs.Slices.{is_in}
use Rattle.apart_log.proofs.slice.those_in.Given as goal

abbrev pub invariant-loop-entry : goal.invariant-loop-entry
invariant-loop-entry l = seen l.those.items ≡ filter (is_in l.range) (map of_source (take l.entry-index l.entries))
