-- The invariant of the loop of `journal_in`, and the number that falls each time.
use Rattle.std.proofs.Common.{◌≡◌, ◌++◌, filter, length, map, reverse}
use Rattle.sleep_model.specs.Merge.{of_source}
use Rattle.apart_log.specs.Slices.{is_in}
use Rattle.apart_log.proofs.slice.journal_in.Given as goal

abbrev pub invariant-loop-one : goal.invariant-loop-one
invariant-loop-one l = map of_source l.those.items ++ filter (is_in l.range) l.reader ≡ filter (is_in l.range) (reverse l.journal.past)

abbrev pub decreases-loop-one : goal.decreases-loop-one
decreases-loop-one l = length l.reader
