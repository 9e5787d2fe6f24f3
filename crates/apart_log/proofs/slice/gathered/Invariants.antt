-- The invariant of the loop of `gathered`.
use Rattle.std.proofs.Common.{◌≡◌, ◌++◌, filter, take}
use Rattle.log_merge.specs.Remainders.{seen, sources_entries}
use Rattle.apart_log.specs.Slices.{is_in}
use Rattle.apart_log.proofs.slice.gathered.Given as goal

abbrev pub invariant-loop-history : goal.invariant-loop-history
invariant-loop-history l = seen l.entries.items ≡ seen l.fn.entries.items ++ filter (is_in l.range) (sources_entries (take l.history-index l.histories))
