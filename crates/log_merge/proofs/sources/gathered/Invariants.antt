-- The invariant of the loop of `gathered`.
use Rattle.std.proofs.Common.{◌≡◌, take}
use Rattle.log_merge.specs.Remainders.{seen, sources_entries}
use Rattle.log_merge.proofs.sources.gathered.Given as goal

abbrev pub invariant-loop-history : goal.invariant-loop-history
invariant-loop-history l = seen l.entries.items ≡ sources_entries (take l.history-index l.histories)
