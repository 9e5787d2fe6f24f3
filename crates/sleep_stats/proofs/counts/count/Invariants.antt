-- The invariant of the loop of `count`, and the measure by which it ends.
use Rattle.std.proofs.Common.{◌≡◌, ◌≤◌, ◌-◌, length}
use Rattle.sleep_model.specs.Interleaved.{unread}
use Rattle.sleep_stats.specs.Counting.{AreAtMost, counted, counts_of}
use Rattle.sleep_stats.proofs.counts.count.Given as goal

-- what was counted, with what is left to count; each count is at most the number of entries that were read
abbrev pub invariant-loop-entry : goal.invariant-loop-entry
invariant-loop-entry l = record {
  counted : counted l.counts (unread l.reader) ≡ counts_of l.log.entries;
  left : length (unread l.reader) ≤ length l.log.entries;
  few : AreAtMost (length l.log.entries - length (unread l.reader)) l.counts;
}

abbrev pub decreases-loop-entry : goal.decreases-loop-entry
decreases-loop-entry l = length (unread l.reader)
