-- The invariant of the loop of `counts_of`, and the measure by which it ends.
use Rattle.std.proofs.Common.{◌≡◌, ◌+◌, ◌≤◌, length}
use Rattle.sleep_model.specs.Interleaved.{unread}
use Rattle.run_commands.specs.Counting.{attempts_in, entered_in}
use Rattle.run_commands.proofs.counts.counts_of.Given as goal

-- what was counted, and what is left to count
abbrev pub invariant-loop-entry : goal.invariant-loop-entry
invariant-loop-entry l = record {
  attempts : l.attempts + attempts_in (unread l.reader) ≡ attempts_in l.log.entries;
  entered : l.entered + entered_in (unread l.reader) ≡ entered_in l.log.entries;
  few_attempts : l.attempts + length (unread l.reader) ≤ l.entries;
  few_entered : l.entered + length (unread l.reader) ≤ l.entries;
}

abbrev pub decreases-loop-entry : goal.decreases-loop-entry
decreases-loop-entry l = length (unread l.reader)
