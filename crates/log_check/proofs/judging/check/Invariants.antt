-- The invariant of the loop of `check`, and the number that falls each time.
use Rattle.std.proofs.Common.{◌≡◌, length, drop}
use Rattle.sleep_model.specs.Interleaved.{unread}
use Rattle.rule_definitions.specs.Entry.{KeepsEach}
use Rattle.check_past.specs.Passing.{past_of}
use Rattle.log_check.proofs.judging.check.Given as goal

-- the entries that were passed keep the rules, and the others are left to be read
abbrev pub invariant-loop-e : goal.invariant-loop-e
invariant-loop-e l = record {
  machine : l.past.machine ≡ l.fn.machine;
  entries : l.past.entries ≡ l.fn.log.entries;
  kept : KeepsEach l.fn.machine (past_of l.past);
  left : unread l.reader ≡ drop l.past.passed l.fn.log.entries;
}

abbrev pub decreases-loop-e : goal.decreases-loop-e
decreases-loop-e l = length (unread l.reader)
