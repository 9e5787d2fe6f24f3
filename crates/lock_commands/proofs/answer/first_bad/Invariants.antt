-- The invariant of the loop of `first_bad`, and the number that falls each time.
use Rattle.std.proofs.Common.{◌≡◌, ◌≤◌, ◌+◌, length}
use Rattle.lock_commands.specs.Lines.{lines}
use Rattle.lock_commands.specs.TextAnswers.{first_bad}
use Rattle.lock_commands.proofs.answer.first_bad.Given as goal

abbrev pub invariant-loop-left : goal.invariant-loop-left
invariant-loop-left l = record {
  same : first_bad 1 (lines l.bytes) ≡ first_bad l.number (lines l.left);
  few : l.number + length l.left ≤ 16777217;
}

abbrev pub decreases-loop-left : goal.decreases-loop-left
decreases-loop-left l = length l.left
