-- The invariant of the loop of `left_among`.
use Rattle.std.proofs.Common.{◌≡◌, ◌≤◌, ◌+◌, length, drop}
use Rattle.task_freezer.specs.Freezers.{first_from, first_of, left_by}
use Rattle.task_freezer.proofs.left.left_among.Given as goal

abbrev pub invariant-loop-i : goal.invariant-loop-i
invariant-loop-i l = record {
  few : l.left.count ≤ l.i;
  count : l.left.count + length (left_by l.group l.i (drop l.i l.scripts) (drop l.i l.freezings) (drop l.i l.exited_flags)) ≡ length (left_by l.group 0 l.scripts l.freezings l.exited_flags);
  first : first_from l.left.first (left_by l.group l.i (drop l.i l.scripts) (drop l.i l.freezings) (drop l.i l.exited_flags)) ≡ first_of (left_by l.group 0 l.scripts l.freezings l.exited_flags);
}
