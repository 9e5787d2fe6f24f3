-- The invariant of the loop of `left_among`.
use Rattle.std.proofs.Common.{◌≡◌, ◌≤◌, ◌+◌, length, drop}
use Rattle.sleep_model.specs.Freezer.{left_from}
use Rattle.check_past.specs.Asked.{left_is}
use Rattle.check_past.proofs.tasks.left_among.Given as goal

abbrev pub invariant-loop-i : goal.invariant-loop-i
invariant-loop-i l = record {
  left : l.left ≡ left_is (left_from l.group l.i (drop l.i l.scripts) (drop l.i l.freezings) (drop l.i l.positions));
  few : l.left.count + l.i ≤ length l.scripts;
}
