-- The invariant of the loop of `carry_lines`, and the number that falls each time.
use Rattle.std.proofs.Common.{◌≡◌, ◌≤◌, ◌+◌, ◌*◌, ◌^◌, true, length}
use Rattle.std.specs.List.{list_all}
use Rattle.wake_locks.specs.Locks.{ExpiriesAreDue}
use Rattle.lock_commands.specs.Lines.{lines}
use Rattle.lock_commands.specs.Steps.{carried_all}
use Rattle.lock_commands.specs.Verbs.{is_line}
use Rattle.lock_commands.proofs.state.LineRunner.carry_lines.Given as goal

abbrev pub invariant-loop-left : goal.invariant-loop-left
invariant-loop-left g l = record {
  same : carried_all (lines l.bytes) l.initial.self ≡ carried_all (lines l.left) l.self;
  good : list_all is_line (lines l.left) ≡ true;
  small : l.self.now + 86400000 * length l.left ≤ 2 ^ 62;
  timely : ExpiriesAreDue l.self.now l.self.locks;
}

abbrev pub decreases-loop-left : goal.decreases-loop-left
decreases-loop-left g l = length l.left
