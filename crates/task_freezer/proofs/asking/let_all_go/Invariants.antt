-- The invariant of the loop of `let_all_go`.
use Rattle.std.proofs.Common.{◌≡◌}
use Rattle.task_freezer.specs.Fronts.{front_let_go}
use Rattle.task_freezer.proofs.asking.let_all_go.Given as goal

abbrev pub invariant-loop-i : goal.invariant-loop-i
invariant-loop-i l = l.freezings.items ≡ front_let_go l.i l.those l.scripts l.fn.freezings.items
