-- The invariant of the loop of `ask_all`.
use Rattle.std.proofs.Common.{◌≡◌}
use Rattle.task_freezer.specs.Fronts.{asked_front}
use Rattle.task_freezer.proofs.asking.ask_all.Given as goal

abbrev pub invariant-loop-i : goal.invariant-loop-i
invariant-loop-i l = l.freezings.items ≡ asked_front l.i l.group l.who 0 l.scripts l.fn.freezings.items
