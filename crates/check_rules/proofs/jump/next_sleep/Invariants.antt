-- The invariant of the loop of `next_sleep`.
use Rattle.std.proofs.Common.{◌≡◌}
use Rattle.sleep_model.specs.Legal.{next_sleep}
use Rattle.check_past.specs.Passing.{journal_of}
use Rattle.check_rules.proofs.jump.next_sleep.Given as goal

abbrev pub invariant-loop-i : goal.invariant-loop-i
invariant-loop-i l = l.next ≡ next_sleep l.past.machine (journal_of l.past) l.i
