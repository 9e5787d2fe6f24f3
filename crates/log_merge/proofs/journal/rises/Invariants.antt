-- The invariant of the loop of `rises`.
use Rattle.std.proofs.Common.{◌≡◌, ◌-◌, drop}
use Rattle.sleep_model.specs.Merge.{rises}
use Rattle.log_merge.proofs.journal.rises.Given as goal

abbrev pub invariant-loop-i : goal.invariant-loop-i
invariant-loop-i l = rises l.journal ≡ rises (drop (l.i - 1) l.journal)
