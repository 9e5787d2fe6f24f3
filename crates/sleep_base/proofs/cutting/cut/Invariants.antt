-- The invariant of the loop of `cut`.
use Rattle.std.proofs.Common.{◌≡◌, ◌++◌, take, drop}
use Rattle.sleep_base.specs.Cutting.{before, after_first}
use Rattle.sleep_base.proofs.cutting.cut.Given as goal

-- the first byte of that value is not among those so far
abbrev pub invariant-loop-i : goal.invariant-loop-i
invariant-loop-i l = (before l.mark l.text ≡ take l.i l.text ++ before l.mark (drop l.i l.text)) × (after_first l.mark l.text ≡ after_first l.mark (drop l.i l.text))
