-- The invariant of the loop of `have_room`.
use Rattle.std.proofs.Common.{◌≡◌, ◌∷◌}
use Rattle.check_past.specs.Passing.{past_of}
use Rattle.check_rules.specs.Places.{are_short}
use Rattle.check_rules.proofs.source.have_room.Given as goal

abbrev pub invariant-loop-s : goal.invariant-loop-s
invariant-loop-s l = l.short ≡ are_short (l.fn.e ∷ past_of l.past) l.s
