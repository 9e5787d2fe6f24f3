-- The invariant of the loop of `first_indices`.
use Rattle.std.proofs.Common.{◌≡◌}
use Rattle.indexmap.specs.IndexMap.{get}
use Rattle.key_index.proofs.Placing.{placed}
use Rattle.key_index.proofs.index.first_indices.Given as goal

-- the keys that are left after are found
abbrev pub invariant-loop-i : goal.invariant-loop-i
invariant-loop-i g l = (k : g.row.K.Denot) → get g.K.PartialEq.eq l.indices k ≡ placed g.K.PartialEq.eq g.met.K.Eq.laws l.keys l.i k
