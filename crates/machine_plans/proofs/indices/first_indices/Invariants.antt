-- The invariant of the loop of `first_indices`.
use Rattle.indexmap.specs.IndexMap.{get}
use Rattle.machine_plans.specs.contracts.key.KeyPartialEq.TheImpl.{eq-value}
use Rattle.machine_plans.proofs.Indexing.{IsIndexedFrom}
use Rattle.machine_plans.proofs.indices.first_indices.Given as goal

-- the keys of the answers that are left after are found
abbrev pub invariant-loop-i : goal.invariant-loop-i
invariant-loop-i l = IsIndexedFrom l.answers l.i (get eq-value.it l.indices)
