-- The invariant of the loop of `chain_to`.
use Rattle.device_chain.proofs.Chaining.{IsClimbed}
use Rattle.device_chain.proofs.chain.chain_to.Given as goal

-- the chain begins with a device of the level that was reached
abbrev pub invariant-loop-level : goal.invariant-loop-level
invariant-loop-level l = IsClimbed l.links l.levels l.end l.level l.first l.chain
