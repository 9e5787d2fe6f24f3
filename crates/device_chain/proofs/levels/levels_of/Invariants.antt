-- The invariant of the loop of `levels_of`.
use Rattle.std.proofs.Common.{drop}
use Rattle.device_chain.proofs.Leveling.{AreLeveled}
use Rattle.device_chain.proofs.levels.levels_of.Given as goal

-- all devices but those that are left have their levels
abbrev pub invariant-loop-device : goal.invariant-loop-device
invariant-loop-device l = AreLeveled l.links l.levels.items (drop l.device-index l.order)
