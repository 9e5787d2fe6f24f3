-- The invariant of the loop of `greatest`.
use Rattle.std.proofs.Common.{◌≡◌, drop}
use Rattle.device_chain.specs.Chains.{greatest}
use Rattle.device_chain.proofs.levels.greatest.Given as goal

-- what is left gives the greatest of all
abbrev pub invariant-loop-device : goal.invariant-loop-device
invariant-loop-device l = greatest l.levels l.most (drop l.device-index l.devices) ≡ greatest l.levels 0 l.devices
