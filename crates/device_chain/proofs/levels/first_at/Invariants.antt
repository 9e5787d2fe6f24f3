-- The invariant of the loop of `first_at`.
use Rattle.std.proofs.Common.{◌≡◌, drop, None}
use Rattle.device_chain.specs.Chains.{first_at}
use Rattle.device_chain.proofs.levels.first_at.Given as goal

-- what is left gives the first of all
abbrev pub invariant-loop-device : goal.invariant-loop-device
invariant-loop-device l = first_at l.levels l.level l.found (drop l.device-index l.devices) ≡ first_at l.levels l.level None l.devices
