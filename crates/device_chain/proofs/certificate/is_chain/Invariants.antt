-- The invariant of the loop of `is_chain`.
use Rattle.std.proofs.Common.{◌≡◌, drop}
use Rattle.device_chain.specs.Chains.{follow, is_chain}
use Rattle.device_chain.proofs.certificate.is_chain.Given as goal

-- the devices are a chain if those that are left follow
abbrev pub invariant-loop-device : goal.invariant-loop-device
invariant-loop-device l = follow l.links l.before (drop l.device-index l.devices) ≡ is_chain l.links l.devices
