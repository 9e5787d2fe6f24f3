-- What holds of the fields of callers.
use Rattle.std.specs.Prelude.{◌<◌, ◌^◌, length}
use Rattle.sleep_model.specs.declared.machine.Machine.{Machine}

-- the machine has few scripts and devices (own)
pub record IsSmall (m : Machine) : Type 0 where
  pub scripts : length m.actors < 2 ^ 32
  pub devices : length m.devices < 2 ^ 32
