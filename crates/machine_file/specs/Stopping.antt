-- Why the reading of a file stops.
use Rattle.std.specs.Prelude.{◌≡◌, Bool, false}
use Rattle.machine_file.specs.declared.fault.Stop.{Stop}
use Rattle.machine_file.specs.declared.fault.Stop.TheVariants as stop

-- what is read does not pass the test, or memory ran out
abbrev pub StopsUnless : Bool → Stop → Type 0
StopsUnless test stop.Broken = test ≡ false
StopsUnless test stop.Mem = Unit {0}
