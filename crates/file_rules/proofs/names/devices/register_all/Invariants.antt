-- The invariant of the loop of `register_all`.
use Rattle.std.proofs.Common.{map}
use Rattle.borrowed_json.specs.View.{view}
use Rattle.file_rules.proofs.Registering.{Registering}
use Rattle.file_rules.proofs.names.devices.register_all.Given as goal

abbrev pub invariant-loop-number : goal.invariant-loop-number
invariant-loop-number l = Registering (map view l.list) l.number l.devices
