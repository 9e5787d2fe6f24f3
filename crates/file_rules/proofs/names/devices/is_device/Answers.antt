-- Proof that `is_device` meets its contract.
use Rattle.std.proofs.Common.{◌∙◌, ap, bytes_eq, is_some}
use Rattle.file_rules.specs.Knows.{names}
use Rattle.file_rules.proofs.Placing.{some_position}
use Rattle.file_rules.proofs.names.devices.is_device.Goals as goal

pub returns : goal.returns
returns c = c.is_some.ensures ∙ ap is_some c.find.ensures ∙ some_position (bytes_eq c.args.name.now) (names c.args.devices.now)
