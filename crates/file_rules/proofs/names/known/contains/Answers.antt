-- Proof that `contains` meets its contract.
use Rattle.std.proofs.Common.{◌∙◌, ap, bytes_eq, is_some}
use Rattle.file_rules.specs.Knows.{texts}
use Rattle.file_rules.proofs.Placing.{some_position}
use Rattle.file_rules.proofs.names.known.contains.Goals as goal

pub returns : goal.returns
returns c = c.is_some.ensures ∙ ap is_some c.index_of_name.ensures.place ∙ some_position (bytes_eq c.args.name.now) (texts c.args.names.now)
