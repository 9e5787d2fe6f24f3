-- Proof that `first_repeated` meets its contract.
use Rattle.std.proofs.Common.{◌∙◌, [], bytes_eq}
use Rattle.file_rules.proofs.Placing.{repeated_map}
use Rattle.file_rules.proofs.names.first_repeated.Goals as goal

pub returns : goal.returns
returns c = c.first_repeated.ensures ∙ repeated_map bytes_eq (λ s. s.now) [] 0 c.args.names.now
