-- Proof that `index_of_name` meets its contract.
use Rattle.std.proofs.Common.{◌∙◌, List, ℕ, Bor, bytes_eq}
use Rattle.file_rules.proofs.Placing.{position_map}
use Rattle.file_rules.proofs.names.known.index_of_name.Goals as goal

pub returns-clause-place : goal.returns-clause-place
returns-clause-place c = c.place.ensures.place ∙ position_map (bytes_eq c.args.name.now) (λ (s : Bor (List ℕ)). s.now) c.args.names.now
