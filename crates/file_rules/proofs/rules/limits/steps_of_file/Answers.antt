-- Proof that `steps_of_file` meets its contract.
use Rattle.std.proofs.Common.{◌∙◌, ap}
use Rattle.borrowed_json.specs.View.{view}
use Rattle.file_rules.specs.Counted.{steps_of_scripts}
use Rattle.file_rules.proofs.Counting.{steps_counted}
use Rattle.file_rules.proofs.rules.limits.steps_of_file.Goals as goal

pub returns : goal.returns
returns c = c.all_steps.ensures ∙ ap steps_of_scripts c.requires ∙ steps_counted (view c.args._tree.now)
