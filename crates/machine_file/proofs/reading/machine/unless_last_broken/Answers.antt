-- What `last_broken` requires in `unless_last_broken`.
use Rattle.std.proofs.Common.{◌∙◌}
use Rattle.borrowed_json.specs.View.{view}
use Rattle.file_rules.specs.Groups.{answer_rules, operation_rules}
use Rattle.file_rules.specs.ValidFiles.{broken_behaviour}
use Rattle.file_rules.specs.Whole.{first_of}
use Rattle.file_rules.proofs.Accepted.{keeps_all}
use Rattle.file_rules.proofs.Grouping.{or_none}
use Rattle.machine_file.proofs.reading.machine.unless_last_broken.Goals as goal

pub last_broken-requires-clause-operations : goal.last_broken-requires-clause-operations
unfolding broken_behaviour
last_broken-requires-clause-operations c =
    let file = view c.args.tree.now in (keeps_all operation_rules file (or_none (first_of operation_rules file) (first_of answer_rules file) c.requires.unbroken).0).0

pub last_broken-requires-clause-scripts : goal.last_broken-requires-clause-scripts
last_broken-requires-clause-scripts c = λ few. c.deref.ensures.value ∙ c.requires.spelled.scripts few
