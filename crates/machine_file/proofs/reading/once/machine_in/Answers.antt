-- Proof that `machine_in` meets its contract.
use Rattle.std.proofs.Common.{◌∙◌, ap, sym}
use Rattle.std.specs.Option.{option_map}
use Rattle.borrowed_json.specs.View.{view}
use Rattle.file_rules.specs.Broken.{broken_view}
use Rattle.machine_file.proofs.KeptLinks.{head_breaks}
use Rattle.machine_file.proofs.reading.once.machine_in.Goals as goal

pub returns-in-Some-clause-err : goal.returns-in-Some-clause-err
returns-in-Some-clause-err c = head_breaks (view c.args.tree.now) _ (sym c.first_of_head.ensures ∙ ap (option_map broken_view) c.in-Some.is)
