-- Proof that `acyclic_in` meets its contract, and what `linking_with` requires.
use Rattle.std.proofs.Common.{◌∙◌, sym}
use Rattle.borrowed_json.specs.View.{view}
use Rattle.file_rules.proofs.Grouping.{joined_groups}
use Rattle.machine_file.proofs.KeptLinks.{cycle_breaks, cycle_none}
use Rattle.machine_file.proofs.reading.links.acyclic_in.Goals as goal

pub linking_with-requires-clause-joined : goal.linking_with-requires-clause-joined
linking_with-requires-clause-joined c = joined_groups (view c.args.tree.now) c.requires.form c.requires.devices c.requires.ends

pub returns-in-None-clause-added : goal.returns-in-None-clause-added
returns-in-None-clause-added c = c.in_ok-linking.ensures.added c.in-None.is

pub returns-in-None-clause-cycle : goal.returns-in-None-clause-cycle
returns-in-None-clause-cycle c = cycle_none (view c.args.tree.now) (sym c.in_ok-linking.ensures.cycle ∙ c.in-None.is)

pub returns-in-Some-clause-err : goal.returns-in-Some-clause-err
returns-in-Some-clause-err c = cycle_breaks (view c.args.tree.now) _ (sym c.in_ok-linking.ensures.cycle ∙ c.in-Some.is)
