-- Proof that `tied_in_turn` meets its contract, and what `acyclic_in` requires.
use Rattle.std.proofs.Common.{◌∙◌, ap, sym}
use Rattle.borrowed_json.specs.View.{view}
use Rattle.file_rules.specs.Broken.{place_of}
use Rattle.machine_file.proofs.KeptLinks.{again_breaks, ends_none}
use Rattle.machine_file.proofs.reading.links.tied_in_turn.Goals as goal

pub acyclic_in-requires-clause-ends : goal.acyclic_in-requires-clause-ends
acyclic_in-requires-clause-ends c = ends_none (view c.args.tree.now) c.requires.loose (sym c.in_ok-again.ensures ∙ ap place_of c.in-None.is)

pub returns-in-Some-clause-err : goal.returns-in-Some-clause-err
returns-in-Some-clause-err c = again_breaks (view c.args.tree.now) _ (sym c.in_ok-again.ensures ∙ ap place_of c.in-Some.is)
