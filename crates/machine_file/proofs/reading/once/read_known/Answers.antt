-- What `read_linked` requires in `read_known`.
use Rattle.borrowed_json.specs.View.{view}
use Rattle.machine_file.proofs.KeptLinks.{form_kept, loose_kept}
use Rattle.machine_file.proofs.reading.once.read_known.Goals as goal

pub read_linked-requires-clause-form : goal.read_linked-requires-clause-form
read_linked-requires-clause-form c = form_kept (view c.args.tree.now) c.requires.head c.in-Ok.ensures.valid

pub read_linked-requires-clause-loose : goal.read_linked-requires-clause-loose
read_linked-requires-clause-loose c = loose_kept (view c.args.tree.now) c.in-Ok.ensures.valid
