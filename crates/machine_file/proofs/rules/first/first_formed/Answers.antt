-- What `known_of_file` requires in `first_formed`.
use Rattle.borrowed_json.specs.View.{view}
use Rattle.machine_file.proofs.KeptLinks.{form_devices}
use Rattle.machine_file.proofs.rules.first.first_formed.Goals as goal

pub known_of_file-requires : goal.known_of_file-requires
known_of_file-requires c = form_devices (view c.args.tree.now) c.requires
