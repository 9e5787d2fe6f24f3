-- Proof that `read_headed` meets its contract, and what `known_of_file` requires.
use Rattle.std.proofs.Common.{◌≡◌, IfErr, Some, subst}
use Rattle.borrowed_json.specs.View.{view}
use Rattle.file_rules.specs.Broken.{broken_view}
use Rattle.file_rules.specs.ValidFiles.{broken_devices}
use Rattle.machine_file.proofs.KeptLinks.{devices_break, head_devices}
use Rattle.machine_file.proofs.reading.once.read_headed.Goals as goal

pub known_of_file-requires : goal.known_of_file-requires
known_of_file-requires c = head_devices (view c.args.tree.now) c.requires

pub returns-in-Err-clause-err : goal.returns-in-Err-clause-err
returns-in-Err-clause-err c =
    let file = view c.args.tree.now in devices_break file _ (subst (λ r. IfErr r (λ b. broken_devices file ≡ Some (broken_view b))) c.in-Err.is c.in_ok-known.ensures.broken)
