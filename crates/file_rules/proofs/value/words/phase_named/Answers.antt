-- Proof that `phase_named` meets its contract.
use Rattle.std.proofs.Common.{sym}
use Rattle.phase_table.specs.Phases.{phase_name}
use Rattle.file_rules.specs.Answering.{answering_phases}
use Rattle.file_rules.proofs.Namings.{unnamed}
use Rattle.file_rules.proofs.value.words.phase_named.Goals as goal

pub returns-in-None : goal.returns-in-None
returns-in-None c = sym (unnamed phase_name answering_phases c.args.name.now c.in-None.ensures.none)
