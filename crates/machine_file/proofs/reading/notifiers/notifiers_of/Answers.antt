-- Proof that the loop of `notifiers_of` keeps its invariant, and that it meets what `notifier_of` requires.
use Rattle.std.proofs.Common.{arith}
use Rattle.std.proofs.lemmas.Grind.{common_steps}
use Rattle.file_rules.specs.Fitting.{FitsNotifier}
use Rattle.file_rules.proofs.Each.{value_each}
use Rattle.machine_file.proofs.reading.notifiers.notifiers_of.Goals as goal

pub notifier_of-requires : goal.notifier_of-requires
notifier_of-requires c = value_each FitsNotifier c.args.notifiers.now c.loop-notifier.notifier-index c.notifier-item.result (omega arith) c.notifier-item.is c.requires

pub loop-notifier-preserved : goal.loop-notifier-preserved
loop-notifier-preserved c = grind (arith, common_steps)
