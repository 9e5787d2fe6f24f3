-- Proof that the loop of `names_of_texts` keeps its invariant, and that it meets what `name_of_text` requires.
use Rattle.std.proofs.Common.{arith}
use Rattle.std.proofs.lemmas.Grind.{common_steps}
use Rattle.file_rules.specs.Fitting.{IsShort}
use Rattle.file_rules.proofs.Each.{text_each}
use Rattle.machine_file.proofs.reading.texts.names_of_texts.Goals as goal

pub name_of_text-requires : goal.name_of_text-requires
name_of_text-requires c = text_each IsShort c.args.all.now c.loop-text.text-index _ c.loop-text-test.true c.requires

pub loop-text-preserved : goal.loop-text-preserved
loop-text-preserved c = grind (arith, common_steps)
