-- Proof by hand of `answer_lines`: the call of `carry_lines`, by the lemmas of `Forms`.
use Rattle.std.proofs.Common.{◌∙◌, sym}
use Rattle.lock_commands.specs.Lines.{lines}
use Rattle.lock_commands.proofs.Forms.{all_good}
use Rattle.lock_commands.proofs.answer.answer_lines.Goals as goal

pub carry_lines-requires-clause-good : goal.carry_lines-requires-clause-good
carry_lines-requires-clause-good g c = all_good 1 (lines c.args.bytes.now) (sym c.first_bad.ensures ∙ c.in_default.is)
