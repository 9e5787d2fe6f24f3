-- Proof by hand of `values_spell_again`: what it returns, by the lemmas of `Proved`.
use Rattle.file_read_back.proofs.Proved.{all_spell_again}
use Rattle.file_read_back.proofs.values_spell_again.Goals as goal

pub returns : goal.returns
returns c = all_spell_again
