-- Proof by hand of `generated_machines_read_back`: what it returns, by the lemmas of `ReadBack`.
use Rattle.file_read_back.proofs.ReadBack.{all_drawn_back}
use Rattle.file_read_back.proofs.generated_machines_read_back.Goals as goal

pub returns : goal.returns
returns c = all_drawn_back
