-- Proof by hand of `machines_read_back`: what it returns, by the lemmas of `ReadBack`.
use Rattle.file_read_back.proofs.ReadBack.{all_read_back}
use Rattle.file_read_back.proofs.machines_read_back.Goals as goal

pub returns : goal.returns
returns c = all_read_back
