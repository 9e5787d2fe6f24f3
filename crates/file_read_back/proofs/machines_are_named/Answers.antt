-- Proof by hand of `machines_are_named`: what it returns, by the lemmas of `Naming`.
use Rattle.file_read_back.proofs.Naming.{machines_named}
use Rattle.file_read_back.proofs.machines_are_named.Goals as goal

pub returns : goal.returns
returns c = machines_named
