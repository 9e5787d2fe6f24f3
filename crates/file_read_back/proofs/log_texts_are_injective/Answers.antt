-- Proof by hand of `log_texts_are_injective`: what it returns, by the lemmas of `Naming`.
use Rattle.file_read_back.proofs.Naming.{texts_injective}
use Rattle.file_read_back.proofs.log_texts_are_injective.Goals as goal

pub returns : goal.returns
returns c = texts_injective
