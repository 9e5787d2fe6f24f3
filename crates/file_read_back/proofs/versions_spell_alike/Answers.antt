-- Proof by hand of `versions_spell_alike`: what it returns, by the lemmas of `Versions`.
use Rattle.file_read_back.proofs.Versions.{versions_alike}
use Rattle.file_read_back.proofs.versions_spell_alike.Goals as goal

pub returns : goal.returns
returns c = versions_alike
