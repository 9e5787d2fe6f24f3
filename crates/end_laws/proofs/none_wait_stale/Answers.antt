-- Proof by hand of `none_wait_stale`: what it returns, by the lemmas of `Exits`.
use Rattle.end_laws.proofs.Exits.{none_stale}
use Rattle.end_laws.proofs.none_wait_stale.Goals as goal

pub returns : goal.returns
returns c = none_stale
