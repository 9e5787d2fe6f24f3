-- The law `callers_agree`, by the lemmas of `Calling`.
use Rattle.check_sources.proofs.Calling.{agree}
use Rattle.check_sources.proofs.law.callers_agree.Goals as goal

pub returns : goal.returns
returns c = agree
