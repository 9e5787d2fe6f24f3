-- Proof by hand of `is_free`: what it returns, by the lemmas of `Sourcing`.
use Rattle.sleep_model.specs.Sources.{history}
use Rattle.check_past.specs.Passing.{past_of}
use Rattle.check_rules.proofs.Sourcing.{free_is}
use Rattle.check_rules.proofs.source.is_free.Goals as goal

pub returns : goal.returns
returns c = free_is (history c.args.s (past_of c.args.past.now)) c.source.result c.is_left.result c.source.ensures c.is_left.ensures
