-- Proof by hand of `is_next`: what it returns, by the lemmas of `Sourcing`.
use Rattle.sleep_model.specs.Sources.{history}
use Rattle.check_past.specs.Passing.{past_of}
use Rattle.check_rules.proofs.Sourcing.{next_is}
use Rattle.check_rules.proofs.source.is_next.Goals as goal

pub returns : goal.returns
returns c = next_is (history c.args.s (past_of c.args.past.now)) c.source.result c.args.step c.is_next.result c.source.ensures c.is_next.ensures
