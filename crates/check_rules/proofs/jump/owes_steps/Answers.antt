-- Proof by hand of `owes_steps`: what it returns, by the lemmas of `Sourcing`.
use Rattle.sleep_model.specs.Sources.{history}
use Rattle.check_past.specs.Passing.{past_of}
use Rattle.check_rules.proofs.Sourcing.{left_of_source}
use Rattle.check_rules.proofs.jump.owes_steps.Goals as goal

pub returns : goal.returns
returns c = left_of_source (history c.args.s (past_of c.args.past.now)) c.source.result c.is_left.result c.source.ensures c.is_left.ensures
