-- Proof by hand of `is_inside`: what it returns, by the lemmas of `Sourcing`.
use Rattle.std.proofs.Common.{◌∙◌}
use Rattle.sleep_model.specs.Sources.{history}
use Rattle.check_past.specs.Passing.{past_of}
use Rattle.check_rules.proofs.Sourcing.{inside_is}
use Rattle.check_rules.proofs.calls.is_inside.Goals as goal

pub returns : goal.returns
returns c = c.owes_to.ensures ∙ inside_is (history c.args.s (past_of c.args.past.now)) c.source.result c.args.who c.source.ensures
