-- Proof by hand of `stats_of`: what it returns, by the lemmas of `Linked`.
use Rattle.log_commands.proofs.Linked.{stats_refused, stats_text_is, stats_unread}
use Rattle.log_commands.proofs.stats.stats_of.Goals as goal

pub returns-in-Ok-clause-outcome : goal.returns-in-Ok-clause-outcome
returns-in-Ok-clause-outcome c = stats_text_is c.args.bytes.now c.in-Ok.field-0.machine c.in-Ok.field-0.log c.text_if_linked-outcome.result c.in-Ok.ensures.read c.text_if_linked-outcome.ensures.outcome

pub returns-in-Ok-clause-refused : goal.returns-in-Ok-clause-refused
returns-in-Ok-clause-refused c = stats_refused c.args.bytes.now c.in-Ok.field-0.machine c.in-Ok.field-0.log c.text_if_linked-outcome.result c.in-Ok.ensures.read c.text_if_linked-outcome.ensures.refused

pub returns-in-Err-clause-refused : goal.returns-in-Err-clause-refused
returns-in-Err-clause-refused c = stats_unread c.args.bytes.now c.in-Err.ending c.in-Err.ensures.refused
