-- Proof by hand of `text_of_log`: what it returns.
use Rattle.std.proofs.Common.{◌∙◌, ap}
use Rattle.log_commands.specs.Telling.{stats_text}
use Rattle.log_commands.proofs.stats.text_of_log.Goals as goal

pub returns-in-Ok-stats_text-clause-outcome : goal.returns-in-Ok-stats_text-clause-outcome
returns-in-Ok-stats_text-clause-outcome c = record {
  chain = c.in-Ok.chain;
  longest = c.in-Ok.ensures;
  is_text = c.in-Ok-stats_text.ensures ∙ ap (λ counts. stats_text c.args.machine.now counts c.in-Ok.chain) c.count-counts.ensures;
}
