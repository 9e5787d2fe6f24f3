-- Proof by hand of `text_if_linked`: the call of `take_links`, the call of `text_of_log` and what it returns, by the lemmas of `Linked`.
use Rattle.std.proofs.Common.{sym, subst}
use Rattle.log_commands.specs.Taking.{LinksAreOrdered}
use Rattle.log_commands.proofs.Linked.{all_stand, all_within, first_stand, memory_bad, none_bad, one_bad, good_log_text}
use Rattle.log_commands.proofs.stats.text_if_linked.Goals as goal

pub take_links-requires-clause-stands : goal.take_links-requires-clause-stands
take_links-requires-clause-stands c = subst LinksAreOrdered (sym c.requires.links) (first_stand c.args.machine.now c.requires.accepted)

pub take_links-requires-clause-within : goal.take_links-requires-clause-within
take_links-requires-clause-within c = all_within c.args.machine.now c.args.links c.requires.links c.args.log.now c.requires.fits

pub text_of_log-requires-clause-stand : goal.text_of_log-requires-clause-stand
text_of_log-requires-clause-stand c = all_stand c.args.machine.now c.args.links c.requires.links c.args.log.now c.in-Ok.ensures.stand

pub returns-in-Ok-clause-outcome : goal.returns-in-Ok-clause-outcome
returns-in-Ok-clause-outcome c =
    good_log_text c.args.machine.now c.args.log.now c.text_of_log.result
    (none_bad c.args.machine.now c.args.links c.requires.links c.args.log.now c.in-Ok.ensures.taken) c.text_of_log.ensures.outcome

pub returns-in-Ok-clause-refused : goal.returns-in-Ok-clause-refused
returns-in-Ok-clause-refused c = memory_bad c.args.machine.now c.args.log.now c.text_of_log.result c.text_of_log.ensures.memory

pub returns-in-Err-clause-refused : goal.returns-in-Err-clause-refused
returns-in-Err-clause-refused c = one_bad c.args.machine.now c.args.links c.requires.links c.args.log.now c.in-Err.ending c.in-Err.ensures.refused
