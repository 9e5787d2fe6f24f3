-- Proof by hand of `next_sleep`: its loop, by the lemmas of `Counting`.
use Rattle.std.proofs.Common.{◌∙◌}
use Rattle.check_past.specs.Passing.{journal_of}
use Rattle.check_rules.proofs.Counting.{sleep_next}
use Rattle.check_rules.proofs.jump.next_sleep.Goals as goal

pub loop-i-preserved : goal.loop-i-preserved
loop-i-preserved c =
    c.sooner-next.ensures
    ∙ sleep_next c.args.past.now.machine (journal_of c.args.past.now) c.loop-i.i c.pending_sleep.result c.loop-i.next c.pending_sleep.ensures c.loop-i.invariant
