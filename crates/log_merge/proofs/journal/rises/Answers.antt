-- Proof by hand of `rises`: its loop and what it returns, by the lemmas of `Rising`.
use Rattle.std.proofs.Common.{sym, ◌∙◌}
use Rattle.log_merge.proofs.Rising.{rises_on, rises_over}
use Rattle.log_merge.proofs.journal.rises.Goals as goal

pub loop-i-preserved : goal.loop-i-preserved
loop-i-preserved c =
    rises_on c.loop-i.i c.args.journal.now _ c.loop-i.auto.i c.loop-i-test.true (sym c.rises_on_entry.ensures ∙ c.if-not-rises_on_entry.false)
    c.loop-i.invariant

pub returns : goal.returns
returns c = sym (rises_over c.loop-i.i c.args.journal.now c.loop-i.auto.i c.loop-i-test.false c.loop-i.invariant)
