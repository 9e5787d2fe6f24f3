-- Proof that `last_unset` meets its contract, and that its loop keeps its invariant.
use Rattle.std.proofs.Common.{◌∙◌, ap, sym, not, arith}
use Rattle.sleep_model.specs.Walk.{is_so}
use Rattle.sleep_model.proofs.Searches.{below_passes, below_fails}
use Rattle.syscore_ops.proofs.syscore.last_unset.Goals as goal

pub returns-then-not-is_set : goal.returns-then-not-is_set
returns-then-not-is_set c =
    below_passes (λ x. not (is_so c.args.flags.now x)) c.args.n c.loop-x.x c.loop-x.invariant (omega arith) (ap not (sym c.is_set.ensures ∙ c.if-not-is_set.true))

pub loop-x-preserved : goal.loop-x-preserved
loop-x-preserved c =
    below_fails (λ x. not (is_so c.args.flags.now x)) c.args.n c.loop-x.x c.loop-x.invariant (omega arith) (ap not (sym c.is_set.ensures ∙ c.if-not-is_set.false))
