-- Proof by hand of `next_expiry`: its loop, by the lemmas of `Counting`.
use Rattle.std.proofs.Common.{◌∙◌, ap}
use Rattle.sleep_model.specs.Sources.{history}
use Rattle.check_past.specs.Passing.{past_of}
use Rattle.check_sources.specs.declared.source.Source.{Source}
use Rattle.check_rules.proofs.Counting.{expiry_next}
use Rattle.check_rules.proofs.jump.next_expiry.Goals as goal

pub loop-s-preserved : goal.loop-s-preserved
loop-s-preserved c =
    c.sooner-next.ensures
    ∙ expiry_next (λ s. history s (past_of c.args.past.now)) c.loop-s.s c.source.result.expiry c.loop-s.next (ap (λ (x : Source). x.expiry) c.source.ensures) c.loop-s.invariant
