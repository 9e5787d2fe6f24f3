-- Proof by hand of `none_expires`: its loop, by the lemmas of `Counting`.
use Rattle.std.proofs.Common.{◌∙◌, ap}
use Rattle.sleep_model.specs.Sources.{has_expired, history}
use Rattle.check_past.specs.Passing.{past_of}
use Rattle.check_sources.specs.declared.source.Source.{Source}
use Rattle.check_rules.proofs.Counting.{expires_next}
use Rattle.check_rules.proofs.jump.none_expires.Goals as goal

pub loop-s-preserved : goal.loop-s-preserved
loop-s-preserved c =
    c.without-none.ensures
    ∙ expires_next (λ s. history s (past_of c.args.past.now)) c.args.time c.loop-s.s c.has_expired.result c.loop-s.none
    (c.has_expired.ensures ∙ ap (λ (x : Source). has_expired x.expiry c.args.time) c.source.ensures) c.loop-s.invariant
