-- Proof by hand of `no_script_enabled`: its loop, by the lemmas of `Counting`.
use Rattle.std.proofs.Common.{◌∙◌}
use Rattle.sleep_model.specs.declared.entry.Actor.TheVariants as actor
use Rattle.sleep_model.specs.Sources.{history}
use Rattle.check_past.specs.Passing.{journal_of, past_of}
use Rattle.check_rules.proofs.Counting.{enabled_next}
use Rattle.check_rules.proofs.jump.no_script_enabled.Goals as goal

pub loop-i-preserved : goal.loop-i-preserved
loop-i-preserved c =
    let p = c.args.past.now in
    c.without-none.ensures
    ∙ enabled_next p.machine (journal_of p) (λ s. history s (past_of p)) c.args.now actor.Script c.loop-i.i c.in_ok-enabled.enabled c.loop-i.none c.in_ok-enabled.ensures c.loop-i.invariant
