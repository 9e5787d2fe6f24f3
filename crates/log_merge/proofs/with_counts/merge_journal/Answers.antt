-- Proof by hand of `merge_journal`: what it returns, by the lemmas of `Placing`.
use Rattle.std.proofs.Common.{ap, ◌∙◌, reverse}
use Rattle.sleep_model.specs.Interleaved.{interleaved}
use Rattle.log_merge.specs.WithCounts.{with_counts}
use Rattle.log_merge.specs.Remainders.{seen}
use Rattle.log_merge.proofs.Placing.{placed_merge}
use Rattle.log_merge.proofs.with_counts.merge_journal.Goals as goal

pub returns : goal.returns
returns c =
    c.of_journal.ensures
    ∙ (ap (interleaved 0 (reverse c.args.journal.past)) (c.in_ok-others.ensures ∙ ap (with_counts 0 (reverse c.args.journal.past)) (ap seen c.deref.ensures.value ∙ c.in_ok-ordered.ensures))
    ∙ placed_merge (reverse c.args.journal.past) c.args.histories.now c.requires)
