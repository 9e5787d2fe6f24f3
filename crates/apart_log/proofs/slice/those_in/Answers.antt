-- Proof by hand of `those_in`: its loop, by the lemmas of `Gathering`.
use Rattle.std.proofs.Common.{arith}
use Rattle.std.proofs.lemmas.Grind.{common_steps}
use Rattle.sleep_model.specs.Merge.{of_source}
use Rattle.apart_log.specs.Slices.{is_in}
use Rattle.apart_log.proofs.Gathering.{filter_more}
use Rattle.apart_log.proofs.slice.those_in.Goals as goal

pub loop-entry-preserved : goal.loop-entry-preserved
loop-entry-preserved c =
    grind (arith, common_steps, filter_more (is_in c.args.range) of_source c.args.entries.now c.loop-entry.entry-index)
