-- Proof by hand of `texts_in_row`: what it returns, by the lemmas of `Cutting`.
use Rattle.std.proofs.Common.{◌∙◌, map}
use Rattle.sleep_model.specs.Merge.{all_entries, of_source}
use Rattle.apart_log.proofs.Cutting.{halves_joined}
use Rattle.apart_log.proofs.cut.+texts_in_row.Goals as goal

pub returns : goal.returns
returns t c =
    let source = c.args.source.now in
    let entries = all_entries (map of_source c.args.journal.now) source.histories.now in
    c.in_ok-texts.ensures
    ∙ halves_joined source.machine.now entries c.args.range c.below.result c.from_on.result c.middle-middle.result c.middle-middle.ensures.after c.middle-middle.ensures.before
    c.below.ensures c.from_on.ensures _ _ c.in_ok-front.ensures c.in_ok-back.ensures
