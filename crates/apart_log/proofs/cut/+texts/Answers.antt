-- Proof by hand of `texts`: what it returns, by the lemmas of `Cutting`.
use Rattle.std.proofs.Common.{◌≡◌, ◌∙◌, reverse}
use Rattle.std.proofs.lemmas.Result.{IfOk-at_ok}
use Rattle.sleep_model.specs.Merge.{all_entries}
use Rattle.apart_log.specs.Slices.{joined_texts, slice_lines}
use Rattle.apart_log.proofs.Cutting.{halves_joined}
use Rattle.apart_log.proofs.cut.+texts.Goals as goal

pub returns : goal.returns
returns g t c =
    let source = c.args.source.now in
    let m = source.machine.now in
    let entries = all_entries (reverse source.journal.now.past) source.histories.now in
    let front : joined_texts c.in_ok-front.field-0.items ≡ slice_lines m c.below-low.result entries =
    IfOk-at_ok (λ v. joined_texts v.items ≡ slice_lines m c.below-low.result entries) c.in_ok-front.was c.join-front.ensures.first in
    let back : joined_texts c.in_ok-back.field-0.items ≡ slice_lines m c.from_on-high.result entries =
    IfOk-at_ok (λ v. joined_texts v.items ≡ slice_lines m c.from_on-high.result entries) c.in_ok-back.was c.join-front.ensures.second in
    c.in_ok-texts.ensures
    ∙ halves_joined m entries c.args.range c.below-low.result c.from_on-high.result c.middle-middle.result c.middle-middle.ensures.after c.middle-middle.ensures.before
    c.below-low.ensures c.from_on-high.ensures _ _ front back
