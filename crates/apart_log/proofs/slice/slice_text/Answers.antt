-- Proof by hand of `slice_text`: what it returns, by the lemmas of `Gathering`.
use Rattle.std.proofs.Common.{◌≡◌, ◌∙◌, flat_map, map}
use Rattle.std.proofs.lemmas.Result.{IfOk-weaker}
use Rattle.sleep_model.specs.Merge.{all_entries, of_source}
use Rattle.sleep_model.specs.Text.{entry_line}
use Rattle.log_text.specs.Referred.{referred}
use Rattle.apart_log.specs.Slices.{slice_lines}
use Rattle.apart_log.proofs.Gathering.{slice_told}
use Rattle.apart_log.proofs.slice.slice_text.Goals as goal

pub returns : goal.returns
returns c =
    let source = c.args.source.now in
    let m = source.machine.now in
    let told = flat_map (entry_line m) (referred c.as_slice.result.now) in
    let lines = slice_lines m c.args.range (all_entries (map of_source c.args.journal.now) source.histories.now) in
    IfOk-weaker c.write_entries.result (λ v. v.items ≡ told) (λ v. v.items ≡ lines)
    (λ v is. is ∙ slice_told m c.args.range (map of_source c.args.journal.now) source.histories.now _ _ c.in_ok-entries.ensures c.as_slice.ensures.value)
    c.write_entries.ensures
