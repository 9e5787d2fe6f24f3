-- Proof by hand of `worker_texts`: what it returns, by the lemmas of `Gathering`.
use Rattle.std.proofs.Common.{◌≡◌, ◌∙◌, map, reverse}
use Rattle.std.proofs.lemmas.Result.{IfOk-weaker}
use Rattle.sleep_model.specs.Merge.{all_entries, of_source}
use Rattle.apart_log.specs.Slices.{joined_texts, slice_lines}
use Rattle.apart_log.proofs.Gathering.{told_of_range}
use Rattle.apart_log.proofs.cut.worker_texts.Goals as goal

pub returns : goal.returns
returns c =
    let source = c.args.source.now in
    let m = source.machine.now in
    let range = c.args.range in
    let past = reverse source.journal.now.past in
    let of_range = slice_lines m range (all_entries (map of_source c.as_slice.result.now) source.histories.now) in
    let lines = slice_lines m range (all_entries past source.histories.now) in
    IfOk-weaker c.texts_in_row.result (λ v. joined_texts v.items ≡ of_range) (λ v. joined_texts v.items ≡ lines)
    (λ v is. is ∙ told_of_range m range past source.histories.now _ _ c.in_ok-journal.ensures c.as_slice.ensures.value)
    c.texts_in_row.ensures
