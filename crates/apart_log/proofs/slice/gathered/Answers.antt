-- Proof by hand of `gathered`: the call of `range_in` and its loop, by the lemmas of `Gathering` and `Parting`.
use Rattle.std.proofs.Common.{◌∙◌, ◌++◌, List, filter, map, sym, ap, append_assoc, take}
use Rattle.sleep_model.specs.declared.entry.JournalEntry.{JournalEntry}
use Rattle.sleep_model.specs.declared.entry.SourceEntry.{SourceEntry}
use Rattle.sleep_model.specs.Merge.{of_source, rises}
use Rattle.log_merge.specs.Remainders.{seen, sources_entries}
use Rattle.apart_log.specs.Slices.{is_in}
use Rattle.apart_log.proofs.Gathering.{gathered_more}
use Rattle.apart_log.proofs.Parting.{rises_at}
use Rattle.apart_log.proofs.slice.gathered.Goals as goal

pub range_in-requires : goal.range_in-requires
range_in-requires c =
    ap (λ (h : List SourceEntry). rises (map of_source h)) (c.as_slice.ensures ∙ c.history-item.is)
    ∙ rises_at c.args.histories.now c.loop-history.history-index c.history-item.result c.requires c.loop-history-test.true

pub loop-history-preserved : goal.loop-history-preserved
loop-history-preserved c =
    let test = is_in c.args.range in
    let histories = c.args.histories.now in
    let i = c.loop-history.history-index in
    let history = c.history-item.result in
    let before = filter test (sources_entries (take i histories)) in
    c.in_ok-entries.ensures
    ∙ (ap (λ (l : List JournalEntry). seen c.loop-history.entries.items ++ l) (c.range_in.ensures ∙ ap (λ (h : List SourceEntry). filter test (map of_source h)) c.as_slice.ensures)
    ∙ (ap (λ (l : List JournalEntry). l ++ filter test (map of_source history)) c.loop-history.invariant
    ∙ (append_assoc (seen c.args.entries.items) before (filter test (map of_source history))
    ∙ ap (λ (l : List JournalEntry). seen c.args.entries.items ++ l) (sym (gathered_more test histories i history c.loop-history-test.true c.history-item.is)))))
