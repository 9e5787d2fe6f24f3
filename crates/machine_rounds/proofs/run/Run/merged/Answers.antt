-- Proof that `Run::merged` meets its contract, and that it meets what `new` requires.
use Rattle.std.proofs.Common.{◌∙◌, List, map, reverse, ap, ap₂}
use Rattle.std.specs.List.{list_all}
use Rattle.sleep_model.specs.declared.entry.JournalEntry.{JournalEntry}
use Rattle.sleep_model.specs.declared.entry.SourceEntry.{SourceEntry}
use Rattle.sleep_model.specs.Merge.{merge, of_source, rises}
use Rattle.running_laws.proofs.Ends.{histories_rise, journal_rises}
use Rattle.machine_rounds.proofs.Idling.{run_is}
use Rattle.machine_rounds.proofs.run.Run.merged.Goals as goal

pub new-requires-clause-journal : goal.new-requires-clause-journal
new-requires-clause-journal c =
    let s = c.args.self in
    let on = c.in_ok-journal.ensures.closed_over.on in
    ap (λ (past : List JournalEntry). rises (reverse past)) c.in_ok-journal.ensures.journal
    ∙ journal_rises s.machine s.journal s.sources on.jobs on.running

pub new-requires-clause-histories : goal.new-requires-clause-histories
new-requires-clause-histories c =
    let s = c.args.self in
    let on = c.in_ok-journal.ensures.closed_over.on in
    ap (λ (hs : List (List SourceEntry)). list_all (λ history. rises (map of_source history)) hs) c.in_ok-journal.ensures.histories
    ∙ histories_rise s.machine s.journal s.sources on.jobs on.running

pub returns : goal.returns
returns c =
    let kept = c.in_ok-journal.ensures in
    let journal = c.in_ok-journal.journal in
    let histories = c.in_ok-journal.histories in
    run_is c.args.self kept.closed_over (merge (reverse journal.past) histories.items) c.args.stats.items c.args.end c.new.result
    (ap₂ (λ (past : List JournalEntry) (hs : List (List SourceEntry)). merge (reverse past) hs) kept.journal kept.histories)
    c.requires.stats c.requires.end c.new.ensures c.requires.ranged
