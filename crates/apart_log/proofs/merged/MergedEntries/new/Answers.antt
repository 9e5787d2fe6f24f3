-- The entries of sources are in order, and with the journal's they are the definition's log.
use Rattle.std.proofs.Common.{◌≡◌, ◌∙◌, true, List, ap, reverse, subst, sym}
use Rattle.sleep_model.specs.declared.entry.JournalEntry.{JournalEntry}
use Rattle.sleep_model.specs.declared.entry.SourceEntry.{SourceEntry}
use Rattle.log_merge.specs.Remainders.{is_in_order, sources_entries}
use Rattle.log_merge.proofs.Reading.{log_of_all, rising_in_order, sorted_in_order}
use Rattle.apart_log.specs.Merged.{either, log_of}
use Rattle.apart_log.proofs.Merging.{one_in_order}
use Rattle.apart_log.proofs.merged.MergedEntries.new.Goals as goal
use denote.Ref.{Bor}

pub invariant_of-result : goal.invariant_of-result
invariant_of-result c = record {
  journal = rising_in_order (reverse c.args.journal.now.past) c.requires.journal;
  others = subst (λ (sorted : List (Bor SourceEntry)). is_in_order (either c.in-Some.history.now sorted) ≡ true) (sym c.new.ensures.items) (one_in_order c.in-Some.history.now c.in-Some.ensures.rises);
}

pub invariant_of-result-2 : goal.invariant_of-result-2
invariant_of-result-2 c = record {
  journal = rising_in_order (reverse c.args.journal.now.past) c.requires.journal;
  others = subst (λ (l : List JournalEntry). is_in_order l ≡ true) (sym c.in_ok-sorted.ensures) (sorted_in_order (sources_entries c.args.histories.now));
}

pub returns : goal.returns
returns c = ap (log_of (reverse c.args.journal.now.past)) c.in_ok-sorted.ensures ∙ log_of_all (reverse c.args.journal.now.past) c.args.histories.now
