-- The fields of a log whose entries stay where they are stored.
use Rattle.std.specs.Prelude.{◌≡◌, true, List, reverse}
use Rattle.sleep_model.specs.declared.entry.Entry.{Entry}
use Rattle.log_merge.specs.Remainders.{is_in_order}
use Rattle.apart_log.specs.declared.merged.MergedEntries.TheInside.{Inside}
use Rattle.apart_log.specs.Merged.{either, log_of}

-- the entries that contracts see
abbrev pub all_merged : Inside → List Entry
all_merged l = log_of (reverse l.journal.now.past) (either l.history.now l.sorted.items)

-- the journal is in order, and so are the entries of sources
pub record AreMerged (l : Inside) : Type 0 where
  pub journal : is_in_order (reverse l.journal.now.past) ≡ true
  pub others : is_in_order (either l.history.now l.sorted.items) ≡ true
