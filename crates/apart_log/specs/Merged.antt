-- What is left of a journal and of the sources' histories (own: Linux keeps no such log).
use Rattle.std.specs.Prelude.{ℕ, Bool, true, false, List, [], ◌∷◌, ◌++◌, flat_map, map}
use Rattle.sleep_model.specs.declared.entry.Entry.{Entry}
use Rattle.sleep_model.specs.declared.entry.JournalEntry.{JournalEntry}
use Rattle.sleep_model.specs.declared.entry.SourceEntry.{SourceEntry}
use Rattle.sleep_model.specs.declared.machine.Machine.{Machine}
use Rattle.sleep_model.specs.Merge.{in_order, of_source}
use Rattle.sleep_model.specs.Text.{entry_line}
use Rattle.log_merge.specs.Remainders.{leads, seen, unstamped}
use Rattle.apart_log.specs.declared.others.Others.{Others}
use denote.Ref.{Bor}

-- the entries of one history, and others that are referred to
abbrev pub either : List SourceEntry → List (Bor SourceEntry) → List JournalEntry
either history sorted = map of_source history ++ seen sorted

-- entries of sources, as entries of the log
abbrev pub others_of : Others → List JournalEntry
others_of o = either o.history.now o.sorted.now

-- no entry is left of these
abbrev pub is_none : List JournalEntry → Bool
is_none [] = true
is_none (e ∷ rest) = false

-- the first of the sources' entries comes before all of a journal, or there are none of both
abbrev pub is_others_turn : List JournalEntry → List JournalEntry → Bool
is_others_turn journal [] = is_none journal
is_others_turn journal (other ∷ others) = leads other journal

-- the log of both, in order
abbrev pub log_of : List JournalEntry → List JournalEntry → List Entry
log_of journal others = unstamped (in_order (journal ++ others))

-- the lines of that log
abbrev pub lines_of : Machine → List JournalEntry → List JournalEntry → List ℕ
lines_of m journal others = flat_map (entry_line m) (log_of journal others)
