-- Entries of a journal and of sources, in the order of the one log (own: Linux keeps no such log).
use Rattle.std.specs.Prelude.{Bool, true, List, [], ◌∷◌, ◌&&◌, flat_map, map, not, Option, Some, None}
use Rattle.std.specs.List.{list_all}
use Rattle.sleep_model.specs.declared.entry.Entry.{Entry}
use Rattle.sleep_model.specs.declared.entry.JournalEntry.{JournalEntry}
use Rattle.sleep_model.specs.declared.entry.SourceEntry.{SourceEntry}
use Rattle.sleep_model.specs.Merge.{of_source, precedes}
use denote.Ref.{Bor}

-- entries of sources that are referred to, as entries of the log
abbrev pub seen : List (Bor SourceEntry) → List JournalEntry
seen others = map (λ other. of_source other.now) others

-- the entries of all sources, history by history
abbrev pub sources_entries : List (List SourceEntry) → List JournalEntry
sources_entries histories = flat_map (λ history. map of_source history) histories

-- no entry of these comes before that one
abbrev pub is_first : JournalEntry → List JournalEntry → Bool
is_first e entries = list_all (λ other. not (precedes other e)) entries

-- entries that are in order
abbrev pub is_in_order : List JournalEntry → Bool
is_in_order [] = true
is_in_order (e ∷ rest) = is_first e rest && is_in_order rest

-- only the entries
abbrev pub unstamped : List JournalEntry → List Entry
unstamped entries = map (λ e. e.entry) entries

-- an entry of a source comes before all of a journal in order
abbrev pub leads : JournalEntry → List JournalEntry → Bool
leads other [] = true
leads other (e ∷ rest) = precedes other e

-- an entry of a source stands before the next of a journal, or none is left of it
abbrev pub leads_next : JournalEntry → Option JournalEntry → Bool
leads_next other None = true
leads_next other (Some e) = precedes other e

-- the next entry of the log is the journal's, if one is left
abbrev pub is_journals_turn : List JournalEntry → List JournalEntry → Bool
is_journals_turn journal [] = true
is_journals_turn journal (other ∷ others) = not (leads other journal)
