-- Lists of which one entry is broken, which do not fit.
use Rattle.std.specs.Prelude.{ℕ, zero, suc, Bool, nat_lt, List, [], ◌∷◌, filter}
use Rattle.std.specs.List.{list_all}
use Rattle.sleep_model.specs.declared.entry.JournalEntry.{JournalEntry}
use Rattle.sleep_model.specs.declared.entry.SourceEntry.{SourceEntry}
use Rattle.sleep_model.specs.Merge.{all_entries, is_chained}
use Rattle.run_laws.specs.Apart.{word_steps}
use Rattle.run_laws.specs.Fitting.{are_counted, are_raised, has_time, is_look, jumps, no_steps, is_ordered}
use Rattle.law_trials.specs.Merging.{all_ticked, histories_among, journal_among}
use Rattle.law_trials.specs.Timers.{event_expires_machine, event_expires_entries}

-- the entries, of which number n is changed
abbrev pub changed : ℕ → (JournalEntry → JournalEntry) → List JournalEntry → List JournalEntry
changed n change [] = []
changed zero change (e ∷ after_idle_round) = change e ∷ after_idle_round
changed (suc n) change (e ∷ after_idle_round) = e ∷ changed n change after_idle_round

-- the entry with another position
abbrev pub with_pos : ℕ → JournalEntry → JournalEntry
with_pos pos e = record e { stamp = record { pos = pos; tick = e.stamp.tick } }

-- the entry with another tick
abbrev pub with_tick : ℕ → JournalEntry → JournalEntry
with_tick tick e = record e { stamp = record { pos = e.stamp.pos; tick = tick } }

-- the entry with another time
abbrev pub with_time : ℕ → JournalEntry → JournalEntry
with_time time e = record e { entry = record e.entry { time = time } }

-- the entries of a log with three jumps, as one worker makes them, of which number n is changed
abbrev pub broken : ℕ → (JournalEntry → JournalEntry) → List JournalEntry
broken n change = changed n change (all_ticked 1 event_expires_entries)

-- their journal
abbrev pub journal_in : List JournalEntry → List JournalEntry
journal_in entries = journal_among entries

-- their histories
abbrev pub histories_in : List JournalEntry → List (List SourceEntry)
histories_in entries = histories_among event_expires_machine entries

-- all of them
abbrev pub all_in : List JournalEntry → List JournalEntry
all_in entries = all_entries (journal_in entries) (histories_in entries)

-- their steps on the word
abbrev pub steps_in : List JournalEntry → List JournalEntry
steps_in entries = word_steps (journal_in entries) (histories_in entries)

-- the steps have each position once
abbrev pub count_fits : List JournalEntry → Bool
count_fits entries = are_counted 0 (steps_in entries)

-- each step carries the word that those before it leave
abbrev pub chain_fits : List JournalEntry → Bool
chain_fits entries = is_chained no_steps (steps_in entries)

-- each look carries the word of its position
abbrev pub looks_fit : List JournalEntry → Bool
looks_fit entries = list_all (is_look (steps_in entries)) (all_in entries)

-- ticks are above 0
abbrev pub ticks_fit : List JournalEntry → Bool
ticks_fit entries = list_all (λ e. nat_lt 0 e.stamp.tick) (all_in entries)

-- jumps raise the time
abbrev pub jumps_fit : List JournalEntry → Bool
jumps_fit entries = are_raised 0 0 (filter jumps (journal_in entries))

-- each entry has one side of each jump
abbrev pub sides_fit : List JournalEntry → Bool
sides_fit entries = list_all (λ e. list_all (is_ordered e) (all_in entries)) (all_in entries)

-- each entry has the time of a jump, or none
abbrev pub times_fit : List JournalEntry → Bool
times_fit entries = list_all (has_time (all_in entries)) (all_in entries)
