-- With the closed table of the event word, a run's lists are the one log.
use Rattle.std.proofs.Common.{◌≡◌, ◌≤◌, ◌<◌, ◌+◌, ◌∙◌, ℕ, zero, suc, Bool, true, false, ◌&&◌, nat_le, List, [], ◌∷◌, ◌++◌, length, map, reverse, None, slice_index_or, refl, sym, ap, ap₂, subst, arith}
use Rattle.std.specs.List.{list_all, range_with_len}
use Rattle.std.proofs.lemmas.Bool.Decides.{nat_tests}
use Rattle.std.proofs.lemmas.List.{length-map, length-reverse, reverse-append}
use Rattle.sleep_model.specs.declared.entry.Actor.{Actor}
use Rattle.sleep_model.specs.declared.entry.Entry.{Entry}
use Rattle.sleep_model.specs.declared.entry.JournalEntry.{JournalEntry}
use Rattle.sleep_model.specs.declared.entry.SourceEntry.{SourceEntry}
use Rattle.sleep_model.specs.declared.log.Log.{Log}
use Rattle.sleep_model.specs.declared.log.LogEnd.TheVariants.{Finished, Stuck}
use Rattle.sleep_model.specs.declared.machine.Machine.{Machine}
use Rattle.sleep_model.specs.declared.word.EventNow.{EventNow}
use Rattle.sleep_model.specs.declared.word.Stamp.{Stamp}
use Rattle.sleep_model.specs.Due.{have_all_exited}
use Rattle.sleep_model.specs.Legal.{IsFinishedLog, IsLegalLog, IsStuckLog, is_finished, is_idle, next_time, waiting}
use Rattle.sleep_model.specs.Merge.{all_entries, merge, of_source, next_position, rises, stamped}
use Rattle.sleep_model.specs.Numbers.{time_of}
use Rattle.sleep_model.specs.Places.{places}
use Rattle.sleep_model.specs.Sources.{history, most_entries, stats_at}
use Rattle.sleep_model.specs.Word.{position}
use Rattle.sleep_state.specs.JournalRooms.{entries}
use Rattle.sleep_script.specs.Jobs.{JobState}
use Rattle.event_word.specs.Steps.{MadeStep}
use Rattle.wakeup_source.specs.SourceStates.{SourceState}
use Rattle.wakeup_source.specs.SourceStates as states
use Rattle.room_laws.specs.Ranged.{is_ranged_entry}
use Rattle.room_laws.proofs.SourcesFit.{histories_keep}
use Rattle.log_merge.specs.Remainders.{unstamped}
use Rattle.run_laws.specs.Apart.{past_of, source_past}
use Rattle.run_laws.specs.Merging.{IsMergeOf, stats_apart}
use Rattle.run_laws.proofs.Lists.{all_map, all_more, all_order, all_reverse}
use Rattle.run_laws.proofs.Picks.{history_of_merge}
use Rattle.run_laws.specs.Acts.{Made}
use Rattle.run_laws.specs.Called.{knows}
use Rattle.run_laws.specs.Invariant.{IsWritten}
use Rattle.run_laws.specs.ClosedOver.{IsClosedOver, IsSeenLast, was_seen}
use Rattle.run_laws.proofs.Called.{unstamped_same}
use Rattle.run_laws.proofs.ClosedOver.{all_weaker}
use Rattle.run_laws.proofs.Premises.{falling_rises, ends_legal, merges, past_back, source_back, shown}
use Rattle.running_laws.specs.Running.{IsRunning, histories, journal_histories, made_so, of_sources}
use Rattle.running_laws.proofs.Invariant.{all_known}
use Rattle.running_laws.proofs.Lists.{entries_unstamped, source_at}

-- ---- lists

map_onto : (xs : List SourceEntry) (x : SourceEntry) → map of_source (xs ++ x ∷ []) ≡ map of_source xs ++ of_source x ∷ []
map_onto [] x = refl
map_onto (y ∷ xs) x = ap (λ (l : List JournalEntry). of_source y ∷ l) (map_onto xs x)

map_reverse : (xs : List SourceEntry) → map of_source (reverse xs) ≡ reverse (map of_source xs)
map_reverse [] = refl
map_reverse (x ∷ xs) =
    ap (map of_source) (reverse-append (x ∷ []) xs) ∙ (map_onto (reverse xs) x
    ∙ (ap (λ (l : List JournalEntry). l ++ of_source x ∷ []) (map_reverse xs) ∙ sym (reverse-append (of_source x ∷ []) (map of_source xs))))

-- a history of the journal has its source's entries
preserved_at : (sources : List SourceState) (s : ℕ) → map of_source (slice_index_or (journal_histories sources) s []) ≡ reverse (of_sources sources s)
preserved_at [] s = refl
preserved_at (x ∷ sources) zero = map_reverse x.past
preserved_at (x ∷ sources) (suc s) = preserved_at sources s

-- each rises if each source's entries do
preserved_rise : (sources : List SourceState) → ((s : ℕ) → rises (reverse (of_sources sources s)) ≡ true) → list_all (λ history. rises (map of_source history)) (journal_histories sources) ≡ true
preserved_rise [] h = refl
preserved_rise (x ∷ sources) h =
    all_more (λ (history : List SourceEntry). rises (map of_source history)) (reverse x.past) (journal_histories sources)
    (ap rises (map_reverse x.past) ∙ h 0) (preserved_rise sources (λ s. h (suc s)))

-- that number of entries and no more
preserved_short : (sources : List SourceState) → ((s : ℕ) (none : SourceState) → s < length sources → length (slice_index_or sources s none).past ≤ most_entries) → list_all (λ h. nat_le (length h) most_entries) (journal_histories sources) ≡ true
preserved_short [] h = refl
preserved_short (x ∷ sources) h =
    all_more (λ h. nat_le (length h) most_entries) (reverse x.past) (journal_histories sources) (short (length (reverse x.past)) (omega (arith, length-reverse x.past, h 0 x (omega arith))))
    (preserved_short sources (λ s none l. h (suc s) none (omega (arith, l))))
  where
    short : (n : ℕ) → n ≤ most_entries → nat_le n most_entries ≡ true
    short n l = grind (arith, nat_tests)

-- ---- the end of a run

module _ (m : Machine) (journal : List JournalEntry) (sources : List SourceState) (jobs : Actor → JobState) {floor : Stamp} (r : IsRunning m journal sources jobs floor) where
  abbrev all : Made
  all = made_so journal sources r.own

  written : IsWritten m all (reverse journal) (journal_histories sources)
  written = record {
    journal_is = refl;
    histories_are = preserved_at sources;
    count = length-map sources (λ s. reverse s.past) ∙ r.sources_are.count;
    short = preserved_short sources (λ s none l. (r.sources_are.each s none l).settled.short);
  }

  -- the journal's ticks and positions rise
  pub journal_rises : rises (reverse journal) ≡ true
  journal_rises = falling_rises journal r.invariant.journal_falls

  -- and those of each source's history
  pub histories_rise : list_all (λ history. rises (map of_source history)) (journal_histories sources) ≡ true
  histories_rise = preserved_rise sources (λ s. falling_rises (of_sources sources s) (r.invariant.sources_fall s))

  -- a word that is at or above all that is known was the last
  seen_last : (looks : List (List EventNow)) (word : EventNow) → was_seen looks word ≡ true → floor.pos ≤ position word → IsSeenLast looks (journal_histories sources) word
  seen_last looks word seen low = record {
    seen = seen;
    behind = λ s.
        ap (list_all (λ e. nat_le (next_position e) (position word))) (preserved_at sources s)
        ∙ all_reverse (λ (e : JournalEntry). nat_le (next_position e) (position word)) (of_sources sources s)
        (all_weaker (λ e. knows floor (e ∷ [])) (λ e. nat_le (next_position e) (position word)) (of_sources sources s) below ((all_known m journal sources jobs r).1 s));
  }
    where
      second : (a b : Bool) → (a && b) ≡ true → b ≡ true
      second true b h = h
      second false b h = absurd (cc)

      below : (e : JournalEntry) → knows floor (e ∷ []) ≡ true → nat_le (next_position e) (position word) ≡ true
      below e h =
          let pos : nat_le (next_position e) floor.pos ≡ true = second (nat_le e.stamp.tick floor.tick) (nat_le (next_position e) floor.pos) h in
          grind (arith, nat_tests)

  -- the entries of the one log were checked each by itself
  pub told_all : list_all (is_ranged_entry m) (reverse (merge (reverse journal) (journal_histories sources))) ≡ true
  told_all =
      all_reverse (is_ranged_entry m) (merge (reverse journal) (journal_histories sources))
      (all_map (λ (e : JournalEntry). e.entry) (is_ranged_entry m) (stamped (reverse journal) (journal_histories sources))
      (all_order (λ (e : JournalEntry). is_ranged_entry m e.entry) (all_entries (reverse journal) (journal_histories sources))
      (shown m all (reverse journal) (journal_histories sources) r.invariant written (λ e. is_ranged_entry m e.entry) r.shown)))

  module _ (steps : List (List MadeStep)) (looks : List (List EventNow)) (answer word : EventNow) (closed_over : IsClosedOver steps looks answer (reverse journal) (journal_histories sources))
      (seen : was_seen looks word ≡ true) (low : floor.pos ≤ position word) where
    -- the log of the merge is legal; and if the run is over by that word it is finished, if nobody goes on it is stuck
    pub running_ends : (log : Log) → IsMergeOf m (reverse journal) (journal_histories sources) log
        → IsLegalLog m log
        × ((log.end ≡ Finished) → is_finished m (entries journal) (histories sources) word ≡ true → IsFinishedLog m log)
        × ((log.end ≡ Stuck (waiting m (entries journal) word)) → have_all_exited m (entries journal) ≡ false → is_idle m (entries journal) (histories sources) word ≡ true
        → next_time m (entries journal) (histories sources) ≡ None → IsStuckLog m log)
    running_ends log is =
        let ends = ends_legal m all steps looks answer word (reverse journal) (journal_histories sources) log r.invariant written closed_over (seen_last looks word seen low) is in
        let same : entries journal ≡ unstamped journal = entries_unstamped journal in (
          ends.0,
          λ says over. ends.1 (record { says = says; finished = subst (λ (xs : List Entry). is_finished m xs (histories sources) word ≡ true) same over }),
          λ says left idle timeless. ends.2 (record {
            says = says ∙ ap (λ (xs : List Entry). Stuck (waiting m xs word)) same;
            left = subst (λ (xs : List Entry). have_all_exited m xs ≡ false) same left;
            idle = subst (λ (xs : List Entry). is_idle m xs (histories sources) word ≡ true) same idle;
            timeless = subst (λ (xs : List Entry). next_time m xs (histories sources) ≡ None) same timeless;
          }),
        )

    -- a source has no more entries than the machine's calls have room for
    pub running_keeps : (s : ℕ) → length (of_sources sources s) ≤ places m s
    running_keeps s =
        let log : Log = record { entries = merge (reverse journal) (journal_histories sources); stats = stats_apart m (reverse journal) (journal_histories sources); end = Finished } in
        let legal : IsLegalLog m log = (running_ends log (record { entries = refl; stats = refl })).0 in
        let fit = (merges m all steps looks answer (reverse journal) (journal_histories sources) r.invariant written closed_over).0 in
        let own : history s (past_of (stamped (reverse journal) (journal_histories sources))) ≡ unstamped (of_sources sources s) =
        history_of_merge (reverse journal) (journal_histories sources) fit.kept fit.sourced fit.histories_rise s
        ∙ source_back m all (reverse journal) (journal_histories sources) r.invariant written s in
        omega (arith, histories_keep m (reverse log.entries) legal.legal s, ap length own, length-map (of_sources sources s) (λ (e : JournalEntry). e.entry))

  -- ---- the statistics

  stats_from : (xs : List SourceState) (hs : List (List SourceEntry)) (a n at : ℕ) → length xs ≡ n → ((s : ℕ) (none : SourceState) → s < length xs → states.unstamped_source (slice_index_or xs s none).past ≡ source_past hs (a + s))
      → map (λ s. stats_at (states.unstamped_source s.past) at) xs ≡ map (λ s. stats_at (source_past hs s) at) (range_with_len a n)
  stats_from [] hs a zero at l h = refl
  stats_from [] hs a (suc n) at l h = absurd (omega arith)
  stats_from (x ∷ xs) hs a zero at l h = absurd (omega arith)
  stats_from (x ∷ xs) hs a (suc n) at l h =
      let first : states.unstamped_source x.past ≡ source_past hs a = h 0 x (omega arith) ∙ ap (source_past hs) (omega arith) in
      ap₂ (λ y ys. y ∷ ys) (ap (λ own. stats_at own at) first)
      (stats_from xs hs (a + 1) n at (omega (arith, l)) (λ s none k. (let there : a + suc s ≡ a + 1 + s = omega arith in h (suc s) none (omega (arith, k)) ∙ ap (source_past hs) there)))

  -- those of the sources at the journal's time are the log's
  pub stats_are : map (λ s. stats_at (states.unstamped_source s.past) (time_of (entries journal))) sources ≡ stats_apart m (reverse journal) (journal_histories sources)
  stats_are =
      stats_from sources (journal_histories sources) 0 (length m.sources + 1) (time_of (entries journal)) r.sources_are.count
      (λ s none l. (let there : s ≡ 0 + s = omega arith in
      sym (source_back m all (reverse journal) (journal_histories sources) r.invariant written s ∙ (ap unstamped (source_at sources s none l) ∙ sym (unstamped_same (slice_index_or sources s none).past)))
      ∙ ap (source_past (journal_histories sources)) there))
      ∙ ap (λ (at : ℕ). map (λ s. stats_at (source_past (journal_histories sources) s) at) (range_with_len 0 (length m.sources + 1)))
      (ap time_of (entries_unstamped journal ∙ sym (past_back journal)))
