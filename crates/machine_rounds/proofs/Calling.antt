-- A call on a source of a run.
use Rattle.std.proofs.Common.{◌≡◌, ◌≤◌, ◌<◌, ◌+◌, ◌∙◌, ℕ, List, Bool, true, false, nat_lt, length, map, slice_set, slice_index_or, refl, sym, ap, subst, arith}
use Rattle.std.proofs.lemmas.Bool.Decides.{nat_tests}
use Rattle.std.proofs.lemmas.List.{length-map}
use Rattle.sleep_model.specs.Merge.{of_source}
use Rattle.sleep_model.specs.Numbers.{time_of}
use Rattle.sleep_model.specs.Sources.{most_entries}
use Rattle.sleep_state.specs.JournalRooms.{entries}
use Rattle.event_word.specs.Seats.{AreAllSeats, IsSeatOf}
use Rattle.wakeup_source.specs.declared.fault.SourceFault.{SourceFault}
use Rattle.wakeup_source.specs.declared.fault.SourceFault.TheVariants as source
use Rattle.wakeup_source.specs.SourceStates.{SourceState, latest}
use Rattle.wakeup_source.specs.SourceStates as states
use Rattle.run_objects.specs.Objects.{SeatedSourceState, seats_of, sources_of}
use Rattle.running_laws.specs.Running.{IsRunning, source_entry_count, histories, of_sources}
use Rattle.running_laws.proofs.Asked.{timely}
use Rattle.running_laws.proofs.Lists.{history_at, source_at}
use Rattle.machine_rounds.specs.declared.run.Run.TheInside.{Inside}
use Rattle.world_workers.specs.declared.fault.RunFault.{RunFault}
use Rattle.world_workers.specs.declared.fault.RunFault.TheVariants as fault
use Rattle.machine_rounds.specs.JobsOf.{job_at}
use Rattle.world_workers.specs.Refused.{run_fault}
use Rattle.machine_rounds.specs.RunFields.{RunFieldsInvariant, state}
use Rattle.machine_rounds.specs.Runs.{IsRefused}
use Rattle.machine_rounds.proofs.SeatedSources.{put_back, seat_is, source_is, sources_set, more_set}

module _ (r : Inside) (k : RunFieldsInvariant r) (s : ℕ) (there : s ≤ length r.machine.now.sources) (one : SeatedSourceState) (is : one ≡ slice_index_or r.sources.items s one) where
  abbrev sources : List SourceState
  sources = sources_of r.sources.items

  pub within : s < length r.sources.items
  within = omega (arith, there, k.running.sources_are.count, length-map r.sources.items (λ (x : SeatedSourceState). x.source))

  within_sources : s < length sources
  within_sources = omega (arith, there, k.running.sources_are.count)

  pub old_is : one.source ≡ slice_index_or sources s one.source
  old_is = source_is r.sources.items s one is

  -- its seat is at the table
  pub seated : IsSeatOf r.seated.seat.table_id s one.seat
  seated = seat_is r.seated.seat r.sources.items s one k.seats within is

  pub at_table : one.seat.table_id ≡ r.table.cells.shared.table_id
  at_table = seated.0 ∙ k.table

  -- none of its entries is later than now
  pub not_later : (at : ℕ) → at ≡ time_of (entries r.seated.core.past) → latest (states.unstamped_source one.source.past) ≤ at
  not_later at now =
      omega (
        arith,
        now,
        timely r.machine.now r.seated.core.past sources (job_at r.jobs) k.running s one.source within_sources,
        ap (λ (x : SourceState). latest (states.unstamped_source x.past)) old_is,
      )

  -- its entries are the run's of that source
  pub entries_are : of_sources sources s ≡ map of_source one.source.past
  entries_are = source_at sources s one.source within_sources ∙ ap (λ (x : SourceState). map of_source x.past) (sym old_is)

  pub history_is : histories sources s ≡ states.unstamped_source one.source.past
  history_is = history_at sources s one.source within_sources ∙ ap (λ (x : SourceState). states.unstamped_source x.past) (sym old_is)

  counted : length (of_sources sources s) ≡ length one.source.past
  counted = ap length entries_are ∙ length-map one.source.past of_source

  -- why it was refused
  pub refused : (why : SourceFault) (given : RunFault) → given ≡ run_fault why s → (why ≡ source.Full → most_entries < length one.source.past + 4) → IsRefused (state r) given
  refused source.Full given so full = subst (IsRefused (state r)) (sym so) (there, omega (arith, full refl, counted))
  refused source.Mem given so full = subst (IsRefused (state r)) (sym so) tt

  same_items : (new : SeatedSourceState) → new ≡ one → r.sources.items ≡ slice_set r.sources.items s new
  same_items new same = sym (ap (slice_set r.sources.items s) same ∙ put_back r.sources.items s one is)

  -- the run goes on, with its seats, if the source is put back as it was
  pub put_running : (new : SeatedSourceState) → new ≡ one → IsRunning r.machine.now r.seated.core.past (sources_of (slice_set r.sources.items s new)) (job_at r.jobs) r.floor
  put_running new same = subst (λ (xs : List SeatedSourceState). IsRunning r.machine.now r.seated.core.past (sources_of xs) (job_at r.jobs) r.floor) (same_items new same) k.running

  pub put_seats : (new : SeatedSourceState) → new ≡ one → AreAllSeats r.seated.seat (seats_of (slice_set r.sources.items s new))
  put_seats new same = subst (λ (xs : List SeatedSourceState). AreAllSeats r.seated.seat (seats_of xs)) (same_items new same) k.seats

  -- nothing of it has changed then
  pub refused_put : (new : SeatedSourceState) → new ≡ one → (given : RunFault) → IsRefused (state r) given
      → IsRefused (record { machine = r.machine.now; journal = r.seated.core.past; sources = sources_of (slice_set r.sources.items s new); seat = r.seated.seat; floor = r.floor }) given
  refused_put new same given h =
      subst (λ (xs : List SeatedSourceState). IsRefused (record { machine = r.machine.now; journal = r.seated.core.past; sources = sources_of xs; seat = r.seated.seat; floor = r.floor }) given)
      (sym (ap (slice_set r.sources.items s) same ∙ put_back r.sources.items s one is)) h

  -- out of memory is not reported of a source that is full
  pub wanted : (why : SourceFault) (given : RunFault) → given ≡ run_fault why s → (most_entries < length one.source.past + 4 → why ≡ source.Full) → given ≡ fault.Mem → length (of_sources sources s) + 4 ≤ most_entries
  wanted source.Full given so full want = absurd (let no : fault.SourceFull s ≡ fault.Mem = sym so ∙ want in cc)
  wanted source.Mem given so full want = by (nat_lt most_entries (length one.source.past + 4)) refl
    where
      by : (b : Bool) → nat_lt most_entries (length one.source.past + 4) ≡ b → length (of_sources sources s) + 4 ≤ most_entries
      by true e = absurd (let less : most_entries < length one.source.past + 4 = grind (arith, nat_tests) in let no : source.Mem ≡ source.Full = full less in cc)
      by false e =
          let room : length one.source.past + 4 ≤ most_entries = grind (arith, nat_tests) in
          omega (arith, room, counted)

  -- there are more entries after it
  pub more_entries : (new : SeatedSourceState) → length one.source.past < length new.source.past → source_entry_count sources < source_entry_count (sources_of (slice_set r.sources.items s new))
  more_entries new more =
      omega (arith, more_set sources s one.source new.source within_sources old_is more, ap source_entry_count (sources_set r.sources.items s new))
