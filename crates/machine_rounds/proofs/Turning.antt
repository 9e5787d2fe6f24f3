-- A turn and a jump of a run.
use Rattle.std.proofs.Common.{◌≡◌, ◌≤◌, ◌∙◌, ◌&&◌, ℕ, true, nat_le, suc, List, [], ◌∷◌, length, refl, sym, ap, subst, arith}
use Rattle.std.specs.List.{list_all}
use Rattle.std.proofs.lemmas.Bool.Decides.{nat_tests}
use Rattle.sleep_model.specs.declared.entry.Actor.{Actor}
use Rattle.sleep_model.specs.declared.entry.JournalEntry.{JournalEntry}
use Rattle.sleep_model.specs.declared.entry.Kind.{Kind}
use Rattle.sleep_model.specs.declared.machine.Machine.{Machine}
use Rattle.sleep_model.specs.declared.word.EventNow.{EventNow}
use Rattle.sleep_model.specs.declared.word.Stamp.{Stamp}
use Rattle.sleep_model.specs.Calls.{calls_due}
use Rattle.sleep_model.specs.Fits.{is_word64}
use Rattle.sleep_model.specs.Legal.{JournalPart}
use Rattle.sleep_model.specs.Merge.{next_position}
use Rattle.sleep_model.specs.Numbers.{time_of}
use Rattle.sleep_model.specs.Path.{attempts}
use Rattle.sleep_model.specs.Word.{position}
use Rattle.sleep_state.specs.JournalRooms.{entries}
use Rattle.event_word.specs.Seats.{AreAllSeats, source_count}
use Rattle.sleep_core.specs.Cores.{CoreState, IsActor, core_after, made_entry, next_stamp}
use Rattle.core_history.specs.Histories.{last_stamp}
use Rattle.sleep_script.specs.Jobs.{after_turn}
use Rattle.sleep_script.proofs.Following.{turns_few}
use Rattle.room_laws.specs.Ranged.{is_ranged}
use Rattle.run_objects.specs.Objects.{SeatedCoreState, seats_of, sources_of}
use Rattle.sleep_laws.proofs.Ending.{and_right}
use Rattle.run_laws.proofs.Lists.{all_head}
use Rattle.run_laws.specs.Called.{knows}
use Rattle.running_laws.specs.Running.{IsRunning, calls_made}
use Rattle.running_laws.proofs.Turns.{running_turn}
use Rattle.running_laws.proofs.Invariant.{all_known}
use Rattle.machine_rounds.specs.declared.run.Run.TheInside.{Inside}
use Rattle.machine_rounds.specs.JobsOf.{JobsState, job_at, with_job}
use Rattle.machine_rounds.specs.RunFields.{RunFieldsInvariant}
use Rattle.machine_rounds.proofs.JobsChanged.{jobs_with}
use Rattle.machine_rounds.proofs.SeatedSources.{seats_same}

module _ (r : Inside) (k : RunFieldsInvariant r) where
  -- a look preserves the run if the core is the same
  pub looked_machine : (new : SeatedCoreState) → new.core ≡ r.seated.core → new.core.machine ≡ r.machine.now
  looked_machine new e = ap (λ (x : CoreState). x.machine) e ∙ k.machine_is

  pub looked_running : (new : SeatedCoreState) → new.core ≡ r.seated.core → IsRunning r.machine.now new.core.past (sources_of r.sources.items) (job_at r.jobs) r.floor
  looked_running new e = subst (λ (x : CoreState). IsRunning r.machine.now x.past (sources_of r.sources.items) (job_at r.jobs) r.floor) (sym e) k.running

  -- all seats stay at the table
  pub looked_table : (new : SeatedCoreState) → new.seat.table_id ≡ r.seated.seat.table_id → new.seat.table_id ≡ r.table.cells.shared.table_id
  looked_table new e = e ∙ k.table

  pub looked_seats : (new : SeatedCoreState) → new.seat.table_id ≡ r.seated.seat.table_id → source_count new.seat ≡ source_count r.seated.seat → AreAllSeats new.seat (seats_of r.sources.items)
  looked_seats new table sources = seats_same r.seated.seat new.seat (seats_of r.sources.items) table sources k.seats

  -- the journal after an entry is legal
  pub legal_after : (new : CoreState) (e : JournalEntry) → new ≡ core_after r.seated.core e → JournalPart new.machine (entries new.past) → JournalPart r.machine.now (entries (e ∷ r.seated.core.past))
  legal_after new e is h =
      subst (λ (x : Machine). JournalPart x (entries (e ∷ r.seated.core.past))) (ap (λ (x : CoreState). x.machine) is ∙ k.machine_is)
      (subst (λ (x : CoreState). JournalPart new.machine (entries x.past)) is h)

  counted : (xs : List JournalEntry) → length (entries xs) ≡ length xs
  counted [] = refl
  counted (e ∷ xs) = ap suc (counted xs)

  -- a job has ended no more turns than the journal has entries
  pub few_turns : (who : Actor) → IsActor r.machine.now who → (job_at r.jobs who).turns ≤ length r.seated.core.past
  few_turns who a = omega (arith, (k.running.jobs_are who a).turns_are, turns_few who (entries r.seated.core.past), counted r.seated.core.past)

  -- no position of the journal is after the last stamp's
  pub last_low : (last_stamp r.seated.core.past).pos ≤ r.floor.pos
  last_low = by r.seated.core.past (all_known r.machine.now r.seated.core.past (sources_of r.sources.items) (job_at r.jobs) k.running).0
    where
      by : (l : List JournalEntry) → list_all (λ e. knows r.floor (e ∷ [])) l ≡ true → (last_stamp l).pos ≤ r.floor.pos
      by [] h = omega arith
      by (e ∷ l) h =
          let here : nat_le e.stamp.tick r.floor.tick && nat_le (next_position e) r.floor.pos ≡ true = all_head (λ (x : JournalEntry). knows r.floor (x ∷ [])) e l h in
          let pos : nat_le (next_position e) r.floor.pos ≡ true = and_right (nat_le e.stamp.tick r.floor.tick) (nat_le (next_position e) r.floor.pos) here in
          let low : next_position e ≤ r.floor.pos = grind (arith, nat_tests) in
          omega (arith, low)

  -- the run goes on after an entry that was due
  pub running_after : (who : Actor) (word : EventNow) (kind : Kind) → IsActor r.machine.now who
      → calls_made r.machine.now (sources_of r.sources.items) who ≡ calls_due r.machine.now who (entries r.seated.core.past) → r.floor.pos ≤ position word
      → (new : CoreState) → new ≡ core_after r.seated.core (made_entry r.seated.core.past who word r.floor kind) → JournalPart new.machine (entries new.past)
      → (stamp : Stamp) → stamp ≡ next_stamp r.seated.core.past r.floor word → (attempt : ℕ) → attempt ≡ attempts (entries new.past)
      → (jobs : JobsState) → jobs ≡ with_job r.jobs who (after_turn stamp kind attempt (job_at r.jobs who)) → is_word64 (time_of (entries r.seated.core.past)) ≡ true → is_ranged kind ≡ true
      → IsRunning r.machine.now new.past (sources_of r.sources.items) (job_at jobs) stamp
  running_after who word kind a made high new core legal stamp stamp_is attempt attempt_is jobs jobs_are timed ranged =
      let m = r.machine.now in
      let journal = r.seated.core.past in
      let sources = sources_of r.sources.items in
      let e : JournalEntry = made_entry journal who word r.floor kind in
      let past : new.past ≡ e ∷ journal = ap (λ (x : CoreState). x.past) core in
      let job = after_turn stamp kind attempt (job_at r.jobs who) in
      subst (λ (p : List JournalEntry). IsRunning m p sources (job_at jobs) stamp) (sym past)
      (subst (λ (j : JobsState). IsRunning m (e ∷ journal) sources (job_at j) stamp) (sym jobs_are)
      (running_turn m journal sources (job_at r.jobs) k.running who word kind a made high (omega (arith, high, last_low)) (legal_after new e core legal)
      (job_at (with_job r.jobs who job)) stamp attempt stamp_is (attempt_is ∙ ap (λ (p : List JournalEntry). attempts (entries p)) past) (jobs_with m r.jobs who job k.all_jobs a) timed ranged))
