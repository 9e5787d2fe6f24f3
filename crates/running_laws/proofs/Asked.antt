-- Whom a run asks: what an actor's next call is on, that no entry is later than now, and when nobody goes on.
use Rattle.std.proofs.Common.{◌≡◌, ◌≤◌, ◌<◌, ◌+◌, ◌^◌, ◌∙◌, ℕ, zero, suc, true, nat_le, List, [], ◌∷◌, length, length-drop, map, Some, None, slice_get, slice_index_or, sym, ap, subst, arith}
use Rattle.std.specs.List.{list_all}
use Rattle.std.proofs.lemmas.Bool.Decides.{nat_tests}
use Rattle.sleep_model.specs.declared.entry.Actor.{Actor}
use Rattle.sleep_model.specs.declared.entry.Actor.TheVariants as actor
use Rattle.sleep_model.specs.declared.entry.Entry.{Entry}
use Rattle.sleep_model.specs.declared.entry.JournalEntry.{JournalEntry}
use Rattle.sleep_model.specs.declared.entry.SourceEntry.{SourceEntry}
use Rattle.sleep_model.specs.declared.entry.Kind.{Kind}
use Rattle.sleep_model.specs.declared.machine.Machine.{Machine}
use Rattle.sleep_model.specs.declared.machine.SourceCall.{SourceCall}
use Rattle.sleep_model.specs.declared.machine.SourceCall.TheVariants as call
use Rattle.sleep_model.specs.declared.word.EventNow.{EventNow}
use Rattle.sleep_model.specs.declared.word.Stamp.{Stamp}
use Rattle.sleep_model.specs.Calls.{calls_of, note}
use Rattle.sleep_model.specs.Legal.{JournalPart, is_idle, next_time}
use Rattle.sleep_model.specs.Merge.{of_source}
use Rattle.sleep_model.specs.Numbers.{time_of}
use Rattle.sleep_model.specs.Path.{maker}
use Rattle.sleep_state.specs.JournalRooms.{entries}
use Rattle.sleep_core.specs.Cores.{IsActor}
use Rattle.sleep_laws.proofs.Ending.{no_attempt}
use Rattle.sleep_laws.proofs.Linking.{links_stand}
use Rattle.sleep_laws.proofs.Ranks.{ranked}
use Rattle.sleep_script.specs.Jobs.{JobState}
use Rattle.room_laws.proofs.Sourced.{IsNoteOf, call_sourced}
use Rattle.wakeup_source.specs.SourceStates.{SourceState, latest}
use Rattle.wakeup_source.specs.SourceStates as states
use Rattle.wakeup_source.specs.Shown.{MayCall}
use Rattle.log_merge.specs.Remainders.{unstamped}
use Rattle.run_laws.specs.Apart.{IsCall}
use Rattle.run_laws.proofs.Lists.{all_head}
use Rattle.running_laws.specs.Running.{CallsNext, IsGoing, calls_made, histories}
use Rattle.running_laws.proofs.Invariant.{few_calls}
use Rattle.running_laws.proofs.Lists.{entries_unstamped, source_at}

-- a note is on a source of the machine, and is no expiry
note_there : (m : Machine) (s : ℕ) (c : SourceCall) → IsNoteOf m (note s c) → s ≤ length m.sources
note_there m s call.Awake h = h
note_there m s call.Relax h = h
note_there m s (call.Event ms hard) h = h
note_there m s call.Expire h = absurd h

note_may : (m : Machine) (s : ℕ) (c : SourceCall) → IsNoteOf m (note s c) → (own : List Entry) (at : ℕ) → MayCall c own at
note_may m s call.Awake h own at = tt
note_may m s call.Relax h own at = tt
note_may m s (call.Event ms hard) h own at = tt
note_may m s call.Expire h own at = absurd h

some_left : (n : ℕ) (xs : List Kind) (k : Kind) → slice_get xs n ≡ Some k → n < length xs
some_left n [] k e = absurd (cc)
some_left zero (x ∷ xs) k e = omega arith
some_left (suc n) (x ∷ xs) k e = omega (arith, some_left n xs k e)

latest_within : (p : List SourceEntry) (at : ℕ) → list_all (λ e. nat_le e.entry.time at) (map of_source p) ≡ true → latest (states.unstamped_source p) ≤ at
latest_within [] at h = omega arith
latest_within (e ∷ p) at h =
    let here : nat_le e.entry.time at ≡ true = all_head (λ (x : JournalEntry). nat_le x.entry.time at) (of_source e) (map of_source p) h in
    grind (arith, nat_tests)

module _ (m : Machine) (journal : List JournalEntry) (sources : List SourceState) (jobs : Actor → JobState) {floors : Actor → Stamp} (r : IsGoing m journal sources jobs floors) where
  -- no entry of a source is later than now
  pub timely : (s : ℕ) (none : SourceState) → s < length sources → latest (states.unstamped_source (slice_index_or sources s none).past) ≤ time_of (entries journal)
  timely s none l =
      latest_within (slice_index_or sources s none).past (time_of (entries journal))
      (subst (λ (t : ℕ). list_all (λ e. nat_le e.entry.time t) (map of_source (slice_index_or sources s none).past) ≡ true) (sym (ap time_of (entries_unstamped journal)))
      (ap (list_all (λ e. nat_le e.entry.time (time_of (unstamped journal)))) (sym (source_at sources s none l)) ∙ r.invariant.by_now.1 s))

  -- ---- an actor's next call

  pub next_sourced : (who : Actor) (s : ℕ) (c : SourceCall) → CallsNext m journal sources who s c → IsNoteOf m (note s c)
  next_sourced who s c next = call_sourced m r.accepted who (entries journal) (calls_made m sources who) (note s c) next

  -- is on a source of the machine
  pub call_there : (who : Actor) (s : ℕ) (c : SourceCall) → CallsNext m journal sources who s c → s ≤ length m.sources
  call_there who s c next = note_there m s c (next_sourced who s c next)

  -- and no expiry
  pub call_may : (who : Actor) (s : ℕ) (c : SourceCall) → CallsNext m journal sources who s c → (own : List Entry) (at : ℕ) → MayCall c own at
  call_may who s c next = note_may m s c (next_sourced who s c next)

  -- its job has it at its head, and has made few
  pub call_left : (who : Actor) (s : ℕ) (c : SourceCall) → IsActor m who → CallsNext m journal sources who s c → (0 < length (jobs who).pending) × ((jobs who).calls + 1 < 2 ^ 32)
  call_left who s c a next =
      let job = r.jobs_are who a in (
        omega (arith, ap length job.pending_is, length-drop (calls_made m sources who) (calls_of m who (entries journal)), some_left (calls_made m sources who) (calls_of m who (entries journal)) (note s c) next),
        omega (arith, few_calls m journal sources jobs r who, job.calls_are),
      )

  -- it is the actor's next
  pub call_is : (who : Actor) (s : ℕ) (c : SourceCall) → IsActor m who → CallsNext m journal sources who s c → IsCall who (calls_of m who (entries journal)) (calls_made m sources who) (note s c)
  call_is (actor.Script i) s c a next = next
  call_is actor.Auto s c a next = next
  call_is (actor.Dev d) s c a next = next
  call_is (actor.Timer t) s c a next = absurd a
  call_is actor.Time s c a next = absurd a

  -- ---- nobody goes on

  pub legal_journal : JournalPart m (entries journal)
  legal_journal = subst (JournalPart m) (sym (entries_unstamped journal)) r.invariant.of_journal

  -- if nobody goes on and no moment is pending no attempt is open
  pub closes : (word : EventNow) → next_time m (entries journal) (histories sources) ≡ None → is_idle m (entries journal) (histories sources) word ≡ true → maker (entries journal) ≡ None
  closes word none idle =
      no_attempt m (entries journal) (ranked m (entries journal) r.accepted.parents (links_stand m r.accepted.scripts r.accepted.links (entries journal) legal_journal)) legal_journal
      (histories sources) word idle none
