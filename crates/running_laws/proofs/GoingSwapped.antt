-- Sources with the same entries may replace one another.
use Rattle.std.proofs.Common.{◌≡◌, ◌∙◌, ◌≤◌, ◌<◌, ◌+◌, ℕ, Bool, true, false, ◌==◌, List, length, map, slice_set, sym, ap, subst, refl, arith}
use Rattle.std.proofs.lemmas.Bool.Decides.{nat_tests}
use Rattle.sleep_model.specs.declared.entry.Actor.{Actor}
use Rattle.sleep_model.specs.declared.entry.JournalEntry.{JournalEntry}
use Rattle.sleep_model.specs.declared.machine.Machine.{Machine}
use Rattle.sleep_model.specs.declared.word.Stamp.{Stamp}
use Rattle.sleep_model.specs.Calls.{made}
use Rattle.sleep_model.specs.Merge.{of_source}
use Rattle.sleep_model.specs.Numbers.{time_of}
use Rattle.sleep_model.specs.Sources.{expiry}
use Rattle.sleep_state.specs.JournalRooms.{entries}
use Rattle.sleep_script.specs.Jobs.{IsJobOf, JobState}
use Rattle.wakeup_source.specs.SourceStates.{SourceState}
use Rattle.room_laws.specs.Ranged.{is_ranged_entry}
use Rattle.log_merge.specs.Remainders.{unstamped}
use Rattle.run_laws.specs.Invariant.{AllOf, RunInvariant}
use Rattle.run_laws.specs.Turned.{newest_stamp}
use Rattle.running_laws.specs.Running.{AreSources, FloorsKnow, IsGoing, IsSourceOf, entry_count, made_so, of_sources}
use Rattle.running_laws.proofs.Lists.{source_other, source_set, sources_set}
use Rattle.running_laws.proofs.Rising.{EndsBy, entries_more}

-- a run goes on with other sources that have the same entries, and are between calls
pub swapped : (m : Machine) (journal : List JournalEntry) (sources others : List SourceState) (jobs : Actor → JobState) (floors : Actor → Stamp) → AreSources m others
    → ((s : ℕ) → of_sources others s ≡ of_sources sources s) → IsGoing m journal sources jobs floors → IsGoing m journal others jobs floors
swapped m journal sources others jobs floors are same g =
    let lists : of_sources sources ≡ of_sources others = λ i s. sym (same s) i in
    let made_is : made_so journal sources g.own ≡ made_so journal others g.own = λ i. record { journal = journal; of = λ s. sym (same s) i; own = g.own } in
    let more : entry_count journal sources ≤ entry_count journal others =
    omega (arith, entries_more sources others (omega (arith, g.sources_are.count, are.count)) (λ s. omega (arith, ap (λ (l : List JournalEntry). length l) (same s)))) in
    record {
      accepted = g.accepted;
      own = g.own;
      invariant = subst (RunInvariant m) made_is g.invariant;
      sources_are = are;
      jobs_are = λ who a.
          subst (λ (of : ℕ → List JournalEntry). IsJobOf m who (entries journal) (made (length m.sources + 1) (λ s. unstamped (of s)) who) (jobs who)) lists (g.jobs_are who a);
      floors_know = subst (FloorsKnow floors) made_is g.floors_know;
      shown = subst (AllOf (λ e. is_ranged_entry m e.entry)) made_is g.shown;
      low = record {
        newest = omega (arith, more, g.low.newest);
        of_each = λ s. omega (arith, more, g.low.of_each s, ap (λ (l : List JournalEntry). (newest_stamp l).tick) (same s));
        of_jobs = λ who a. omega (arith, more, g.low.of_jobs who a);
        of_actors = λ who. omega (arith, more, g.low.of_actors who);
      };
      near = record {
        time = g.near.time;
        expiries = λ s. subst (λ (l : List JournalEntry). EndsBy (time_of (entries journal) + 86400000) (expiry (unstamped l))) (sym (same s)) (g.near.expiries s);
      };
    }

module _ (m : Machine) (journal : List JournalEntry) (sources : List SourceState) (jobs : Actor → JobState) (floors : Actor → Stamp) (g : IsGoing m journal sources jobs floors)
    (s : ℕ) (source : SourceState) (within : s < length sources) (is : IsSourceOf s source) (same : of_sources sources s ≡ map of_source source.past) where
  one_same : (t : ℕ) → of_sources (slice_set sources s source) t ≡ of_sources sources t
  one_same t = by (s == t) refl
    where
      by : (b : Bool) → (s == t) ≡ b → of_sources (slice_set sources s source) t ≡ of_sources sources t
      by true at =
          let here : s ≡ t = grind (arith, nat_tests) in
          subst (λ (n : ℕ). of_sources (slice_set sources s source) n ≡ of_sources sources n) here (source_set sources s source within ∙ sym same)
      by false off = source_other sources s t source off

  -- so with one other source
  pub one_swapped : IsGoing m journal (slice_set sources s source) jobs floors
  one_swapped = swapped m journal sources (slice_set sources s source) jobs floors (sources_set m sources s source within is g.sources_are) one_same g
