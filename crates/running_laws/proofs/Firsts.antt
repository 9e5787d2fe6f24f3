-- The invariant of a run before its first turn.
use Rattle.std.proofs.Common.{◌≡◌, ◌≤◌, ◌<◌, ◌+◌, ◌∙◌, ℕ, zero, suc, Bool, true, false, nat_lt, List, [], length, slice_index_or, map, refl, sym, ap, subst, arith}
use Rattle.std.proofs.lemmas.Bool.Decides.{nat_tests}
use Rattle.std.specs.List.{list_all}
use Rattle.sleep_model.specs.declared.entry.Actor.{Actor}
use Rattle.sleep_model.specs.declared.entry.Entry.{Entry}
use Rattle.sleep_model.specs.declared.entry.JournalEntry.{JournalEntry}
use Rattle.sleep_model.specs.declared.machine.Machine.{Machine}
use Rattle.sleep_model.specs.Accepted.{IsAccepted}
use Rattle.sleep_model.specs.Calls.{made, notes_of}
use Rattle.sleep_model.specs.Merge.{of_source}
use Rattle.sleep_model.specs.Sources.{expiry}
use Rattle.sleep_script.specs.Jobs.{IsJobOf, JobState, first_job, no_stamp}
use Rattle.sleep_script.proofs.Following.{first_is_job}
use Rattle.sleep_core.specs.Cores.{IsActor}
use Rattle.wakeup_source.specs.SourceStates.{IsSettled, SourceState, new_source}
use Rattle.room_laws.specs.Ranged.{is_ranged_entry}
use Rattle.log_merge.specs.Remainders.{unstamped}
use Rattle.run_laws.specs.Invariant.{RunInvariant, nothing}
use Rattle.run_laws.specs.Turned.{newest_stamp}
use Rattle.run_laws.proofs.Invariant.{invariant_begins}
use Rattle.running_laws.specs.Running.{IsRunning, IsSourceOf, histories, made_so, of_sources}
use Rattle.running_laws.proofs.Lists.{source_at, source_beyond}
use Rattle.running_laws.proofs.Rising.{EndsBy}

module _ (m : Machine) (sources : List SourceState) (count : length sources ≡ length m.sources + 1)
    (new : (s : ℕ) (none : SourceState) → s < length sources → slice_index_or sources s none ≡ new_source s) where
  -- no source has an entry
  none_yet : (s : ℕ) → of_sources sources s ≡ []
  none_yet s = by (nat_lt s (length sources)) refl
    where
      by : (b : Bool) → nat_lt s (length sources) ≡ b → of_sources sources s ≡ []
      by true is =
          let l : s < length sources = grind (arith, nat_tests) in
          source_at sources s (new_source s) l ∙ ap (λ (x : SourceState). map of_source x.past) (new s (new_source s) l)
      by false is = source_beyond sources s (let l : length sources ≤ s = grind (arith, nat_tests) in l)

  nothing_is : nothing ≡ made_so [] sources (λ who. [])
  nothing_is = λ i. record { journal = []; of = λ s. sym (none_yet s) i; own = λ who. [] }

  settled : (s : ℕ) → IsSettled (new_source s)
  settled s = record { owes_none = refl; legal = tt; in_order = tt; short = omega arith }

  none_made : (n : ℕ) (of : ℕ → List Entry) (who : Actor) → ((s : ℕ) → of s ≡ []) → made n of who ≡ 0
  none_made zero of who h = refl
  none_made (suc n) of who h = omega (arith, ap (notes_of who) (h n), none_made n of who h)

  -- nothing was made yet
  pub running_first : (jobs : Actor → JobState) → IsAccepted m → ((who : Actor) → IsActor m who → jobs who ≡ first_job m who) → IsRunning m [] sources jobs no_stamp
  running_first jobs acc first = record {
    accepted = acc;
    own = λ who. [];
    invariant = subst (RunInvariant m) nothing_is (invariant_begins m);
    sources_are = record {
      count = count;
      each = λ s none l. subst (IsSourceOf s) (sym (new s none l)) (record { number = refl; settled = settled s; fresh = refl });
    };
    jobs_are = λ who a.
        subst (λ (n : ℕ). IsJobOf m who [] n (jobs who)) (sym (none_made (length m.sources + 1) (histories sources) who (λ s. ap unstamped (none_yet s))))
        (subst (λ (j : JobState). IsJobOf m who [] 0 j) (sym (first who a)) (first_is_job m who));
    floors_know = record { own = λ who. refl; jumps = λ who. tt };
    shown = (refl, λ s. ap (list_all (λ e. is_ranged_entry m e.entry)) (none_yet s));
    low = record {
      newest = omega arith;
      of_each = λ s. omega (arith, ap (λ (l : List JournalEntry). (newest_stamp l).tick) (none_yet s));
      of_jobs = λ who a. omega (arith, ap (λ (j : JobState). j.floor.tick) (first who a));
      of_actors = λ who. omega arith;
    };
    near = record { time = omega arith; expiries = λ s. subst (λ (l : List JournalEntry). EndsBy 86400000 (expiry (unstamped l))) (sym (none_yet s)) tt };
  }
