-- What goes into a burst of a run is as a burst wants it, and what came back is as a run wants it.
use Rattle.std.proofs.Common.{◌≡◌, ◌≤◌, ◌<◌, ◌+◌, ◌^◌, ◌∙◌, ℕ, zero, suc, Bool, true, false, nat_lt, List, [], ◌∷◌, length, map, reverse, Some, slice_get, slice_index_or, refl, sym, ap, subst, arith}
use Rattle.std.specs.Bool.{OnTrue}
use Rattle.std.proofs.lemmas.Bool.Decides.{nat_tests}
use Rattle.std.proofs.lemmas.List.{length-map, length-reverse}
use mathlib.Core.Option.{some}
use lib.ListN.{get_elem?}
use Rattle.sleep_model.specs.declared.entry.Actor.{Actor}
use Rattle.sleep_model.specs.declared.entry.Actor.TheVariants as actor
use Rattle.sleep_model.specs.declared.entry.JournalEntry.{JournalEntry}
use Rattle.sleep_model.specs.declared.entry.SourceEntry.{SourceEntry}
use Rattle.sleep_model.specs.declared.machine.Machine.{Machine}
use Rattle.sleep_model.specs.Merge.{of_source}
use Rattle.sleep_model.specs.Sources.{most_entries}
use Rattle.sleep_model.specs.declared.word.Stamp.{Stamp}
use Rattle.event_word.specs.Seats.{AreAllSeats, WordToken, number_of}
use Rattle.sleep_core.specs.Cores.{IsActor}
use Rattle.wakeup_source.specs.SourceStates.{SourceState, unstamped_source, latest}
use Rattle.run_objects.specs.Objects.{SourcesInvariant, SeatedSourceState, seats_of, sources_of}
use Rattle.run_world.specs.ObjectLists.{AreTimely}
use Rattle.running_laws.specs.Running.{AreSources, IsSourceOf, of_sources}
use Rattle.running_laws.proofs.Lists.{source_at}
use Rattle.run_world.specs.declared.task.Task.{Task}
use Rattle.world_workers.specs.Bursts.{AreTasksIn, HaveTurns}
use Rattle.world_workers.specs.Tries.{IsTaskIn, turns_of}
use Rattle.machine_rounds.specs.JobsOf.{AreAllJobs, JobsState, job_at}
use Rattle.machine_rounds.specs.declared.run.Run.TheInside.{Inside}
use Rattle.machine_rounds.specs.RunFields.{RunFieldsInvariant, state}
use Rattle.machine_rounds.specs.Runs.{RunState}
use Rattle.machine_rounds.specs.TasksOf.{all_tasks}
use Rattle.machine_rounds.proofs.SeatedSources.{index_mapped}
use Rattle.machine_rounds.proofs.FirstTasks.{IsTaskAt, OfDevice, OfScript, OfTimer, OfWork, is_at}

-- ---- what goes in

pub timely_all : (at : ℕ) (xs : List SeatedSourceState) → ((s : ℕ) (none : SourceState) → s < length (sources_of xs) → latest (unstamped_source (slice_index_or (sources_of xs) s none).past) ≤ at) → AreTimely at xs
timely_all at [] h = tt
timely_all at (x ∷ xs) h = (h 0 x.source (omega arith), timely_all at xs (λ s none l. h (suc s) none (omega (arith, l))))

tasks_in : (m : Machine) (tasks : List Task) → ((k : ℕ) (t : Task) → slice_get tasks k ≡ Some t → IsTaskIn m t) → AreTasksIn m tasks
tasks_in m [] h = tt
tasks_in m (t ∷ tasks) h = (h 0 t refl, tasks_in m tasks (λ k u e. h (suc k) u e))

have_turns : (tasks : List Task) → ((k : ℕ) (t : Task) → slice_get tasks k ≡ Some t → turns_of t + 1000 < 2 ^ 63) → HaveTurns tasks
have_turns [] h = tt
have_turns (t ∷ tasks) h = (h 0 t refl, have_turns tasks (λ k u e. h (suc k) u e))

module _ (m : Machine) (floor : Stamp) (jobs : JobsState) (all : AreAllJobs m jobs)
    (named : (who : Actor) → IsActor m who → (job_at jobs who).who ≡ who) (its : (who : Actor) → IsActor m who → (job_at jobs who).machine ≡ m) where
  one_in : (k : ℕ) (t : Task) → IsTaskAt floor (length m.sources + 1) jobs k t → IsTaskIn m t
  one_in k t (OfScript i l) = let a : i < length m.actors = omega (arith, l, all.scripts) in (its (actor.Script i) a, subst (IsActor m) (sym (named (actor.Script i) a)) a)
  one_in k t OfWork = (its actor.Auto tt, subst (IsActor m) (sym (named actor.Auto tt)) tt)
  one_in k t (OfDevice d l) = let a : d < length m.devices = omega (arith, l, all.devices) in (its (actor.Dev d) a, subst (IsActor m) (sym (named (actor.Dev d) a)) a)
  one_in k t (OfTimer s l) = omega (arith, l)

  pub are_in : AreTasksIn m (all_tasks floor (length m.sources + 1) jobs)
  are_in = tasks_in m (all_tasks floor (length m.sources + 1) jobs) (λ k t e. one_in k t (is_at floor (length m.sources + 1) jobs k t e))

  one_turns : (n : ℕ) → n + 1000 < 2 ^ 63 → ((who : Actor) → IsActor m who → (job_at jobs who).turns ≤ n) → (k : ℕ) (t : Task) → IsTaskAt floor (length m.sources + 1) jobs k t → turns_of t + 1000 < 2 ^ 63
  one_turns n few h k t (OfScript i l) = let a : i < length m.actors = omega (arith, l, all.scripts) in omega (arith, few, h (actor.Script i) a)
  one_turns n few h k t OfWork = omega (arith, few, h actor.Auto tt)
  one_turns n few h k t (OfDevice d l) = let a : d < length m.devices = omega (arith, l, all.devices) in omega (arith, few, h (actor.Dev d) a)
  one_turns n few h k t (OfTimer s l) = omega (arith, few)

  pub turns_left : (n : ℕ) → n + 1000 < 2 ^ 63 → ((who : Actor) → IsActor m who → (job_at jobs who).turns ≤ n) → HaveTurns (all_tasks floor (length m.sources + 1) jobs)
  turns_left n few h = have_turns (all_tasks floor (length m.sources + 1) jobs) (λ k t e. one_turns n few h k t (is_at floor (length m.sources + 1) jobs k t e))

-- ---- what came back

same_id : (id n : ℕ) (seat : WordToken) → number_of seat ≡ Some id → number_of seat ≡ Some n → id ≡ n
same_id id n seat h g = let e : Some id ≡ Some n = sym h ∙ g in cc

source_is : (base : ℕ) (xs : List SeatedSourceState) → SourcesInvariant xs → ((k : ℕ) (t : WordToken) → get_elem? (seats_of xs) k ≡ some t → number_of t ≡ Some (base + k))
    → (s : ℕ) (none : SourceState) → s < length (sources_of xs) → IsSourceOf (base + s) (slice_index_or (sources_of xs) s none)
source_is base [] kept h s none l = absurd (omega arith)
source_is base (x ∷ xs) kept h zero none l = record { number = same_id x.source.id (base + 0) x.seat kept.0.number (h 0 x.seat refl); settled = kept.0.settled; fresh = kept.0.fresh }
source_is base (x ∷ xs) kept h (suc s) none l =
    let place : base + 1 + s ≡ base + suc s = omega arith in
    subst (λ (n : ℕ). IsSourceOf n (slice_index_or (sources_of xs) s none)) place
    (source_is (base + 1) xs kept.1 (λ k t e. h (suc k) t e ∙ ap (λ (n : ℕ). Some n) (omega arith)) s none (omega (arith, l)))

pub sources_back : (m : Machine) (look : WordToken) (xs : List SeatedSourceState) → length xs ≡ length m.sources + 1 → AreAllSeats look (seats_of xs) → SourcesInvariant xs → AreSources m (sources_of xs)
sources_back m look xs count all kept = record {
  count = length-map xs (λ (s : SeatedSourceState). s.source) ∙ count;
  each = λ s none l.
      subst (λ (n : ℕ). IsSourceOf n (slice_index_or (sources_of xs) s none)) (let is : 0 + s ≡ s = omega arith in is)
      (source_is 0 xs kept (λ k t e. (all.each_is k t e).1 ∙ ap (λ (n : ℕ). Some n) (let is : k ≡ 0 + k = omega arith in is)) s none l);
}

-- ---- a full source

pub fills : (m : Machine) (xs : List SeatedSourceState) (s : ℕ) (x : SeatedSourceState) → AreSources m (sources_of xs) → s < length xs → x ≡ slice_index_or xs s x → most_entries < length x.source.past + 4
    → (s ≤ length m.sources) × (most_entries < length (of_sources (sources_of xs) s) + 4)
fills m xs s x are l is more =
    let count : length xs ≡ length m.sources + 1 = sym (length-map xs (λ (s : SeatedSourceState). s.source)) ∙ are.count in
    let there : of_sources (sources_of xs) s ≡ map of_source x.source.past =
    source_at (sources_of xs) s x.source (omega (arith, l, length-map xs (λ (s : SeatedSourceState). s.source)))
    ∙ ap (λ (y : SourceState). map of_source y.past) (index_mapped (λ (s : SeatedSourceState). s.source) xs s x ∙ ap (λ (y : SeatedSourceState). y.source) (sym is)) in
    (omega (arith, l, count), omega (arith, more, ap (λ (es : List JournalEntry). length es) there, length-map x.source.past of_source))

-- the same of a run, if its history is that long
pub fills_run : (r : Inside) (s : RunState) → state r ≡ s → RunFieldsInvariant r → (place : ℕ) (x : SeatedSourceState) (past : List SourceEntry) → place < length r.sources.items → x ≡ slice_index_or r.sources.items place x → reverse past ≡ x.source.past → (b : Bool)
    → b ≡ nat_lt 60000 (length past + 4) → OnTrue b ((place ≤ length s.machine.sources) × (most_entries < length (of_sources s.sources place) + 4))
fills_run r s same k place x past l is history false test = tt
fills_run r s same k place x past l is history true test =
    let long : length past ≡ length x.source.past = sym (length-reverse past) ∙ ap (λ (es : List SourceEntry). length es) history in
    let more : most_entries < length x.source.past + 4 = grind (arith, nat_tests) in
    subst (λ (t : RunState). (place ≤ length t.machine.sources) × (most_entries < length (of_sources t.sources place) + 4)) same (fills r.machine.now r.sources.items place x k.running.sources_are l is more)
