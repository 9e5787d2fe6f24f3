-- A run around a burst.
use Rattle.std.proofs.Common.{◌≡◌, ◌≤◌, ◌<◌, ◌+◌, ◌^◌, ◌∙◌, ℕ, suc, List, [], ◌∷◌, length, map, Result, Ok, Err, IfOk, length-append, ◌++◌, refl, sym, ap, subst, arith}
use Rattle.std.proofs.lemmas.List.{length-map}
use Rattle.sleep_base.specs.declared.outside.Mem.{Mem}
use Rattle.sleep_model.specs.declared.entry.Actor.{Actor}
use Rattle.sleep_model.specs.declared.entry.JournalEntry.{JournalEntry}
use Rattle.sleep_model.specs.declared.machine.Machine.{Machine}
use Rattle.sleep_model.specs.declared.word.Stamp.{Stamp}
use Rattle.sleep_model.specs.Numbers.{time_of}
use Rattle.sleep_state.specs.JournalRooms.{entries}
use Rattle.atomic_table.specs.Seated.{TableId}
use Rattle.sleep_core.specs.Cores.{IsActor}
use Rattle.sleep_script.specs.Jobs.{JobState}
use Rattle.sleep_script.proofs.Following.{turns_few}
use Rattle.run_objects.specs.Objects.{SourcesInvariant, SeatedCoreState, SeatedSourceState, sources_of}
use Rattle.run_world.specs.ObjectLists.{AreTimely}
use Rattle.running_laws.specs.Running.{AreSources, IsRunning}
use Rattle.running_laws.proofs.Asked.{timely}
use Rattle.run_world.specs.declared.task.Task.{Task}
use Rattle.run_world.specs.Bursts.{IsBurst}
use Rattle.world_workers.specs.declared.contents.Burst.{Burst}
use Rattle.world_workers.specs.Bursts.{AreReady, AreTasksIn, HaveTurns}
use Rattle.machine_rounds.specs.BurstsOf.{IsRunInBurst, IsBack, entries_of}
use Rattle.machine_rounds.specs.JobsOf.{AreAllJobs, JobsState, job_at}
use Rattle.machine_rounds.specs.TasksOf.{AreJobsOf, acts, highest, jobs_in, all_tasks, timers}
use Rattle.machine_rounds.proofs.BurstContents.{are_in, sources_back, timely_all, turns_left}
use Rattle.machine_rounds.proofs.Bursting.{all_back, back, goes_on_after, grown}
use Rattle.machine_rounds.proofs.CameBack.{CameBack, same_jobs}
use Rattle.machine_rounds.proofs.FirstTasks.{named, timers_long}

counted : (xs : List JournalEntry) → length (entries xs) ≡ length xs
counted [] = refl
counted (e ∷ xs) = ap suc (counted xs)

tasks_count : (floor : Stamp) (n : ℕ) (jobs : JobsState) → length (all_tasks floor n jobs) ≡ length jobs.scripts + (1 + (length jobs.devices + n))
tasks_count floor n jobs =
    omega (
      arith,
      length-append (map (acts floor) jobs.scripts) (acts floor jobs.auto ∷ (map (acts floor) jobs.devices ++ timers floor n)),
      length-append (map (acts floor) jobs.devices) (timers floor n),
      length-map jobs.scripts (acts floor),
      length-map jobs.devices (acts floor),
      timers_long floor n,
    )

module _ (m : Machine) (table : TableId) (floor : Stamp) (core : SeatedCoreState) (sources : List SeatedSourceState) (tasks : List Task) (a : IsRunInBurst m table floor core sources tasks) where
  its_actor : (who : Actor) → IsActor m who → (job_at a.jobs who).who ≡ who
  its_actor = named m core.core.past (sources_of sources) a.jobs floor a.all_jobs a.running

  count : length sources ≡ length m.sources + 1
  count = sym (length-map sources (λ (s : SeatedSourceState). s.source)) ∙ a.running.sources_are.count

  pub during_ready : AreReady m table core sources tasks
  during_ready = record {
    machine = a.machine_is;
    table_is = a.table_is;
    seats = a.seats;
    count = count;
    tasks_in = subst (AreTasksIn m) (sym a.tasks_are) (are_in m floor a.jobs a.all_jobs its_actor (λ who h. (a.running.jobs_are who h).machine_is));
  }

  pub during_timely : AreTimely (time_of (entries core.core.past)) sources
  during_timely = timely_all (time_of (entries core.core.past)) sources (timely m core.core.past (sources_of sources) (job_at a.jobs) a.running)

  pub during_turns : HaveTurns tasks
  during_turns =
      subst HaveTurns (sym a.tasks_are)
      (turns_left m floor a.jobs a.all_jobs its_actor (λ who h. (a.running.jobs_are who h).machine_is) (length core.core.past) a.few
      (λ who h. omega (arith, (a.running.jobs_are who h).turns_are, turns_few who (entries core.core.past), counted core.core.past)))

  long : length tasks ≡ length a.jobs.scripts + (1 + (length a.jobs.devices + (length m.sources + 1)))
  long = ap (λ (ts : List Task). length ts) a.tasks_are ∙ tasks_count floor (length m.sources + 1) a.jobs

  pub during_some : 1 ≤ length tasks
  during_some = omega (arith, long)

  pub during_few : (length tasks ≤ 2000) × (length m.sources ≤ 255)
  during_few =
      (omega (arith, long, a.all_jobs.scripts, a.all_jobs.devices, a.running.accepted.actors, a.running.accepted.devices, a.running.accepted.sources), a.running.accepted.sources)

  -- ---- after the burst

  module _ (core_then : SeatedCoreState) (sources_then : List SeatedSourceState) (tasks_then : List Task)
      (b : IsBurst (time_of (entries core.core.past)) core sources tasks core_then sources_then tasks_then)
      (ready : AreReady m table core_then sources_then tasks_then) (kept : SourcesInvariant sources_then) where
    of_these : IsBurst (time_of (entries core.core.past)) core sources (all_tasks floor (length m.sources + 1) a.jobs) core_then sources_then tasks_then
    of_these = subst (λ (ts : List Task). IsBurst (time_of (entries core.core.past)) core sources ts core_then sources_then tasks_then) a.tasks_are b

    sources_are : AreSources m (sources_of sources_then)
    sources_are = sources_back m core_then.seat sources_then ready.count ready.seats kept

    abbrev came : CameBack a.jobs tasks_then
    came = back m a.jobs floor a.all_jobs core core_then sources sources_then tasks_then (time_of (entries core.core.past)) a.running of_these refl sources_are

    all_came : AreAllJobs m came.back
    all_came = all_back m a.jobs a.all_jobs its_actor tasks_then came

    pub is_back : IsBack m table floor core_then sources_then tasks_then
    is_back = record {
      jobs = came.back;
      all_jobs = all_came;
      machine_is = ready.machine;
      running = goes_on_after m a.jobs floor a.all_jobs core core_then sources sources_then tasks_then (time_of (entries core.core.past)) a.running of_these refl sources_are;
      jobs_are = record { count = all_came.scripts; are = came.jobs_are };
      table_is = ready.table_is;
      seats = ready.seats;
    }

    pub has_grown : entries_of core sources ≤ entries_of core_then sources_then
    has_grown = grown m a.jobs floor a.all_jobs core core_then sources sources_then tasks_then (time_of (entries core.core.past)) a.running of_these refl sources_are

  pub grown_of : (result : Result Burst Mem) → IfOk result (λ made. IsBurst (time_of (entries core.core.past)) core sources tasks made.contents.core made.contents.sources.items made.contents.tasks.items)
      → IfOk result (λ made. AreReady m table made.contents.core made.contents.sources.items made.contents.tasks.items) → IfOk result (λ made. SourcesInvariant made.contents.sources.items)
      → IfOk result (λ made. entries_of core sources ≤ entries_of made.contents.core made.contents.sources.items)
  grown_of (Ok made) b ready kept = has_grown made.contents.core made.contents.sources.items made.contents.tasks.items b ready kept
  grown_of (Err e) b ready kept = tt

  pub is_back_of : (result : Result Burst Mem) → IfOk result (λ made. IsBurst (time_of (entries core.core.past)) core sources tasks made.contents.core made.contents.sources.items made.contents.tasks.items)
      → IfOk result (λ made. AreReady m table made.contents.core made.contents.sources.items made.contents.tasks.items) → IfOk result (λ made. SourcesInvariant made.contents.sources.items)
      → IfOk result (λ made. IsBack m table floor made.contents.core made.contents.sources.items made.contents.tasks.items)
  is_back_of (Ok made) b ready kept = is_back made.contents.core made.contents.sources.items made.contents.tasks.items b ready kept
  is_back_of (Err e) b ready kept = tt

-- ---- the jobs that came back

module _ (m : Machine) (table : TableId) (floor : Stamp) (core : SeatedCoreState) (sources : List SeatedSourceState) (tasks : List Task) (b : IsBack m table floor core sources tasks) where
  among : length (jobs_in tasks) ≡ length b.jobs.scripts + (1 + length b.jobs.devices)
  among = ap (λ (js : List JobState). length js) b.jobs_are.are ∙ omega (arith, length-append b.jobs.scripts (b.jobs.auto ∷ b.jobs.devices))

  pub back_few : length (jobs_in tasks) < 2 ^ 30
  back_few = omega (arith, among, b.all_jobs.scripts, b.all_jobs.devices, b.running.accepted.actors, b.running.accepted.devices)

  pub back_there : length m.actors < length (jobs_in tasks)
  back_there = omega (arith, among, b.all_jobs.scripts)

  module _ (jobs : JobsState) (are : AreJobsOf (jobs_in tasks) (length m.actors) jobs) where
    same : b.jobs ≡ jobs
    same = same_jobs (jobs_in tasks) (length m.actors) b.jobs jobs b.jobs_are are

    pub back_jobs : AreAllJobs m jobs
    back_jobs = subst (AreAllJobs m) same b.all_jobs

    pub back_running : (top : Stamp) → top ≡ highest floor tasks → IsRunning m core.core.past (sources_of sources) (job_at jobs) top
    back_running top is =
        subst (λ (s : Stamp). IsRunning m core.core.past (sources_of sources) (job_at jobs) s) (sym is)
        (subst (λ (j : JobsState). IsRunning m core.core.past (sources_of sources) (job_at j) (highest floor tasks)) same b.running)
