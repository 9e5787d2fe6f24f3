-- After a burst a run goes on: its journal and its sources have what the burst made, and all actors know the greatest stamp.
use Rattle.std.proofs.Common.{◌≡◌, ◌≤◌, ◌<◌, ◌+◌, ◌++◌, ◌∙◌, ℕ, zero, suc, Bool, true, false, List, [], ◌∷◌, length, map, Some, None, slice_get, slice_index_or, refl, sym, ap, subst, arith}
use Rattle.std.proofs.lemmas.List.{length-map}
use Rattle.sleep_model.specs.declared.entry.Actor.{Actor}
use Rattle.sleep_model.specs.declared.entry.Actor.TheVariants as actor
use Rattle.sleep_model.specs.declared.entry.JournalEntry.{JournalEntry}
use Rattle.sleep_model.specs.declared.machine.Machine.{Machine}
use Rattle.sleep_model.specs.declared.word.Stamp.{Stamp}
use Rattle.sleep_model.specs.Numbers.{time_of}
use Rattle.sleep_state.specs.JournalRooms.{entries}
use Rattle.sleep_core.specs.Cores.{IsActor}
use Rattle.sleep_script.specs.Jobs.{IsJobOf, JobState, later}
use Rattle.wakeup_source.specs.SourceStates.{SourceState}
use Rattle.run_laws.proofs.Acts.{actor_is}
use Rattle.run_objects.specs.Objects.{SeatedCoreState, SeatedSourceState, sources_of}
use Rattle.running_laws.specs.Running.{AreJobs, AreSources, IsGoing, IsRunning, calls_made, entry_count}
use Rattle.running_laws.proofs.Turns as turns
use Rattle.run_world.specs.declared.task.Task.{Task}
use Rattle.run_world.specs.declared.task.Task.TheVariants as task
use Rattle.run_world.specs.Acts.{actor_of, known_by}
use Rattle.run_world.specs.Bursts.{IsBurst}
use Rattle.running_laws.specs.Courses.{GoesOnAt, IsTaskOf, has_task}
use Rattle.running_laws.specs.Preservation.{GoesOnWith}
use Rattle.running_laws.specs.Serial.{burst_state_of}
use Rattle.running_laws.proofs.GoingBursts.{bursts_go_on}
use Rattle.running_laws.proofs.SerialGrowth.{bursts_grow}
use Rattle.machine_rounds.specs.JobsOf.{AreAllJobs, JobsState, job_at}
use Rattle.machine_rounds.specs.TasksOf.{highest, all_tasks}
use Rattle.machine_rounds.proofs.CameBack.{CameBack, again, all_same, came_back}
use Rattle.machine_rounds.proofs.FirstTasks.{IsBelow, floors_first, get_after, get_front, get_mapped, goes_on_first, known_else, known_some, named}
use Rattle.machine_rounds.proofs.JobsChanged.{any_default}
use Rattle.machine_rounds.proofs.SeatedSources.{index_mapped}

-- ---- the greatest stamp

below_itself : (one : Stamp) → IsBelow one one
below_itself one = record { tick = omega arith; pos = omega arith }

below_then : (one two three : Stamp) → IsBelow one two → IsBelow two three → IsBelow one three
below_then one two three h g = record { tick = omega (arith, h.tick, g.tick); pos = omega (arith, h.pos, g.pos) }

pub floor_below : (floor : Stamp) (tasks : List Task) → IsBelow floor (highest floor tasks)
floor_below floor [] = below_itself floor
floor_below floor (t ∷ tasks) =
    below_then floor (later (known_by t) floor) (highest (later (known_by t) floor) tasks) (record { tick = omega arith; pos = omega arith }) (floor_below (later (known_by t) floor) tasks)

pub task_below : (floor : Stamp) (tasks : List Task) (k : ℕ) (t : Task) → slice_get tasks k ≡ Some t → IsBelow (known_by t) (highest floor tasks)
task_below floor [] k t e = absurd (let bad : None ≡ Some t = e in cc)
task_below floor (u ∷ tasks) zero t e =
    let same : u ≡ t = let h : Some u ≡ Some t = e in cc in
    subst (λ (x : Task). IsBelow (known_by x) (highest floor (u ∷ tasks))) same
    (below_then (known_by u) (later (known_by u) floor) (highest floor (u ∷ tasks)) (record { tick = omega arith; pos = omega arith }) (floor_below (later (known_by u) floor) tasks))
task_below floor (u ∷ tasks) (suc k) t e = task_below (later (known_by u) floor) tasks k t e

-- ---- the jobs that came back

who_of : (js old : List JobState) (i : ℕ) (d e : JobState) → map (λ (j : JobState). j.who) js ≡ map (λ (j : JobState). j.who) old → i < length old
    → (slice_index_or js i d).who ≡ (slice_index_or old i e).who
who_of js old i d e same l =
    sym (index_mapped (λ (j : JobState). j.who) js i d)
    ∙ (ap (λ (l : List Actor). slice_index_or l i d.who) same
    ∙ (any_default (map (λ (j : JobState). j.who) old) i d.who e.who (omega (arith, l, length-map old (λ (j : JobState). j.who)))
    ∙ index_mapped (λ (j : JobState). j.who) old i e))

long : (js old : List JobState) → map (λ (j : JobState). j.who) js ≡ map (λ (j : JobState). j.who) old → length js ≡ length old
long js old same = sym (length-map js (λ (j : JobState). j.who)) ∙ (ap (λ (l : List Actor). length l) same ∙ length-map old (λ (j : JobState). j.who))

module _ (m : Machine) (jobs : JobsState) (all : AreAllJobs m jobs) (named : (who : Actor) → IsActor m who → (job_at jobs who).who ≡ who) (news : List Task) (c : CameBack jobs news) where
  pub all_back : AreAllJobs m c.back
  all_back = record {
    scripts = long c.back.scripts jobs.scripts c.scripts ∙ all.scripts;
    devices = long c.back.devices jobs.devices c.devices ∙ all.devices;
  }

  abbrev rest : List Task
  rest = task.Acts c.back.auto ∷ (map (λ (j : JobState). task.Acts j) c.back.devices ++ c.last)

  -- the task of an actor of the machine is its job's
  pub task_there : (who : Actor) → IsActor m who → (k : ℕ) × (slice_get news k ≡ Some (task.Acts (job_at c.back who))) × ((job_at c.back who).who ≡ who)
  task_there (actor.Script i) a =
      let l : i < length c.back.scripts = omega (arith, a, all_back.scripts) in (
        i,
        ap (λ (ts : List Task). slice_get ts i) c.are
            ∙ get_front (map (λ (j : JobState). task.Acts j) c.back.scripts) rest i (task.Acts (slice_index_or c.back.scripts i c.back.auto)) (get_mapped (λ (j : JobState). task.Acts j) c.back.scripts i c.back.auto l),
        who_of c.back.scripts jobs.scripts i c.back.auto jobs.auto c.scripts (omega (arith, a, all.scripts)) ∙ named (actor.Script i) a,
      )
  task_there actor.Auto a = (
    length (map (λ (j : JobState). task.Acts j) c.back.scripts) + 0,
    ap (λ (ts : List Task). slice_get ts (length (map (λ (j : JobState). task.Acts j) c.back.scripts) + 0)) c.are
        ∙ get_after (map (λ (j : JobState). task.Acts j) c.back.scripts) rest 0 (task.Acts c.back.auto) refl,
    c.auto ∙ named actor.Auto a,
  )
  task_there (actor.Dev d) a =
      let l : d < length c.back.devices = omega (arith, a, all_back.devices) in (
        length (map (λ (j : JobState). task.Acts j) c.back.scripts) + suc d,
        ap (λ (ts : List Task). slice_get ts (length (map (λ (j : JobState). task.Acts j) c.back.scripts) + suc d)) c.are
            ∙ get_after (map (λ (j : JobState). task.Acts j) c.back.scripts) rest (suc d) (task.Acts (slice_index_or c.back.devices d c.back.auto))
            (get_front (map (λ (j : JobState). task.Acts j) c.back.devices) c.last d (task.Acts (slice_index_or c.back.devices d c.back.auto)) (get_mapped (λ (j : JobState). task.Acts j) c.back.devices d c.back.auto l)),
        who_of c.back.devices jobs.devices d c.back.auto jobs.auto c.devices (omega (arith, a, all.devices)) ∙ named (actor.Dev d) a,
      )
  task_there (actor.Timer s) a = absurd a
  task_there actor.Time a = absurd a

-- ---- a burst

module _ (m : Machine) (jobs : JobsState) (floor : Stamp) (all : AreAllJobs m jobs) (machine machine_then : SeatedCoreState) (sources sources_then : List SeatedSourceState) (tasks_then : List Task) (moment : ℕ)
    (r : IsRunning m machine.core.past (sources_of sources) (job_at jobs) floor)
    (b : IsBurst moment machine sources (all_tasks floor (length m.sources + 1) jobs) machine_then sources_then tasks_then)
    (at : moment ≡ time_of (entries machine.core.past)) (are : AreSources m (sources_of sources_then)) where
  abbrev these : List Task
  these = all_tasks floor (length m.sources + 1) jobs

  abbrev journal : List JournalEntry
  journal = machine_then.core.past

  abbrev first : GoesOnAt m (burst_state_of machine sources these)
  first = goes_on_first m machine.core.past (sources_of sources) jobs floor all r

  after : GoesOnWith m (burst_state_of machine sources these) (burst_state_of machine_then sources_then tasks_then) first (sources_of sources_then)
  after = bursts_go_on m moment machine machine_then sources sources_then these tasks_then b at are first

  abbrev on : GoesOnAt m (burst_state_of machine_then sources_then tasks_then)
  on = after.farther.on

  going : IsGoing m journal (sources_of sources_then) on.jobs on.floors
  going = subst (λ (xs : List SourceState). IsGoing m journal xs on.jobs on.floors) after.sources_are on.going

  -- ---- with the jobs that came back

  pub back : CameBack jobs tasks_then
  back = came_back floor (length m.sources + 1) jobs tasks_then (all_same (length sources) moment these b.passes tasks_then b.played)

  each : (k : ℕ) (t : Task) → slice_get tasks_then k ≡ Some t → IsTaskOf m on.jobs on.floors t
  each k t e = on.tasks_are.each k t e

  job_is : (who : Actor) → IsActor m who → on.jobs who ≡ job_at back.back who
  job_is who a =
      let there = task_there m jobs all (named m machine.core.past (sources_of sources) jobs floor all r) tasks_then back who a in
      let of = each there.0 (task.Acts (job_at back.back who)) there.1 in
      ap on.jobs (sym there.2) ∙ of.1

  jobs_are : AreJobs m journal (sources_of sources_then) (job_at back.back)
  jobs_are who a =
      subst (λ (job : JobState). IsJobOf m who (entries journal) (calls_made m (sources_of sources_then) who) job) (job_is who a) (going.jobs_are who a)

  -- ---- with the greatest stamp

  abbrev pub top : Stamp
  top = highest floor tasks_then

  known : (t : Task) → IsTaskOf m on.jobs on.floors t → on.floors (actor_of t) ≡ known_by t
  known (task.Acts job) h = h.2
  known (task.Fires timer) h = h.1

  had_task : (who : Actor) → has_task tasks_then who ≡ true → IsBelow (on.floors who) top
  had_task who h =
      let some = known_some floor tasks_then who h in
      let is : on.floors who ≡ known_by some.1 = ap on.floors (sym (actor_is (actor_of some.1) who some.3)) ∙ known some.1 (each some.0 some.1 some.2) in
      subst (λ (s : Stamp). IsBelow s top) (sym is) (task_below floor tasks_then some.0 some.1 some.2)

  -- who has a task has one again
  has_again : (who : Actor) → has_task tasks_then who ≡ has_task these who
  has_again who = again these tasks_then who (all_same (length sources) moment these b.passes tasks_then b.played)

  all_below : (who : Actor) → IsBelow (on.floors who) top
  all_below who = by (has_task tasks_then who) refl
    where
      by : (c : Bool) → has_task tasks_then who ≡ c → IsBelow (on.floors who) top
      by true h = had_task who h
      by false h =
          let none : has_task these who ≡ false = sym (has_again who) ∙ h in
          subst (λ (s : Stamp). IsBelow s top) (sym (after.farther.others who none ∙ (floors_first m machine.core.past (sources_of sources) jobs floor all r who ∙ known_else floor these who none))) (floor_below floor tasks_then)

  -- ---- with as many entries at least, and no tick above their number

  abbrev count : ℕ
  count = entry_count journal (sources_of sources_then)

  pub grown : entry_count machine.core.past (sources_of sources) ≤ count
  grown =
      bursts_grow moment machine machine_then sources sources_then these tasks_then b
      (omega (
        arith,
        r.sources_are.count,
        are.count,
        length-map sources (λ (s : SeatedSourceState). s.source),
        length-map sources_then (λ (s : SeatedSourceState). s.source),
      ))

  tasks_low : (floor : Stamp) (tasks : List Task) → floor.tick ≤ count → ((k : ℕ) (t : Task) → slice_get tasks k ≡ Some t → (known_by t).tick ≤ count) → (highest floor tasks).tick ≤ count
  tasks_low floor [] l h = l
  tasks_low floor (t ∷ tasks) l h = tasks_low (later (known_by t) floor) tasks (omega (arith, l, h 0 t refl)) (λ k u e. h (suc k) u e)

  top_low : top.tick ≤ count
  top_low =
      tasks_low floor tasks_then (omega (arith, r.low.of_actors actor.Time, grown))
      (λ k t e. subst (λ (s : Stamp). s.tick ≤ count) (known t (each k t e)) (going.low.of_actors (actor_of t)))

  -- the run goes on
  pub goes_on_after : IsRunning m journal (sources_of sources_then) (job_at back.back) top
  goes_on_after =
      turns.raised m journal (sources_of sources_then) (job_at back.back) on.floors (λ who. top) (λ who. (all_below who).tick) (λ who. (all_below who).pos) (λ who. top_low) (record {
        accepted = going.accepted;
        own = going.own;
        invariant = going.invariant;
        sources_are = going.sources_are;
        jobs_are = jobs_are;
        floors_know = going.floors_know;
        shown = going.shown;
        low = record {
          newest = going.low.newest;
          of_each = going.low.of_each;
          of_jobs = λ who a. subst (λ (j : JobState). j.floor.tick ≤ count) (job_is who a) (going.low.of_jobs who a);
          of_actors = going.low.of_actors;
        };
        near = going.near;
      })
