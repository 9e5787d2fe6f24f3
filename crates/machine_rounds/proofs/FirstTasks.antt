-- The tasks of a burst before anything is done: whose each is, and that no two are of one actor.
use Rattle.std.proofs.Common.{◌≡◌, ◌≤◌, ◌<◌, ◌+◌, ◌++◌, ◌∙◌, ◌⊎◌, inl, inr, ℕ, zero, suc, Bool, true, false, ◌||◌, List, [], ◌∷◌, length, map, Some, None, slice_get, slice_index_or, cond, refl, sym, ap, subst, length-append, arith}
use Rattle.std.proofs.lemmas.List.{length-map}
use Rattle.sleep_model.specs.declared.entry.Actor.{Actor}
use Rattle.sleep_model.specs.declared.entry.Actor.TheVariants as actor
use Rattle.sleep_model.specs.declared.entry.JournalEntry.{JournalEntry}
use Rattle.sleep_model.specs.declared.machine.Machine.{Machine}
use Rattle.sleep_model.specs.declared.word.Stamp.{Stamp}
use Rattle.sleep_model.specs.Path.{is_same}
use Rattle.sleep_core.specs.Cores.{IsActor}
use Rattle.sleep_script.specs.Jobs.{JobState, first_timer, later, raised, raised_timer}
use Rattle.wakeup_source.specs.SourceStates.{SourceState}
use Rattle.run_laws.proofs.Calling.{same_actor}
use Rattle.run_laws.proofs.Acts.{actor_is}
use Rattle.running_laws.specs.Running.{AreJobs, IsGoing, IsRunning, entry_count}
use Rattle.running_laws.proofs.Turns as turns
use Rattle.run_world.specs.declared.task.Task.{Task}
use Rattle.run_world.specs.declared.task.Task.TheVariants as task
use Rattle.run_world.specs.Acts.{actor_of, known_by}
use Rattle.running_laws.specs.Courses.{HaveDistinctActors, AreTasks, GoesOnAt, IsTaskOf, has_task, lists_of}
use Rattle.machine_rounds.specs.JobsOf.{AreAllJobs, JobsState, job_at}
use Rattle.machine_rounds.specs.TasksOf.{acts, all_tasks, timers}

-- ---- lists

-- what is at an index of two lists, one after the other
pub get_contents : {A : Type 0} (xs ys : List A) (k : ℕ) (t : A) → slice_get (xs ++ ys) k ≡ Some t
    → ((k < length xs) × (slice_get xs k ≡ Some t)) ⊎ ((j : ℕ) × (k ≡ length xs + j) × (slice_get ys j ≡ Some t))
get_contents [] ys k t e = inr (k, omega arith, e)
get_contents (x ∷ xs) ys zero t e = inl (omega arith, e)
get_contents {A} (x ∷ xs) ys (suc k) t e = more (get_contents xs ys k t e)
  where
    more : ((k < length xs) × (slice_get xs k ≡ Some t)) ⊎ ((j : ℕ) × (k ≡ length xs + j) × (slice_get ys j ≡ Some t))
        → ((suc k < length (x ∷ xs)) × (slice_get (x ∷ xs) (suc k) ≡ Some t)) ⊎ ((j : ℕ) × (suc k ≡ length (x ∷ xs) + j) × (slice_get ys j ≡ Some t))
    more (inl h) = inl (omega (arith, h.0), h.1)
    more (inr h) = inr (h.0, omega (arith, h.1), h.2)

-- what is in the first list, and what is after it
pub get_front : {A : Type 0} (xs ys : List A) (k : ℕ) (t : A) → slice_get xs k ≡ Some t → slice_get (xs ++ ys) k ≡ Some t
get_front [] ys k t e = absurd (let bad : None ≡ Some t = e in cc)
get_front (x ∷ xs) ys zero t e = e
get_front (x ∷ xs) ys (suc k) t e = get_front xs ys k t e

pub get_after : {A : Type 0} (xs ys : List A) (j : ℕ) (t : A) → slice_get ys j ≡ Some t → slice_get (xs ++ ys) (length xs + j) ≡ Some t
get_after [] ys j t e = subst (λ (n : ℕ). slice_get ys n ≡ Some t) (let is : j ≡ 0 + j = omega arith in is) e
get_after (x ∷ xs) ys j t e =
    subst (λ (n : ℕ). slice_get (x ∷ xs ++ ys) n ≡ Some t) (let is : suc (length xs + j) ≡ length (x ∷ xs) + j = omega arith in is) (get_after xs ys j t e)

-- what is in a mapped list is the image of what is in the list
pub get_image : {A B : Type 0} (f : A → B) (xs : List A) (k : ℕ) (d : A) (t : B) → slice_get (map f xs) k ≡ Some t → (k < length xs) × (t ≡ f (slice_index_or xs k d))
get_image f [] k d t e = absurd (let bad : None ≡ Some t = e in cc)
get_image f (x ∷ xs) zero d t e = (omega arith, (let same : Some t ≡ Some (f x) = sym e in cc))
get_image f (x ∷ xs) (suc k) d t e = let h = get_image f xs k d t e in (omega (arith, h.0), h.1)

pub get_mapped : {A B : Type 0} (f : A → B) (xs : List A) (k : ℕ) (d : A) → k < length xs → slice_get (map f xs) k ≡ Some (f (slice_index_or xs k d))
get_mapped f [] k d l = absurd (omega arith)
get_mapped f (x ∷ xs) zero d l = refl
get_mapped f (x ∷ xs) (suc k) d l = get_mapped f xs k d (omega (arith, l))

-- ---- whose each is

pub timers_long : (floor : Stamp) (n : ℕ) → length (timers floor n) ≡ n
timers_long floor zero = refl
timers_long floor (suc n) = length-append (timers floor n) (task.Fires (raised_timer floor (first_timer n)) ∷ []) ∙ omega (arith, timers_long floor n)

get_timer : (floor : Stamp) (n k : ℕ) (t : Task) → slice_get (timers floor n) k ≡ Some t → (k < n) × (t ≡ task.Fires (raised_timer floor (first_timer k)))
get_timer floor zero k t e = absurd (let bad : None ≡ Some t = e in cc)
get_timer floor (suc n) k t e = by (λ f. get_timer floor n k t f) (get_contents (timers floor n) (task.Fires (raised_timer floor (first_timer n)) ∷ []) k t e)
  where
    last : (j : ℕ) → k ≡ length (timers floor n) + j → slice_get (task.Fires (raised_timer floor (first_timer n)) ∷ []) j ≡ Some t → (k < suc n) × (t ≡ task.Fires (raised_timer floor (first_timer k)))
    last zero is f =
        let here : n ≡ k = omega (arith, is, timers_long floor n) in
        let same : Some (task.Fires (raised_timer floor (first_timer n))) ≡ Some t = f in
        (omega (arith, here), subst (λ (i : ℕ). t ≡ task.Fires (raised_timer floor (first_timer i))) here (let one : t ≡ task.Fires (raised_timer floor (first_timer n)) = cc in one))
    last (suc j) is f = absurd (let bad : None ≡ Some t = f in cc)

    by : (slice_get (timers floor n) k ≡ Some t → (k < n) × (t ≡ task.Fires (raised_timer floor (first_timer k))))
        → ((k < length (timers floor n)) × (slice_get (timers floor n) k ≡ Some t)) ⊎ ((j : ℕ) × (k ≡ length (timers floor n) + j) × (slice_get (task.Fires (raised_timer floor (first_timer n)) ∷ []) j ≡ Some t))
        → (k < suc n) × (t ≡ task.Fires (raised_timer floor (first_timer k)))
    by before (inl h) = let g = before h.1 in (omega (arith, g.0), g.1)
    by before (inr h) = last h.0 h.1 h.2

-- a task at its index, by the jobs and the number of sources
pub data IsTaskAt (floor : Stamp) (n : ℕ) (jobs : JobsState) : ℕ → Task → Type 0 where
  OfScript : (i : ℕ) → i < length jobs.scripts → IsTaskAt floor n jobs i (acts floor (slice_index_or jobs.scripts i jobs.auto))
  OfWork : IsTaskAt floor n jobs (length jobs.scripts) (acts floor jobs.auto)
  OfDevice : (d : ℕ) → d < length jobs.devices → IsTaskAt floor n jobs (length jobs.scripts + suc d) (acts floor (slice_index_or jobs.devices d jobs.auto))
  OfTimer : (s : ℕ) → s < n → IsTaskAt floor n jobs (length jobs.scripts + suc (length jobs.devices + s)) (task.Fires (raised_timer floor (first_timer s)))

module _ (floor : Stamp) (n : ℕ) (jobs : JobsState) where
  abbrev tasks : List Task
  tasks = all_tasks floor n jobs

  abbrev scripts : List Task
  scripts = map (acts floor) jobs.scripts

  abbrev behind : List Task
  behind = map (acts floor) jobs.devices ++ timers floor n

  pub is_at : (k : ℕ) (t : Task) → slice_get tasks k ≡ Some t → IsTaskAt floor n jobs k t
  is_at k t e = by (get_contents scripts (acts floor jobs.auto ∷ behind) k t e)
    where
      at : (j : ℕ) (u : Task) → k ≡ j → t ≡ u → IsTaskAt floor n jobs j u → IsTaskAt floor n jobs k t
      at j u place is h = subst (λ (i : ℕ). IsTaskAt floor n jobs i t) (sym place) (subst (IsTaskAt floor n jobs j) (sym is) h)

      many : length scripts ≡ length jobs.scripts
      many = length-map jobs.scripts (acts floor)

      last : (j : ℕ) → k ≡ length scripts + suc j → ((j < length (map (acts floor) jobs.devices)) × (slice_get (map (acts floor) jobs.devices) j ≡ Some t))
          ⊎ ((i : ℕ) × (j ≡ length (map (acts floor) jobs.devices) + i) × (slice_get (timers floor n) i ≡ Some t)) → IsTaskAt floor n jobs k t
      last j place (inl h) =
          let g = get_image (acts floor) jobs.devices j jobs.auto t h.1 in
          at (length jobs.scripts + suc j) (acts floor (slice_index_or jobs.devices j jobs.auto)) (omega (arith, place, many)) g.1 (OfDevice j g.0)
      last j place (inr h) =
          let g = get_timer floor n h.0 t h.2 in
          at (length jobs.scripts + suc (length jobs.devices + h.0)) (task.Fires (raised_timer floor (first_timer h.0)))
          (omega (arith, place, many, h.1, length-map jobs.devices (acts floor))) g.1 (OfTimer h.0 g.0)

      rest : (j : ℕ) → k ≡ length scripts + j → slice_get (acts floor jobs.auto ∷ behind) j ≡ Some t → IsTaskAt floor n jobs k t
      rest zero place f = at (length jobs.scripts) (acts floor jobs.auto) (omega (arith, place, many)) (let same : Some t ≡ Some (acts floor jobs.auto) = sym f in cc) OfWork
      rest (suc j) place f = last j place (get_contents (map (acts floor) jobs.devices) (timers floor n) j t f)

      by : ((k < length scripts) × (slice_get scripts k ≡ Some t)) ⊎ ((j : ℕ) × (k ≡ length scripts + j) × (slice_get (acts floor jobs.auto ∷ behind) j ≡ Some t)) → IsTaskAt floor n jobs k t
      by (inl h) = let g = get_image (acts floor) jobs.scripts k jobs.auto t h.1 in at k (acts floor (slice_index_or jobs.scripts k jobs.auto)) refl g.1 (OfScript k g.0)
      by (inr h) = rest h.0 h.1 h.2

-- ---- they are a run's

-- what an actor with one of these tasks knows, else that stamp
abbrev pub known_among : Stamp → List Task → Actor → Stamp
known_among floor [] who = floor
known_among floor (t ∷ tasks) who = cond (is_same (actor_of t) who) (known_by t) (known_among floor tasks who)

-- a stamp is at most another, number by number
pub record IsBelow (one other : Stamp) : Type 0 where
  pub tick : one.tick ≤ other.tick
  pub pos : one.pos ≤ other.pos

pub below_later : (one other : Stamp) → IsBelow one (later one other)
below_later one other = record { tick = omega arith; pos = omega arith }

-- if no task is the actor's it knows that stamp
pub known_else : (floor : Stamp) (tasks : List Task) (who : Actor) → has_task tasks who ≡ false → known_among floor tasks who ≡ floor
known_else floor [] who h = refl
known_else floor (t ∷ tasks) who h = by (is_same (actor_of t) who) refl h (λ g. known_else floor tasks who g)
  where
    by : (b : Bool) → is_same (actor_of t) who ≡ b → (is_same (actor_of t) who || has_task tasks who) ≡ false → (has_task tasks who ≡ false → known_among floor tasks who ≡ floor)
        → known_among floor (t ∷ tasks) who ≡ floor
    by true is g rest = absurd (let bad : true ≡ false = ap (λ (b : Bool). b || has_task tasks who) (sym is) ∙ g in cc)
    by false is g rest = ap (λ (b : Bool). cond b (known_by t) (known_among floor tasks who)) is ∙ rest (ap (λ (b : Bool). b || has_task tasks who) (sym is) ∙ g)

-- if it is some task's, it knows what that task knows
pub known_some : (floor : Stamp) (tasks : List Task) (who : Actor) → has_task tasks who ≡ true
    → (k : ℕ) × (t : Task) × (slice_get tasks k ≡ Some t) × (is_same (actor_of t) who ≡ true) × (known_among floor tasks who ≡ known_by t)
known_some floor [] who h = absurd (let bad : false ≡ true = h in cc)
known_some floor (t ∷ tasks) who h = by (is_same (actor_of t) who) refl h (λ g. known_some floor tasks who g)
  where
    by : (b : Bool) → is_same (actor_of t) who ≡ b → (is_same (actor_of t) who || has_task tasks who) ≡ true
        → (has_task tasks who ≡ true → (k : ℕ) × (u : Task) × (slice_get tasks k ≡ Some u) × (is_same (actor_of u) who ≡ true) × (known_among floor tasks who ≡ known_by u))
        → (k : ℕ) × (u : Task) × (slice_get (t ∷ tasks) k ≡ Some u) × (is_same (actor_of u) who ≡ true) × (known_among floor (t ∷ tasks) who ≡ known_by u)
    by true is g more = (0, t, refl, is, ap (λ (b : Bool). cond b (known_by t) (known_among floor tasks who)) is)
    by false is g more =
        let rest = more (ap (λ (b : Bool). b || has_task tasks who) (sym is) ∙ g) in
        (suc rest.0, rest.1, rest.2, rest.3, ap (λ (b : Bool). cond b (known_by t) (known_among floor tasks who)) is ∙ rest.4)

same_self : (who : Actor) → is_same who who ≡ true
same_self who = same_actor who

or_true : (b : Bool) → (b || true) ≡ true
or_true true = refl
or_true false = refl

-- a task that is there is found
pub has_there : (tasks : List Task) (k : ℕ) (t : Task) (who : Actor) → slice_get tasks k ≡ Some t → is_same (actor_of t) who ≡ true → has_task tasks who ≡ true
has_there [] k t who e is = absurd (let bad : None ≡ Some t = e in cc)
has_there (u ∷ tasks) zero t who e is =
    let same : Some u ≡ Some t = e in
    ap (λ (b : Bool). b || has_task tasks who) (ap (λ (x : Task). is_same (actor_of x) who) (let one : u ≡ t = cc in one) ∙ is)
has_there (u ∷ tasks) (suc k) t who e is =
    ap (λ (b : Bool). is_same (actor_of u) who || b) (has_there tasks k t who e is) ∙ or_true (is_same (actor_of u) who)

module _ (m : Machine) (floor : Stamp) (jobs : JobsState) (all : AreAllJobs m jobs) (named : (who : Actor) → IsActor m who → (job_at jobs who).who ≡ who) where
  abbrev many : ℕ
  many = length m.sources + 1

  abbrev these : List Task
  these = all_tasks floor many jobs

  -- the index of an actor's task
  place_of : Actor → ℕ
  place_of (actor.Script i) = i
  place_of actor.Auto = length jobs.scripts
  place_of (actor.Dev d) = length jobs.scripts + suc d
  place_of (actor.Timer s) = length jobs.scripts + suc (length jobs.devices + s)
  place_of actor.Time = 0

  its_place : (k : ℕ) (t : Task) → IsTaskAt floor many jobs k t → place_of (actor_of t) ≡ k
  unfolding place_of
  its_place k t (OfScript i l) = ap place_of (named (actor.Script i) (omega (arith, l, all.scripts)))
  its_place k t OfWork = ap place_of (named actor.Auto tt)
  its_place k t (OfDevice d l) = ap place_of (named (actor.Dev d) (omega (arith, l, all.devices)))
  its_place k t (OfTimer s l) = refl

  pub are_apart : HaveDistinctActors these
  are_apart j k t u e f is =
      sym (its_place j t (is_at floor many jobs j t e)) ∙ (ap place_of (actor_is (actor_of t) (actor_of u) is) ∙ its_place k u (is_at floor many jobs k u f))

  -- each actor's job knows at least that stamp
  abbrev pub ready_jobs : Actor → JobState
  ready_jobs who = raised floor (job_at jobs who)

  abbrev pub ready_floors : Actor → Stamp
  ready_floors who = known_among floor these who

  -- what a task's actor knows is what the task knows
  known_is : (k : ℕ) (t : Task) → slice_get these k ≡ Some t → ready_floors (actor_of t) ≡ known_by t
  known_is k t e =
      let some = known_some floor these (actor_of t) (has_there these k t (actor_of t) e (same_self (actor_of t))) in
      let place : some.0 ≡ k = are_apart some.0 k some.1 t some.2 e some.3 in
      let same : Some some.1 ≡ Some t = sym some.2 ∙ (ap (slice_get these) place ∙ e) in
      some.4 ∙ ap known_by (let is : some.1 ≡ t = cc in is)

  each_task : (k : ℕ) (t : Task) → IsTaskAt floor many jobs k t → ready_floors (actor_of t) ≡ known_by t → IsTaskOf m ready_jobs ready_floors t
  each_task k t (OfScript i l) known =
      let is = named (actor.Script i) (omega (arith, l, all.scripts)) in
      (subst (IsActor m) (sym is) (omega (arith, l, all.scripts)), ap ready_jobs is, known)
  each_task k t OfWork known = let is = named actor.Auto tt in (subst (IsActor m) (sym is) tt, ap ready_jobs is, known)
  each_task k t (OfDevice d l) known =
      let is = named (actor.Dev d) (omega (arith, l, all.devices)) in
      (subst (IsActor m) (sym is) (omega (arith, l, all.devices)), ap ready_jobs is, known)
  each_task k t (OfTimer s l) known = (omega (arith, l), known)

  pub are_tasks : AreTasks m ready_jobs ready_floors these
  are_tasks = record {
    each = λ k t e. each_task k t (is_at floor many jobs k t e) (known_is k t e);
    apart = are_apart;
  }

  -- each task knows at least that stamp
  knows_at_least : (k : ℕ) (t : Task) → IsTaskAt floor many jobs k t → IsBelow floor (known_by t)
  knows_at_least k t (OfScript i l) = below_later floor (slice_index_or jobs.scripts i jobs.auto).floor
  knows_at_least k t OfWork = below_later floor jobs.auto.floor
  knows_at_least k t (OfDevice d l) = below_later floor (slice_index_or jobs.devices d jobs.auto).floor
  knows_at_least k t (OfTimer s l) = below_later floor (first_timer s).floor

  pub all_know : (who : Actor) → IsBelow floor (ready_floors who)
  all_know who = by (has_task these who) refl
    where
      by : (b : Bool) → has_task these who ≡ b → IsBelow floor (ready_floors who)
      by false h = subst (IsBelow floor) (sym (known_else floor these who h)) (record { tick = omega arith; pos = omega arith })
      by true h =
          let some = known_some floor these who h in
          subst (IsBelow floor) (sym some.4) (knows_at_least some.0 some.1 (is_at floor many jobs some.0 some.1 some.2))

  -- no tick is above that number if neither that stamp's is nor a job's
  module _ (n : ℕ) (low : floor.tick ≤ n) (jobs_low : (who : Actor) → IsActor m who → (job_at jobs who).floor.tick ≤ n) where
    pub ready_low : (who : Actor) → IsActor m who → (ready_jobs who).floor.tick ≤ n
    ready_low who a = omega (arith, low, jobs_low who a)

    task_low : (k : ℕ) (t : Task) → IsTaskAt floor many jobs k t → (known_by t).tick ≤ n
    task_low k t (OfScript i l) = ready_low (actor.Script i) (omega (arith, l, all.scripts))
    task_low k t OfWork = ready_low actor.Auto tt
    task_low k t (OfDevice d l) = ready_low (actor.Dev d) (omega (arith, l, all.devices))
    task_low k t (OfTimer s l) = omega (arith, low)

    pub floors_low : (who : Actor) → (ready_floors who).tick ≤ n
    floors_low who = by (has_task these who) refl
      where
        by : (b : Bool) → has_task these who ≡ b → (ready_floors who).tick ≤ n
        by false h = subst (λ (s : Stamp). s.tick ≤ n) (sym (known_else floor these who h)) low
        by true h =
            let some = known_some floor these who h in
            subst (λ (s : Stamp). s.tick ≤ n) (sym some.4) (task_low some.0 some.1 (is_at floor many jobs some.0 some.1 some.2))

-- ---- at the beginning of the burst

module _ (m : Machine) (journal : List JournalEntry) (sources : List SourceState) (jobs : JobsState) (floor : Stamp) (all : AreAllJobs m jobs)
    (r : IsRunning m journal sources (job_at jobs) floor) where
  pub named : (who : Actor) → IsActor m who → (job_at jobs who).who ≡ who
  named who a = (r.jobs_are who a).actor_is

  jobs_are : AreJobs m journal sources (ready_jobs m floor jobs all named)
  jobs_are who a = let h = r.jobs_are who a in
      record { machine_is = h.machine_is; actor_is = h.actor_is; turns_are = h.turns_are; pending_is = h.pending_is; calls_are = h.calls_are; exited_is = h.exited_is; fits = h.fits }

  abbrev count : ℕ
  count = entry_count journal sources

  low : floor.tick ≤ count
  low = r.low.of_actors actor.Time

  told_jobs : IsGoing m journal sources (ready_jobs m floor jobs all named) (λ who. floor)
  told_jobs = record {
    accepted = r.accepted;
    own = r.own;
    invariant = r.invariant;
    sources_are = r.sources_are;
    jobs_are = jobs_are;
    floors_know = r.floors_know;
    shown = r.shown;
    low = record { newest = r.low.newest; of_each = r.low.of_each; of_jobs = ready_low m floor jobs all named count low r.low.of_jobs; of_actors = r.low.of_actors };
    near = r.near;
  }

  -- at first the run goes on with these tasks
  pub goes_on_first : GoesOnAt m (record { lists = lists_of journal sources; tasks = all_tasks floor (length m.sources + 1) jobs })
  goes_on_first = record {
    sources = sources;
    jobs = ready_jobs m floor jobs all named;
    floors = ready_floors m floor jobs all named;
    going = turns.raised m journal sources (ready_jobs m floor jobs all named) (λ who. floor) (ready_floors m floor jobs all named)
        (λ who. (all_know m floor jobs all named who).tick) (λ who. (all_know m floor jobs all named who).pos)
        (floors_low m floor jobs all named count low r.low.of_jobs) told_jobs;
    lists_are = λ s. ap (lists_of journal sources) (let is : 1 + s ≡ suc s = omega arith in is);
    tasks_are = are_tasks m floor jobs all named;
  }

  -- each actor knows then what its task knows
  pub floors_first : (who : Actor) → goes_on_first.floors who ≡ known_among floor (all_tasks floor (length m.sources + 1) jobs) who
  unfolding goes_on_first
  floors_first who = refl
