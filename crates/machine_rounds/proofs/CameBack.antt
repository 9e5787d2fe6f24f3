-- The tasks that came back from a burst: they are the same actors', and their jobs are the run's.
use Rattle.std.proofs.Common.{◌≡◌, ◌≤◌, ◌<◌, ◌+◌, ◌++◌, ◌∙◌, ℕ, zero, suc, Bool, ◌||◌, List, [], ◌∷◌, length, map, take, drop, append_assoc, length-append, refl, sym, ap, subst, arith}
use Rattle.sleep_model.specs.declared.entry.Actor.{Actor}
use Rattle.sleep_model.specs.declared.entry.Actor.TheVariants as actor
use Rattle.sleep_model.specs.declared.word.Stamp.{Stamp}
use Rattle.sleep_model.specs.Path.{is_same}
use Rattle.sleep_script.specs.Jobs.{JobState, first_timer, raised_timer}
use Rattle.turn_lock.specs.declared.view.Made.{Made}
use Rattle.run_laws.specs.Passes.{Noted}
use Rattle.run_world.specs.declared.task.Task.{Task}
use Rattle.run_world.specs.declared.task.Task.TheVariants as task
use Rattle.run_world.specs.Acts.{Calls, Does, Expires, Nothing, Plays, Turns, actor_of}
use Rattle.run_world.specs.Bursts.{AllPlayed}
use Rattle.running_laws.specs.Courses.{has_task}
use Rattle.machine_rounds.specs.JobsOf.{JobsState}
use Rattle.machine_rounds.specs.TasksOf.{AreJobsOf, acts, jobs_in, all_tasks, timers}

-- ---- the same actors'

-- a job is of the same actor, and a timer of the same source
abbrev pub SameTask : Task → Task → Type 0
SameTask (task.Acts old) (task.Acts new) = new.who ≡ old.who
SameTask (task.Fires old) (task.Fires new) = new.source ≡ old.source
SameTask (task.Acts old) (task.Fires new) = ⊥
SameTask (task.Fires old) (task.Acts new) = ⊥

same_task : (t : Task) → SameTask t t
same_task (task.Acts job) = refl
same_task (task.Fires timer) = refl

same_then : (a b c : Task) → SameTask a b → SameTask b c → SameTask a c
same_then (task.Acts a) (task.Acts b) (task.Acts c) h g = g ∙ h
same_then (task.Acts a) (task.Acts b) (task.Fires c) h g = g
same_then (task.Acts a) (task.Fires b) c h g = absurd h
same_then (task.Fires a) (task.Fires b) (task.Fires c) h g = g ∙ h
same_then (task.Fires a) (task.Fires b) (task.Acts c) h g = g
same_then (task.Fires a) (task.Acts b) c h g = absurd h

does_same : (n moment : ℕ) (old new : Task) (gains : List (Made Noted)) → Does n moment old gains new → SameTask old new
does_same n moment old new gains (Nothing t) = same_task t
does_same n moment old new gains (Turns job stamp k attempt g w r h) = refl
does_same n moment old new gains (Calls job s call stamp g l w r h) = refl
does_same n moment old new gains (Expires timer stamp g l h) = refl

plays_same : (n moment : ℕ) (old new : Task) (acts : List (List (Made Noted))) → Plays n moment old acts new → SameTask old new
plays_same n moment old new [] h = subst (SameTask old) (sym h) (same_task old)
plays_same n moment old new (gains ∷ acts) h = same_then old h.0 new (plays_same n moment old h.0 acts h.1) (does_same n moment h.0 new gains h.2)

abbrev pub SameTasks : List Task → List Task → Type 0
SameTasks [] [] = Unit {0}
SameTasks (old ∷ olds) (new ∷ news) = SameTask old new × SameTasks olds news
SameTasks [] (new ∷ news) = ⊥
SameTasks (old ∷ olds) [] = ⊥

pub all_same : (n moment : ℕ) (olds : List Task) (passes : List (List (Made Noted))) (news : List Task) → AllPlayed n moment olds passes news → SameTasks olds news
all_same n moment [] [] [] h = tt
all_same n moment [] [] (new ∷ news) h = absurd h
all_same n moment [] (made ∷ passes) news h = absurd h
all_same n moment (old ∷ olds) [] news h = absurd h
all_same n moment (old ∷ olds) (made ∷ passes) [] h = absurd h
all_same n moment (old ∷ olds) (made ∷ passes) (new ∷ news) h = (plays_same n moment old new h.0.0 h.0.2, all_same n moment olds passes news h.1)

same_actor_of : (old new : Task) → SameTask old new → actor_of new ≡ actor_of old
same_actor_of (task.Acts old) (task.Acts new) h = h
same_actor_of (task.Fires old) (task.Fires new) h = ap actor.Timer h
same_actor_of (task.Acts old) (task.Fires new) h = absurd h
same_actor_of (task.Fires old) (task.Acts new) h = absurd h

-- who has a task has one again
pub again : (olds news : List Task) (who : Actor) → SameTasks olds news → has_task news who ≡ has_task olds who
again [] [] who h = refl
again [] (new ∷ news) who h = absurd h
again (old ∷ olds) [] who h = absurd h
again (old ∷ olds) (new ∷ news) who h =
    ap (λ (b : Bool). is_same (actor_of new) who || b) (again olds news who h.1)
    ∙ ap (λ (a : Actor). is_same a who || has_task olds who) (same_actor_of old new h.0)

-- ---- jobs first, timers last

abbrev of_jobs : List JobState → List Task
of_jobs jobs = map (λ (job : JobState). task.Acts job) jobs

abbrev whos : List JobState → List Actor
whos jobs = map (λ (job : JobState). job.who) jobs

record IsSplit (floor : Stamp) (js : List JobState) (rest news : List Task) : Type 0 where
  jobs : List JobState
  last : List Task
  are : news ≡ of_jobs jobs ++ last
  same : whos jobs ≡ whos js
  rests : SameTasks rest last

split_jobs : (floor : Stamp) (js : List JobState) (rest news : List Task) → SameTasks (map (acts floor) js ++ rest) news → IsSplit floor js rest news
split_jobs floor [] rest news h = record { jobs = []; last = news; are = refl; same = refl; rests = h }
split_jobs floor (j ∷ js) rest [] h = absurd h
split_jobs floor (j ∷ js) rest (task.Fires t ∷ news) h = absurd h.0
split_jobs floor (j ∷ js) rest (task.Acts job ∷ news) h =
    let s = split_jobs floor js rest news h.1 in
    record {
      jobs = job ∷ s.jobs;
      last = s.last;
      are = ap (λ (l : List Task). task.Acts job ∷ l) s.are;
      same = ap (λ (who : Actor). who ∷ whos s.jobs) h.0 ∙ ap (λ (l : List Actor). j.who ∷ l) s.same;
      rests = s.rests;
    }

AreTimers : List Task → Type 0
AreTimers [] = Unit {0}
AreTimers (task.Acts job ∷ tasks) = ⊥
AreTimers (task.Fires t ∷ tasks) = AreTimers tasks

timers_more : (xs ys : List Task) → AreTimers xs → AreTimers ys → AreTimers (xs ++ ys)
unfolding AreTimers
timers_more [] ys h g = g
timers_more (task.Acts job ∷ xs) ys h g = absurd h
timers_more (task.Fires t ∷ xs) ys h g = timers_more xs ys h g

are_timers : (floor : Stamp) (n : ℕ) → AreTimers (timers floor n)
unfolding AreTimers
are_timers floor zero = tt
are_timers floor (suc n) = timers_more (timers floor n) (task.Fires (raised_timer floor (first_timer n)) ∷ []) (are_timers floor n) tt

no_jobs : (olds news : List Task) → AreTimers olds → SameTasks olds news → jobs_in news ≡ []
unfolding AreTimers
no_jobs [] [] t h = refl
no_jobs [] (new ∷ news) t h = absurd h
no_jobs (old ∷ olds) [] t h = absurd h
no_jobs (task.Acts old ∷ olds) (new ∷ news) t h = absurd t
no_jobs (task.Fires old ∷ olds) (task.Acts new ∷ news) t h = absurd h.0
no_jobs (task.Fires old ∷ olds) (task.Fires new ∷ news) t h = no_jobs olds news t h.1

jobs_front : (js : List JobState) (rest : List Task) → jobs_in (of_jobs js ++ rest) ≡ js ++ jobs_in rest
jobs_front [] rest = refl
jobs_front (j ∷ js) rest = ap (λ (l : List JobState). j ∷ l) (jobs_front js rest)

-- the tasks that came back are these jobs and timers
pub record CameBack (jobs : JobsState) (news : List Task) : Type 0 where
  pub back : JobsState
  pub last : List Task
  pub are : news ≡ of_jobs back.scripts ++ (task.Acts back.auto ∷ (of_jobs back.devices ++ last))
  pub jobs_are : jobs_in news ≡ back.scripts ++ (back.auto ∷ back.devices)
  pub scripts : whos back.scripts ≡ whos jobs.scripts
  pub auto : back.auto.who ≡ jobs.auto.who
  pub devices : whos back.devices ≡ whos jobs.devices

append_nothing : (js : List JobState) → js ++ [] ≡ js
append_nothing [] = refl
append_nothing (j ∷ js) = ap (λ (l : List JobState). j ∷ l) (append_nothing js)

pub came_back : (floor : Stamp) (n : ℕ) (jobs : JobsState) (news : List Task) → SameTasks (all_tasks floor n jobs) news → CameBack jobs news
came_back floor n jobs news h = second first.last first.are first.rests
  where
    first : IsSplit floor jobs.scripts (acts floor jobs.auto ∷ (map (acts floor) jobs.devices ++ timers floor n)) news
    first = split_jobs floor jobs.scripts (acts floor jobs.auto ∷ (map (acts floor) jobs.devices ++ timers floor n)) news h

    second : (rest : List Task) → news ≡ of_jobs first.jobs ++ rest → SameTasks (acts floor jobs.auto ∷ (map (acts floor) jobs.devices ++ timers floor n)) rest → CameBack jobs news
    second [] is g = absurd g
    second (task.Fires t ∷ rest) is g = absurd g.0
    second (task.Acts auto ∷ rest) is g =
        let d = split_jobs floor jobs.devices (timers floor n) rest g.1 in
        let all : news ≡ of_jobs first.jobs ++ (task.Acts auto ∷ (of_jobs d.jobs ++ d.last)) = is ∙ ap (λ (l : List Task). of_jobs first.jobs ++ (task.Acts auto ∷ l)) d.are in
        record {
          back = record { scripts = first.jobs; auto = auto; devices = d.jobs };
          last = d.last;
          are = all;
          jobs_are = ap jobs_in all ∙ (jobs_front first.jobs (task.Acts auto ∷ (of_jobs d.jobs ++ d.last))
              ∙ ap (λ (l : List JobState). first.jobs ++ (auto ∷ l)) (jobs_front d.jobs d.last ∙ (ap (λ (l : List JobState). d.jobs ++ l) (no_jobs (timers floor n) d.last (are_timers floor n) d.rests) ∙ append_nothing d.jobs)));
          scripts = first.same;
          auto = g.0;
          devices = d.same;
        }

-- ---- the jobs that are made of them

-- a list is split at an index in one way
one_way : (xs ys : List JobState) (x y : JobState) (us vs : List JobState) → length xs ≡ length ys → xs ++ (x ∷ us) ≡ ys ++ (y ∷ vs) → (xs ≡ ys) × (x ≡ y) × (us ≡ vs)
one_way [] [] x y us vs l e = (refl, cc, cc)
one_way [] (q ∷ ys) x y us vs l e = absurd (omega (arith, l))
one_way (p ∷ xs) [] x y us vs l e = absurd (omega (arith, l))
one_way (p ∷ xs) (q ∷ ys) x y us vs l e =
    let heads : p ≡ q = cc in
    let tails : xs ++ (x ∷ us) ≡ ys ++ (y ∷ vs) = cc in
    let rest = one_way xs ys x y us vs (omega (arith, l)) tails in
    ((let h = rest.0 in cc), rest.1, rest.2)

pub same_jobs : (all : List JobState) (n : ℕ) (a b : JobsState) → AreJobsOf all n a → AreJobsOf all n b → a ≡ b
same_jobs all n a b h g =
    let contents = one_way a.scripts b.scripts a.auto b.auto a.devices b.devices (h.count ∙ sym g.count) (sym h.are ∙ g.are) in
    λ i. record { scripts = contents.0 i; auto = contents.1 i; devices = contents.2 i }

split_at : (n : ℕ) (xs : List JobState) → xs ≡ take n xs ++ drop n xs
split_at zero xs = refl
split_at (suc n) [] = refl
split_at (suc n) (x ∷ xs) = ap (λ (l : List JobState). x ∷ l) (split_at n xs)

take_long : (n : ℕ) (xs : List JobState) → n ≤ length xs → length (take n xs) ≡ n
take_long zero xs l = refl
take_long (suc n) [] l = absurd (omega (arith, l))
take_long (suc n) (x ∷ xs) l = omega (arith, take_long n xs (omega (arith, l)))

-- the first of a list, one, and the rest
pub parts_of : (all first front last : List JobState) (auto : JobState) (n : ℕ) → n < length all → first ≡ take (n + 1) all → last ≡ drop (n + 1) all → first ≡ front ++ (auto ∷ [])
    → AreJobsOf all n (record { scripts = front; auto = auto; devices = last })
parts_of all first front last auto n l is_first is_last is = record {
  count = omega (arith, ap (λ (xs : List JobState). length xs) (sym is_first ∙ is), take_long (n + 1) all (omega (arith, l)), length-append front (auto ∷ []));
  are = split_at (n + 1) all ∙ (ap (λ (xs : List JobState). xs ++ drop (n + 1) all) (sym is_first ∙ is)
      ∙ (ap (λ (xs : List JobState). (front ++ (auto ∷ [])) ++ xs) (sym is_last) ∙ append_assoc front (auto ∷ []) last));
}
