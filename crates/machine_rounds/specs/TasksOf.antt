-- The jobs of a run's actors and the timers of its sources as the tasks of a burst.
use Rattle.std.specs.Prelude.{◌≡◌, ℕ, zero, suc, List, [], ◌∷◌, ◌++◌, length, map}
use Rattle.sleep_model.specs.declared.word.Stamp.{Stamp}
use Rattle.sleep_script.specs.Jobs.{JobState, first_timer, later, raised, raised_timer}
use Rattle.run_world.specs.declared.task.Task.{Task}
use Rattle.run_world.specs.declared.task.Task.TheVariants as task
use Rattle.run_world.specs.Acts.{known_by}
use Rattle.machine_rounds.specs.JobsOf.{JobsState}

-- the task of a job that knows at least that stamp
abbrev pub acts : Stamp → JobState → Task
acts floor job = task.Acts (raised floor job)

-- the tasks of the timers of the first n sources
abbrev pub timers : Stamp → ℕ → List Task
timers floor zero = []
timers floor (suc n) = timers floor n ++ task.Fires (raised_timer floor (first_timer n)) ∷ []

-- all tasks: of the scripts, of autosleep's work, of the devices, and of the timers
abbrev pub all_tasks : Stamp → ℕ → JobsState → List Task
all_tasks floor sources jobs =
    map (acts floor) jobs.scripts ++ (acts floor jobs.auto ∷ (map (acts floor) jobs.devices ++ timers floor sources))

-- the jobs among tasks, in order
abbrev pub jobs_in : List Task → List JobState
jobs_in [] = []
jobs_in (task.Acts job ∷ tasks) = job ∷ jobs_in tasks
jobs_in (task.Fires timer ∷ tasks) = jobs_in tasks

-- a list of jobs is that of these, the first n of them scripts'
pub record AreJobsOf (all : List JobState) (scripts : ℕ) (jobs : JobsState) : Type 0 where
  pub count : length jobs.scripts ≡ scripts
  pub are : all ≡ jobs.scripts ++ (jobs.auto ∷ jobs.devices)

-- the greatest stamp of these tasks and of that one
abbrev pub highest : Stamp → List Task → Stamp
highest floor [] = floor
highest floor (t ∷ tasks) = highest (later (known_by t) floor) tasks
