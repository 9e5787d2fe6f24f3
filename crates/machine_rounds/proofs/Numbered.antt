-- Lists that a loop puts together, one more at its end.
use Rattle.std.proofs.Common.{◌≡◌, ◌+◌, ◌++◌, ◌∙◌, ℕ, zero, suc, List, [], ◌∷◌, length, take, slice_index_or, ◌<◌, refl, sym, ap, append_assoc, arith}
use Rattle.sleep_model.specs.declared.word.Stamp.{Stamp}
use Rattle.sleep_script.specs.Jobs.{JobState, later}
use Rattle.run_world.specs.declared.task.Task.{Task}
use Rattle.run_world.specs.declared.task.Task.TheVariants as task
use Rattle.run_world.specs.Acts.{known_by}
use Rattle.machine_rounds.specs.TasksOf.{highest, jobs_in}

-- one task more
pub jobs_more : (tasks : List Task) (job : JobState) → jobs_in (tasks ++ task.Acts job ∷ []) ≡ jobs_in tasks ++ job ∷ []
jobs_more [] job = refl
jobs_more (task.Acts j ∷ tasks) job = ap (λ (l : List JobState). j ∷ l) (jobs_more tasks job)
jobs_more (task.Fires t ∷ tasks) job = jobs_more tasks job

pub timer_more : (tasks : List Task) (t : Task) → ((job : JobState) → t ≡ task.Acts job → ⊥) → jobs_in (tasks ++ t ∷ []) ≡ jobs_in tasks
timer_more [] (task.Acts job) h = absurd (h job refl)
timer_more [] (task.Fires t) h = refl
timer_more (task.Acts j ∷ tasks) t h = ap (λ (l : List JobState). j ∷ l) (timer_more tasks t h)
timer_more (task.Fires u ∷ tasks) t h = timer_more tasks t h

-- one stamp more
pub highest_more : (floor : Stamp) (tasks : List Task) (i : ℕ) (t : Task) → i < length tasks → t ≡ slice_index_or tasks i t → highest floor (take (i + 1) tasks) ≡ later (known_by t) (highest floor (take i tasks))
highest_more floor [] i t l is = absurd (omega arith)
highest_more floor (u ∷ tasks) zero t l is = ap (λ (x : Task). later (known_by x) floor) (sym is)
highest_more floor (u ∷ tasks) (suc i) t l is =
    ap (λ (n : ℕ). highest floor (take n (u ∷ tasks))) (let same : suc i + 1 ≡ suc (i + 1) = omega arith in same)
    ∙ highest_more (later (known_by u) floor) tasks i t (omega (arith, l)) is
