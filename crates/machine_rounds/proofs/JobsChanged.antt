-- The jobs of a run's actors, one of which is another.
use Rattle.std.proofs.Common.{◌≡◌, ◌<◌, ◌++◌, ◌∙◌, ℕ, zero, suc, Bool, true, false, ◌==◌, List, [], ◌∷◌, length, slice_index_or, refl, sym, ap, length-append, arith}
use Rattle.std.proofs.lemmas.Bool.{true≢false}
use Rattle.std.proofs.lemmas.Bool.Decides.{nat_tests}
use Rattle.std.proofs.lemmas.List.{length-set}
use Rattle.sleep_model.specs.declared.entry.Actor.{Actor}
use Rattle.sleep_model.specs.declared.entry.Actor.TheVariants as actor
use Rattle.sleep_model.specs.declared.machine.Machine.{Machine}
use Rattle.sleep_model.specs.Path.{is_same}
use Rattle.sleep_core.specs.Cores.{IsActor}
use Rattle.sleep_script.specs.Jobs.{JobState, first_job}
use Rattle.running_laws.specs.Running.{IsWith}
use Rattle.running_laws.proofs.Lists.{set_other, set_same}
use Rattle.machine_rounds.specs.JobsOf.{AreAllJobs, JobsState, job_at, HasJob, with_job, first_jobs_of, first_jobs}

-- ---- lists

pub any_default : {A : Type 0} (xs : List A) (i : ℕ) (d e : A) → i < length xs → slice_index_or xs i d ≡ slice_index_or xs i e
any_default [] i d e l = absurd (omega arith)
any_default (y ∷ ys) zero d e l = refl
any_default (y ∷ ys) (suc i) d e l = any_default ys i d e (omega (arith, l))

last_of : {A : Type 0} (xs : List A) (x d : A) → slice_index_or (xs ++ x ∷ []) (length xs) d ≡ x
last_of [] x d = refl
last_of (y ∷ ys) x d = last_of ys x d

before_last : {A : Type 0} (xs : List A) (x d : A) (i : ℕ) → i < length xs → slice_index_or (xs ++ x ∷ []) i d ≡ slice_index_or xs i d
before_last [] x d i l = absurd (omega arith)
before_last (y ∷ ys) x d zero l = refl
before_last (y ∷ ys) x d (suc i) l = before_last ys x d i (omega (arith, l))

-- ---- an actor's job

-- an actor of the machine has a job
pub has_job : (m : Machine) (jobs : JobsState) (who : Actor) → AreAllJobs m jobs → IsActor m who → HasJob jobs who
has_job m jobs (actor.Script i) h a = omega (arith, a, h.scripts)
has_job m jobs actor.Auto h a = tt
has_job m jobs (actor.Dev d) h a = omega (arith, a, h.devices)
has_job m jobs (actor.Timer s) h a = absurd a
has_job m jobs actor.Time h a = absurd a

-- ---- one job anew

job_same : (jobs : JobsState) (who : Actor) (x : JobState) → HasJob jobs who → job_at (with_job jobs who x) who ≡ x
job_same jobs (actor.Script i) x h = set_same jobs.scripts i x jobs.auto h
job_same jobs actor.Auto x h = refl
job_same jobs (actor.Dev d) x h = set_same jobs.devices d x jobs.auto h
job_same jobs (actor.Timer s) x h = absurd h
job_same jobs actor.Time x h = absurd h

job_other : (jobs : JobsState) (who other : Actor) (x : JobState) → HasJob jobs who → HasJob jobs other → is_same who other ≡ false → job_at (with_job jobs who x) other ≡ job_at jobs other
job_other jobs (actor.Script i) (actor.Script j) x g h e = set_other jobs.scripts i j x jobs.auto e
job_other jobs (actor.Script i) actor.Auto x g h e = refl
job_other jobs (actor.Script i) (actor.Dev d) x g h e = refl
job_other jobs actor.Auto (actor.Script j) x g h e = any_default jobs.scripts j x jobs.auto h
job_other jobs actor.Auto actor.Auto x g h e = absurd (true≢false e)
job_other jobs actor.Auto (actor.Dev d) x g h e = any_default jobs.devices d x jobs.auto h
job_other jobs (actor.Dev c) (actor.Script j) x g h e = refl
job_other jobs (actor.Dev c) actor.Auto x g h e = refl
job_other jobs (actor.Dev c) (actor.Dev d) x g h e = set_other jobs.devices c d x jobs.auto e
job_other jobs (actor.Timer s) other x g h e = absurd g
job_other jobs actor.Time other x g h e = absurd g
job_other jobs who (actor.Timer s) x g h e = absurd h
job_other jobs who actor.Time x g h e = absurd h

scripts_len : (jobs : JobsState) (who : Actor) (x : JobState) → length (with_job jobs who x).scripts ≡ length jobs.scripts
scripts_len jobs (actor.Script i) x = length-set jobs.scripts i x
scripts_len jobs actor.Auto x = refl
scripts_len jobs (actor.Dev d) x = refl
scripts_len jobs (actor.Timer s) x = refl
scripts_len jobs actor.Time x = refl

devices_len : (jobs : JobsState) (who : Actor) (x : JobState) → length (with_job jobs who x).devices ≡ length jobs.devices
devices_len jobs (actor.Script i) x = refl
devices_len jobs actor.Auto x = refl
devices_len jobs (actor.Dev d) x = length-set jobs.devices d x
devices_len jobs (actor.Timer s) x = refl
devices_len jobs actor.Time x = refl

-- another at its index leaves the others'
pub jobs_with : (m : Machine) (jobs : JobsState) (who : Actor) (x : JobState) → AreAllJobs m jobs → IsActor m who → IsWith m (job_at jobs) (job_at (with_job jobs who x)) who x
jobs_with m jobs who x h a = record {
  same = job_same jobs who x (has_job m jobs who h a);
  others = λ other b apart. job_other jobs who other x (has_job m jobs who h a) (has_job m jobs other h b) apart;
}

pub all_jobs_with : (m : Machine) (jobs : JobsState) (who : Actor) (x : JobState) → AreAllJobs m jobs → AreAllJobs m (with_job jobs who x)
all_jobs_with m jobs who x h = record { scripts = scripts_len jobs who x ∙ h.scripts; devices = devices_len jobs who x ∙ h.devices }

-- a timer has none
pub not_timer : (m : Machine) (s : ℕ) (who : Actor) → IsActor m who → is_same (actor.Timer s) who ≡ false
not_timer m s (actor.Script i) a = refl
not_timer m s actor.Auto a = refl
not_timer m s (actor.Dev d) a = refl
not_timer m s (actor.Timer t) a = absurd a
not_timer m s actor.Time a = absurd a

-- ---- at first

pub first_len : (m : Machine) (kind : ℕ → Actor) (n : ℕ) → length (first_jobs_of m kind n) ≡ n
first_len m kind zero = refl
first_len m kind (suc n) = omega (arith, length-append (first_jobs_of m kind n) (first_job m (kind n) ∷ []), first_len m kind n)

first_at : (m : Machine) (kind : ℕ → Actor) (n i : ℕ) (d : JobState) → i < n → slice_index_or (first_jobs_of m kind n) i d ≡ first_job m (kind i)
first_at m kind zero i d l = absurd (omega arith)
first_at m kind (suc n) i d l = by_last (i == n) refl (λ k. first_at m kind n i d k)
  where
    by_last : (b : Bool) → (i == n) ≡ b → (i < n → slice_index_or (first_jobs_of m kind n) i d ≡ first_job m (kind i)) → slice_index_or (first_jobs_of m kind n ++ first_job m (kind n) ∷ []) i d ≡ first_job m (kind i)
    by_last true e before =
        let same : i ≡ n = grind (arith, nat_tests) in
        let here : i ≡ length (first_jobs_of m kind n) = same ∙ sym (first_len m kind n) in
        ap (λ k. slice_index_or (first_jobs_of m kind n ++ first_job m (kind n) ∷ []) k d) here ∙ (last_of (first_jobs_of m kind n) (first_job m (kind n)) d ∙ ap (λ k. first_job m (kind k)) (sym same))
    by_last false e before =
        let within : i < n = grind (arith, nat_tests) in
        before_last (first_jobs_of m kind n) (first_job m (kind n)) d i (omega (arith, within, first_len m kind n)) ∙ before within

pub job_first : (m : Machine) (who : Actor) → IsActor m who → job_at (first_jobs m) who ≡ first_job m who
job_first m (actor.Script i) a = first_at m actor.Script (length m.actors) i (first_job m actor.Auto) a
job_first m actor.Auto a = refl
job_first m (actor.Dev d) a = first_at m actor.Dev (length m.devices) d (first_job m actor.Auto) a
job_first m (actor.Timer s) a = absurd a
job_first m actor.Time a = absurd a

pub all_jobs_first : (m : Machine) → AreAllJobs m (first_jobs m)
all_jobs_first m = record { scripts = first_len m actor.Script (length m.actors); devices = first_len m actor.Dev (length m.devices) }
