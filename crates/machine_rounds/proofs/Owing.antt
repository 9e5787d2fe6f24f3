-- How many actors have a call to make.
use Rattle.std.proofs.Common.{◌≡◌, ◌≤◌, ◌<◌, ◌+◌, ◌^◌, ℕ, zero, suc, Bool, true, false, nat_lt, List, [], ◌∷◌, ◌++◌, ◌∙◌, length, slice_set, slice_index_or, take, refl, ap, sym, arith}
use Rattle.std.proofs.lemmas.Bool.Decides.{nat_tests}
use Rattle.std.proofs.lemmas.List.{length-set}
use Rattle.sleep_model.specs.declared.entry.Actor.{Actor}
use Rattle.sleep_model.specs.declared.entry.Actor.TheVariants as actor
use Rattle.sleep_model.specs.declared.entry.Kind.{Kind}
use Rattle.sleep_model.specs.declared.machine.Machine.{Machine}
use Rattle.sleep_model.specs.Places.{one_if}
use Rattle.sleep_script.specs.Jobs.{JobState, first_job}
use Rattle.std.specs.Bool.{OnTrue}
use Rattle.machine_rounds.specs.declared.jobs.Jobs.TheInside.{Inside}
use Rattle.machine_rounds.specs.JobsFields.{jobs, JobsInvariant}
use Rattle.machine_rounds.specs.JobsOf.{JobsState, owes, owing_of, owing, job_at, HasJob, with_job, first_jobs_of, OweNone}

one_at_most : (b : Bool) → one_if b ≤ 1
one_at_most true = omega arith
one_at_most false = omega arith

pub owing_few : (xs : List JobState) → owing_of xs ≤ length xs
owing_few [] = omega arith
owing_few (x ∷ xs) = omega (arith, one_at_most (owes x), owing_few xs)

owing_set : (xs : List JobState) (i : ℕ) (x none : JobState) → i < length xs → owing_of (slice_set xs i x) + one_if (owes (slice_index_or xs i none)) ≡ owing_of xs + one_if (owes x)
owing_set [] i x none l = absurd (omega (arith, l))
owing_set (y ∷ ys) zero x none l = omega arith
owing_set (y ∷ ys) (suc i) x none l = omega (arith, owing_set ys i x none (omega (arith, l)))

-- another job at an actor's index
pub owing_with : (jobs : JobsState) (who : Actor) (x : JobState) → HasJob jobs who → owing (with_job jobs who x) + one_if (owes (job_at jobs who)) ≡ owing jobs + one_if (owes x)
owing_with jobs (actor.Script i) x h = omega (arith, owing_set jobs.scripts i x jobs.auto h)
owing_with jobs actor.Auto x h = omega arith
owing_with jobs (actor.Dev d) x h = omega (arith, owing_set jobs.devices d x jobs.auto h)
owing_with jobs (actor.Timer s) x h = absurd h
owing_with jobs actor.Time x h = absurd h

-- a job that has none
pub owes_none : (job : JobState) → job.pending ≡ [] → one_if (owes job) ≡ 0
owes_none job e = ap (λ (xs : List Kind). one_if (nat_lt 0 (length xs))) e

pub owes_some : (job : JobState) → 0 < length job.pending → one_if (owes job) ≡ 1
owes_some job l = ap one_if (let yes : nat_lt 0 (length job.pending) ≡ true = grind (arith, nat_tests) in yes)

nothing_left : (xs : List Kind) → one_if (nat_lt 0 (length xs)) ≡ 0 → xs ≡ []
nothing_left [] e = refl
nothing_left (x ∷ xs) e =
    let yes : nat_lt 0 (length (x ∷ xs)) ≡ true = grind (arith, nat_tests) in
    absurd (omega (arith, e, ap one_if yes))

owing_at : (xs : List JobState) (i : ℕ) (none : JobState) → i < length xs → owing_of xs ≡ 0 → one_if (owes (slice_index_or xs i none)) ≡ 0
owing_at [] i none l e = absurd (omega (arith, l))
owing_at (y ∷ ys) zero none l e = omega (arith, e)
owing_at (y ∷ ys) (suc i) none l e = owing_at ys i none (omega (arith, l)) (omega (arith, e))

-- if nobody is counted nobody has one
pub none_owing : (jobs : JobsState) → owing jobs ≡ 0 → OweNone jobs
none_owing jobs e (actor.Script i) h = nothing_left (slice_index_or jobs.scripts i jobs.auto).pending (owing_at jobs.scripts i jobs.auto h (omega (arith, e)))
none_owing jobs e actor.Auto h = nothing_left jobs.auto.pending (omega (arith, e))
none_owing jobs e (actor.Dev d) h = nothing_left (slice_index_or jobs.devices d jobs.auto).pending (owing_at jobs.devices d jobs.auto h (omega (arith, e)))
none_owing jobs e (actor.Timer s) h = absurd h
none_owing jobs e actor.Time h = absurd h

-- ---- before anything was done

owing_last : (xs : List JobState) (x : JobState) → owing_of (xs ++ x ∷ []) ≡ owing_of xs + one_if (owes x)
owing_last [] x = omega arith
owing_last (y ∷ ys) x = omega (arith, owing_last ys x)

-- no device has a call to make
pub devices_owe_none : (m : Machine) (n : ℕ) → owing_of (first_jobs_of m actor.Dev n) ≡ 0
devices_owe_none m zero = refl
devices_owe_none m (suc n) = owing_last (first_jobs_of m actor.Dev n) (first_job m (actor.Dev n)) ∙ (ap (λ k. k + 0) (devices_owe_none m n))

-- ---- a job moves

-- one more of them is counted
pub owing_more : (xs : List JobState) (i : ℕ) (x : JobState) → i < length xs → x ≡ slice_index_or xs i x → owing_of (take (i + 1) xs) ≡ owing_of (take i xs) + one_if (owes x)
owing_more [] i x l e = absurd (omega (arith, l))
owing_more (y ∷ ys) zero x l e = omega (arith, ap (λ (j : JobState). one_if (owes j)) e)
owing_more (y ∷ ys) (suc i) x l e =
    let more : owing_of (take (suc i + 1) (y ∷ ys)) ≡ one_if (owes y) + owing_of (take (i + 1) ys) = ap (λ n. owing_of (take n (y ∷ ys))) (let next : suc i + 1 ≡ suc (i + 1) = omega arith in next) in
    omega (arith, more, owing_more ys i x (omega (arith, l)) e)

pub few_of : (xs : List JobState) (i : ℕ) → owing_of (take i xs) ≤ length xs
few_of [] zero = omega arith
few_of [] (suc i) = omega arith
few_of (y ∷ ys) zero = omega arith
few_of (y ∷ ys) (suc i) = omega (arith, one_at_most (owes y), few_of ys i)

-- there is room for one more
pub more_fits : (jobs : JobsState) (n : ℕ) → n ≡ owing jobs → length jobs.scripts < 2 ^ 30 → length jobs.devices < 2 ^ 30 → n + 1 < 2 ^ 32
more_fits jobs n is scripts devices = omega (arith, is, scripts, devices, owing_few jobs.scripts, owing_few jobs.devices, one_at_most (owes jobs.auto))

-- one that had no call to make has taken a turn
after_turn_counts : (jobs : JobsState) (who : Actor) (x : JobState) (n after : ℕ) (b : Bool) → HasJob jobs who → (job_at jobs who).pending ≡ [] → n ≡ owing jobs → b ≡ owes x → after ≡ n + one_if b → after ≡ owing (with_job jobs who x)
after_turn_counts jobs who x n after b h none is now more = omega (arith, owing_with jobs who x h, owes_none (job_at jobs who) none, is, ap one_if now, more)

-- one that had a call to make has made it
after_call_counts : (jobs : JobsState) (who : Actor) (x : JobState) (n after : ℕ) (b : Bool) → HasJob jobs who → 0 < length (job_at jobs who).pending → n ≡ owing jobs → b ≡ owes x → after + 1 ≡ n + one_if b → after ≡ owing (with_job jobs who x)
after_call_counts jobs who x n after b h some is now left = omega (arith, owing_with jobs who x h, owes_some (job_at jobs who) some, is, ap one_if now, left)

-- who has a job and is neither a script nor a device is the autosleep work
pub is_auto : (those : JobsState) (who : Actor) → HasJob those who → ((i : ℕ) → who ≡ actor.Script i → ⊥) → ((d : ℕ) → who ≡ actor.Dev d → ⊥) → who ≡ actor.Auto
is_auto those (actor.Script i) h script device = absurd (script i refl)
is_auto those actor.Auto h script device = refl
is_auto those (actor.Dev d) h script device = absurd (device d refl)
is_auto those (actor.Timer s) h script device = absurd h
is_auto those actor.Time h script device = absurd h

many_scripts : (those : JobsState) (who : Actor) (x : JobState) → length (with_job those who x).scripts ≡ length those.scripts
many_scripts those (actor.Script i) x = length-set those.scripts i x
many_scripts those actor.Auto x = refl
many_scripts those (actor.Dev d) x = refl
many_scripts those (actor.Timer s) x = refl
many_scripts those actor.Time x = refl

many_devices : (those : JobsState) (who : Actor) (x : JobState) → length (with_job those who x).devices ≡ length those.devices
many_devices those (actor.Script i) x = refl
many_devices those actor.Auto x = refl
many_devices those (actor.Dev d) x = length-set those.devices d x
many_devices those (actor.Timer s) x = refl
many_devices those actor.Time x = refl

-- counted anew the jobs are as they are to be
counted : (was : Inside) (who : Actor) (job : JobState) (now : JobsState) (n : ℕ) → JobsInvariant was → now ≡ with_job was.actors who job → n ≡ owing (with_job was.actors who job) → JobsInvariant (record { actors = now; owing = n })
counted was who job now n k is e = record {
  few_scripts = omega (arith, ap (λ (those : JobsState). length those.scripts) is, many_scripts was.actors who job, k.few_scripts);
  few_devices = omega (arith, ap (λ (those : JobsState). length those.devices) is, many_devices was.actors who job, k.few_devices);
  owing_is = e ∙ ap owing (sym is);
}

-- after a turn of one that had no call to make
pub turn_counted : (was : Inside) (who : Actor) (job : JobState) (now : JobsState) (shown : Bool) (n : ℕ) → HasJob was.actors who → (job_at was.actors who).pending ≡ [] → JobsInvariant was
    → now ≡ with_job was.actors who job → shown ≡ owes job → n ≡ was.owing + one_if shown → JobsInvariant (record { actors = now; owing = n })
turn_counted was who job now shown n h none k is owes_is more =
    counted was who job now n k is (after_turn_counts was.actors who job was.owing n shown h none k.owing_is owes_is more)

-- after a call of one that had it to make
pub call_counted : (was : Inside) (who : Actor) (job : JobState) (now : JobsState) (shown : Bool) (n : ℕ) → HasJob was.actors who → 0 < length (job_at was.actors who).pending → JobsInvariant was
    → now ≡ with_job was.actors who job → shown ≡ owes job → n + 1 ≡ was.owing + one_if shown → JobsInvariant (record { actors = now; owing = n })
call_counted was who job now shown n h some k is owes_is left =
    counted was who job now n k is (after_call_counts was.actors who job was.owing n shown h some k.owing_is owes_is left)

owing_least : (xs : List JobState) (i : ℕ) (none : JobState) → i < length xs → one_if (owes (slice_index_or xs i none)) ≤ owing_of xs
owing_least [] i none l = absurd (omega (arith, l))
owing_least (y ∷ ys) zero none l = omega arith
owing_least (y ∷ ys) (suc i) none l = omega (arith, owing_least ys i none (omega (arith, l)))

-- if one has a call to make somebody is counted
pub some_owing : (jobs : JobsState) (who : Actor) (n : ℕ) → HasJob jobs who → 0 < length (job_at jobs who).pending → n ≡ owing jobs → 0 < n
some_owing jobs (actor.Script i) n h some is = omega (arith, owing_least jobs.scripts i jobs.auto h, owes_some (slice_index_or jobs.scripts i jobs.auto) some, is)
some_owing jobs actor.Auto n h some is = omega (arith, owes_some jobs.auto some, is)
some_owing jobs (actor.Dev d) n h some is = omega (arith, owing_least jobs.devices d jobs.auto h, owes_some (slice_index_or jobs.devices d jobs.auto) some, is)
some_owing jobs (actor.Timer s) n h some is = absurd h
some_owing jobs actor.Time n h some is = absurd h

-- what a test of none says
pub none_told : (jobs : JobsState) (n : ℕ) (b : Bool) → n ≡ owing jobs → (b ≡ true → n ≡ 0) → OnTrue b (OweNone jobs)
none_told jobs n true is h = none_owing jobs (omega (arith, is, h refl))
none_told jobs n false is h = tt
