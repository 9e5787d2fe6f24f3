-- Tasks, one of which went on.
use Rattle.std.proofs.Common.{◌≡◌, ◌∙◌, ℕ, zero, suc, Bool, true, false, ◌||◌, ◌==◌, List, [], ◌∷◌, Some, slice_get, slice_set, refl, sym, ap, subst, arith}
use Rattle.std.proofs.lemmas.Bool.Decides.{nat_tests}
use Rattle.sleep_model.specs.declared.entry.Actor.{Actor}
use Rattle.sleep_model.specs.declared.machine.Machine.{Machine}
use Rattle.sleep_model.specs.declared.word.Stamp.{Stamp}
use Rattle.sleep_model.specs.Path.{is_same}
use Rattle.sleep_script.specs.Jobs.{JobState}
use Rattle.run_world.specs.declared.task.Task.{Task}
use Rattle.run_world.specs.Acts.{actor_of}
use Rattle.running_laws.specs.Courses.{HaveDistinctActors, AreTasks, IsTaskOf, has_task}

-- ---- one of a list is another

-- it is there
set_there : {A : Type 0} (xs : List A) (i : ℕ) (old x : A) → slice_get xs i ≡ Some old → slice_get (slice_set xs i x) i ≡ Some x
set_there [] i old x h = absurd (cc)
set_there (y ∷ xs) zero old x h = refl
set_there (y ∷ xs) (suc i) old x h = set_there xs i old x h

-- the others are as they were
set_aside : {A : Type 0} (xs : List A) (i j : ℕ) (x : A) → (i == j) ≡ false → slice_get (slice_set xs i x) j ≡ slice_get xs j
set_aside [] i j x h = refl
set_aside (y ∷ xs) zero zero x h = absurd (let no : true ≡ false = h in cc)
set_aside (y ∷ xs) zero (suc j) x h = refl
set_aside (y ∷ xs) (suc i) zero x h = refl
set_aside (y ∷ xs) (suc i) (suc j) x h = set_aside xs i j x (let apart : (i == j) ≡ false = grind (arith, nat_tests) in apart)

-- ---- whose tasks they are

-- a list of tasks with the same actors has tasks of the same actors
pub has_same : (tasks : List Task) (place : ℕ) (was is : Task) (who : Actor) → slice_get tasks place ≡ Some was → actor_of is ≡ actor_of was → has_task (slice_set tasks place is) who ≡ has_task tasks who
has_same [] place was is who there same = absurd (cc)
has_same (t ∷ tasks) zero was is who there same =
    let first : t ≡ was = cc in
    ap (λ (a : Actor). is_same a who || has_task tasks who) (same ∙ sym (ap actor_of first))
has_same (t ∷ tasks) (suc place) was is who there same = ap (λ (b : Bool). is_same (actor_of t) who || b) (has_same tasks place was is who there same)

-- an actor without a task is none of theirs
either_first : (a b : Bool) → (a || b) ≡ false → a ≡ false
either_first true b h = h
either_first false b h = refl

either_second : (a b : Bool) → (a || b) ≡ false → b ≡ false
either_second true b h = absurd (let no : true ≡ false = h in cc)
either_second false b h = h

pub has_none : (tasks : List Task) (place : ℕ) (was : Task) (who : Actor) → slice_get tasks place ≡ Some was → has_task tasks who ≡ false → is_same (actor_of was) who ≡ false
has_none [] place was who there none = absurd (cc)
has_none (t ∷ tasks) zero was who there none =
    let first : t ≡ was = cc in
    ap (λ (x : Task). is_same (actor_of x) who) (sym first) ∙ either_first (is_same (actor_of t) who) (has_task tasks who) none
has_none (t ∷ tasks) (suc place) was who there none = has_none tasks place was who there (either_second (is_same (actor_of t) who) (has_task tasks who) none)

-- ---- after an act

module _ (m : Machine) (jobs jobs' : Actor → JobState) (floors floors' : Actor → Stamp) (tasks : List Task) (place : ℕ) (was is : Task)
    (are : AreTasks m jobs floors tasks) (there : slice_get tasks place ≡ Some was) (same : actor_of is ≡ actor_of was) where
  at_place : (k : ℕ) (t : Task) → (place == k) ≡ true → slice_get (slice_set tasks place is) k ≡ Some t → t ≡ is
  at_place k t at e =
      let here : place ≡ k = grind (arith, nat_tests) in
      let stands : slice_get (slice_set tasks place is) k ≡ Some is = subst (λ (n : ℕ). slice_get (slice_set tasks place is) n ≡ Some is) here (set_there tasks place was is there) in
      cc

  off_place : (k : ℕ) (t : Task) → (place == k) ≡ false → slice_get (slice_set tasks place is) k ≡ Some t → slice_get tasks k ≡ Some t
  off_place k t off e = sym (set_aside tasks place k is off) ∙ e

  -- another task is of another actor
  other_actor : (k : ℕ) (t : Task) → (place == k) ≡ false → slice_get tasks k ≡ Some t → is_same (actor_of was) (actor_of t) ≡ false
  other_actor k t off e = by (is_same (actor_of was) (actor_of t)) refl
    where
      by : (b : Bool) → is_same (actor_of was) (actor_of t) ≡ b → b ≡ false
      by true one =
          let here : place ≡ k = are.apart place k was t there e one in
          absurd (grind (arith, nat_tests))
      by false one = refl

  apart : HaveDistinctActors (slice_set tasks place is)
  apart j k t u at_j at_k one = by (place == j) refl (place == k) refl
    where
      by : (a : Bool) → (place == j) ≡ a → (b : Bool) → (place == k) ≡ b → j ≡ k
      by true on_j true on_k = grind (arith, nat_tests)
      by true on_j false off_k =
          let first : actor_of t ≡ actor_of was = ap actor_of (at_place j t on_j at_j) ∙ same in
          let no : true ≡ false = sym one ∙ (ap (λ (a : Actor). is_same a (actor_of u)) first ∙ other_actor k u off_k (off_place k u off_k at_k)) in
          absurd (cc)
      by false off_j true on_k =
          let second : actor_of u ≡ actor_of was = ap actor_of (at_place k u on_k at_k) ∙ same in
          let here : place ≡ j = sym (are.apart j place t was (off_place j t off_j at_j) there (ap (λ (a : Actor). is_same (actor_of t) a) (sym second) ∙ one)) in
          absurd (grind (arith, nat_tests))
      by false off_j false off_k = are.apart j k t u (off_place j t off_j at_j) (off_place k u off_k at_k) one

  -- the task that went on is its actor's, and so are the others
  pub tasks_go : IsTaskOf m jobs' floors' is → ((t : Task) → is_same (actor_of was) (actor_of t) ≡ false → IsTaskOf m jobs floors t → IsTaskOf m jobs' floors' t) → AreTasks m jobs' floors' (slice_set tasks place is)
  tasks_go here others = record { each = λ k t e. by k t e (place == k) refl; apart = apart }
    where
      by : (k : ℕ) (t : Task) → slice_get (slice_set tasks place is) k ≡ Some t → (b : Bool) → (place == k) ≡ b → IsTaskOf m jobs' floors' t
      by k t e true at = subst (IsTaskOf m jobs' floors') (sym (at_place k t at e)) here
      by k t e false off =
          let before : slice_get tasks k ≡ Some t = off_place k t off e in
          others t (other_actor k t off before) (are.each k t before)
