-- A job follows the journal of its actor and the calls that it makes.
use Rattle.std.proofs.Common.{◌≡◌, ◌∙◌, ◌<◌, ◌≤◌, ◌+◌, ◌-◌, ◌++◌, ◌&&◌, ◌||◌, ◌↔◌, ℕ, zero, suc, Bool, true, false, cond, List, [], ◌∷◌, length, drop, slice_get, Some, refl, sym, ap, ap₂, append_assoc, length-append, length-drop, arith}
use Rattle.std.proofs.lemmas.List.{drop_all, drop-drop, drop_at}
use Rattle.std.proofs.lemmas.Option.{slice_get_within}
use Rattle.sleep_model.specs.declared.entry.Actor.{Actor}
use Rattle.sleep_model.specs.declared.entry.Entry.{Entry}
use Rattle.sleep_model.specs.declared.entry.Kind.{Kind}
use Rattle.sleep_model.specs.declared.entry.Kind.TheVariants as kind
use Rattle.sleep_model.specs.declared.log.Want.TheVariants as want
use Rattle.sleep_model.specs.declared.machine.Machine.{Machine}
use Rattle.sleep_model.specs.declared.machine.SourceCall.{SourceCall}
use Rattle.sleep_model.specs.declared.word.Stamp.{Stamp}
use Rattle.sleep_model.specs.Calls.{calls_after_turn, ends_turn, one_more, note, report_calls, turns_ended, calls_of, calls_due}
use Rattle.sleep_model.specs.Laws.{is_exit}
use Rattle.sleep_model.specs.Path.{attempts, attempts_after, is_same}
use Rattle.sleep_script.specs.Jobs.{JobState, first_job, after_turn, after_call, raised, IsWanted, has_exited, IsJobOf}

-- ---- a job before its first entry

pub first_is_job : (m : Machine) (who : Actor) → IsJobOf m who [] 0 (first_job m who)
first_is_job m who = record {
  machine_is = refl;
  actor_is = refl;
  turns_are = refl;
  pending_is = refl;
  calls_are = refl;
  exited_is = refl;
  fits = omega arith;
}

-- ---- an entry of its own

-- the reports of a callback are the same before and after the entry that begins it
reports_before : (m : Machine) (n : ℕ) (k : Kind) → report_calls m (attempts_after k n) k ≡ report_calls m n k
reports_before m n (kind.Attempt i guarded) = refl
reports_before m n _ = refl

-- the calls that are due, and those that an entry brings
grown : (b : Bool) (xs ys zs : List Kind) (n : ℕ) → b ≡ true → n ≡ length xs → drop n (cond b (xs ++ ys ++ zs) xs) ≡ ys ++ zs
grown true xs ys zs n same is = ap (drop n) (append_assoc xs ys zs) ∙ drop_at xs (ys ++ zs) n (sym is)
grown false xs ys zs n same is = cc

longer : (b : Bool) (xs ys zs : List Kind) → length xs ≤ length (cond b (xs ++ ys ++ zs) xs)
longer true xs ys zs = omega (arith, length-append (xs ++ ys) zs, length-append xs ys)
longer false xs ys zs = omega arith

after_same : (m m' : Machine) (who who' : Actor) (b : Bool) (t t' : ℕ) → m ≡ m' → who ≡ who' → t ≡ t' → calls_after_turn m who b (t + 1) ≡ calls_after_turn m' who' b (t' + 1)
after_same m m' who who' b t t' one two three = cc

-- after an entry of its own that was due with all calls made, when so many attempts are begun
pub own_entry : (m : Machine) (who : Actor) (e : Entry) (past : List Entry) (made : ℕ) (job : JobState) (stamp : Stamp) (attempt : ℕ)
    → is_same e.actor who ≡ true → attempt ≡ attempts (e ∷ past) → made ≡ calls_due m who past
    → IsJobOf m who past made job → IsJobOf m who (e ∷ past) made (after_turn stamp e.kind attempt job)
own_entry m who e past made job stamp attempt same begun due h = record {
  machine_is = h.machine_is;
  actor_is = h.actor_is;
  turns_are = ap (one_more (ends_turn e.kind)) h.turns_are ∙ ap (λ b. one_more (b && ends_turn e.kind) (turns_ended who past)) (sym same);
  pending_is =
      ap₂ (λ (xs ys : List Kind). xs ++ ys)
      (ap₂ (λ (x : Machine) (n : ℕ). report_calls x n e.kind) h.machine_is begun ∙ reports_before m (attempts past) e.kind)
      (after_same job.machine m job.who who (ends_turn e.kind) job.turns (turns_ended who past) h.machine_is h.actor_is h.turns_are)
      ∙ sym (grown (is_same e.actor who) (calls_of m who past) (report_calls m (attempts past) e.kind) (calls_after_turn m who (ends_turn e.kind) (turns_ended who past + 1)) made same due);
  calls_are = h.calls_are;
  exited_is = ap (λ b. is_exit e.kind || b) h.exited_is ∙ ap (λ b. (b && is_exit e.kind) || has_exited who past) (sym same);
  fits = omega (arith, h.fits, longer (is_same e.actor who) (calls_of m who past) (report_calls m (attempts past) e.kind) (calls_after_turn m who (ends_turn e.kind) (turns_ended who past + 1)));
}

-- ---- an entry of another

-- nothing changes
pub other_entry : (m : Machine) (who : Actor) (e : Entry) (past : List Entry) (made : ℕ) (job : JobState) → is_same e.actor who ≡ false → IsJobOf m who past made job → IsJobOf m who (e ∷ past) made job
other_entry m who e past made job other h =
    let calls : calls_of m who (e ∷ past) ≡ calls_of m who past =
    ap (λ b. cond b (calls_of m who past ++ report_calls m (attempts past) e.kind ++ calls_after_turn m who (ends_turn e.kind) (turns_ended who past + 1)) (calls_of m who past)) other in
    record {
      machine_is = h.machine_is;
      actor_is = h.actor_is;
      turns_are = h.turns_are ∙ ap (λ b. one_more (b && ends_turn e.kind) (turns_ended who past)) (sym other);
      pending_is = h.pending_is ∙ ap (drop made) (sym calls);
      calls_are = h.calls_are;
      exited_is = h.exited_is ∙ ap (λ b. (b && is_exit e.kind) || has_exited who past) (sym other);
      fits = omega (arith, h.fits, ap length calls);
    }

-- ---- a call

-- so many are left
left_are : (m : Machine) (who : Actor) (journal : List Entry) (made : ℕ) (job : JobState) → IsJobOf m who journal made job → length job.pending ≡ calls_due m who journal - made
left_are m who journal made job h = ap length h.pending_is ∙ length-drop made (calls_of m who journal)

-- after the first of the calls that are left
pub call_made : (m : Machine) (who : Actor) (journal : List Entry) (made : ℕ) (job : JobState) (stamp : Stamp) → 0 < length job.pending → IsJobOf m who journal made job → IsJobOf m who journal (made + 1) (after_call stamp job)
call_made m who journal made job stamp some h = record {
  machine_is = h.machine_is;
  actor_is = h.actor_is;
  turns_are = h.turns_are;
  pending_is = ap (drop 1) h.pending_is ∙ drop-drop 1 made (calls_of m who journal);
  calls_are = ap (λ n. n + 1) h.calls_are;
  exited_is = h.exited_is;
  fits = omega (arith, left_are m who journal made job h);
}

-- when it knows a later stamp
pub floor_raised : (m : Machine) (who : Actor) (journal : List Entry) (made : ℕ) (job : JobState) (stamp : Stamp) → IsJobOf m who journal made job → IsJobOf m who journal made (raised stamp job)
floor_raised m who journal made job stamp h = record {
  machine_is = h.machine_is;
  actor_is = h.actor_is;
  turns_are = h.turns_are;
  pending_is = h.pending_is;
  calls_are = h.calls_are;
  exited_is = h.exited_is;
  fits = h.fits;
}

-- ---- what comes next

first_after : (n : ℕ) (xs : List Kind) → slice_get (drop n xs) 0 ≡ slice_get xs n
first_after zero [] = refl
first_after zero (x ∷ xs) = refl
first_after (suc n) [] = refl
first_after (suc n) (x ∷ xs) = first_after n xs

-- the first call that is left is the next that is due
pub next_is : (m : Machine) (who : Actor) (journal : List Entry) (made : ℕ) (job : JobState) → IsJobOf m who journal made job → slice_get job.pending 0 ≡ slice_get (calls_of m who journal) made
next_is m who journal made job h = ap (λ xs. slice_get xs 0) h.pending_is ∙ first_after made (calls_of m who journal)

-- no call is left exactly if all that are due were made
pub all_made : (m : Machine) (who : Actor) (journal : List Entry) (made : ℕ) (job : JobState) → IsJobOf m who journal made job → (job.pending ≡ []) ↔ (made ≡ calls_due m who journal)
all_made m who journal made job h = (
  λ (none : job.pending ≡ []). omega (arith, h.fits, left_are m who journal made job h, ap length none),
  λ (all : made ≡ calls_due m who journal). h.pending_is ∙ drop_all made (calls_of m who journal) (omega arith),
)

-- if it wants a call, that is the next that is due
pub wanted_source : (m : Machine) (who : Actor) (journal : List Entry) (made : ℕ) (job : JobState) (s : ℕ) (call : SourceCall) → IsJobOf m who journal made job → IsWanted job (want.Source s call)
    → (slice_get (calls_of m who journal) made ≡ Some (note s call)) × (made < calls_due m who journal) × (0 < length job.pending)
wanted_source m who journal made job s call h wanted =
    let next = sym (next_is m who journal made job h) ∙ wanted in
    (next, slice_get_within (calls_of m who journal) made (note s call) next, slice_get_within job.pending 0 (note s call) wanted)

-- if it wants a turn, or nothing more, all that are due were made
pub wanted_core : (m : Machine) (who : Actor) (journal : List Entry) (made : ℕ) (job : JobState) → IsJobOf m who journal made job → IsWanted job want.Core → made ≡ calls_due m who journal
wanted_core m who journal made job h wanted = (all_made m who journal made job h).0 wanted.0

pub wanted_nothing : (m : Machine) (who : Actor) (journal : List Entry) (made : ℕ) (job : JobState) → IsJobOf m who journal made job → IsWanted job want.Nothing
    → (made ≡ calls_due m who journal) × (has_exited who journal ≡ true)
wanted_nothing m who journal made job h wanted = ((all_made m who journal made job h).0 wanted.0, sym h.exited_is ∙ wanted.1)

-- ---- numbers

one_more_few : (b : Bool) (t n : ℕ) → t ≤ n → one_more b t ≤ n + 1
one_more_few true t n few = omega arith
one_more_few false t n few = omega arith

-- no more turns were ended than the journal has entries
pub turns_few : (who : Actor) (journal : List Entry) → turns_ended who journal ≤ length journal
turns_few who [] = omega arith
turns_few who (e ∷ past) = omega (arith, one_more_few (is_same e.actor who && ends_turn e.kind) (turns_ended who past) (length past) (turns_few who past))
