-- Each attempt ends, and makes few entries.
use Rattle.std.proofs.Common.{◌≡◌, ◌≤◌, ◌+◌, ◌∙◌, ◌⊎◌, inl, inr, ℕ, Bool, true, false, ◌==◌, ◌||◌, List, [], ◌∷◌, Option, Some, None, is_some, cond, refl, sym, ap, subst, arith}
use mathlib.Core.List.{reverse_aux}
use Rattle.std.proofs.lemmas.Bool.{true≢false, or_cases}
use Rattle.sleep_model.specs.declared.entry.Actor.{Actor}
use Rattle.sleep_model.specs.declared.entry.Entry.{Entry}
use Rattle.sleep_model.specs.declared.entry.Kind.{Kind}
use Rattle.sleep_model.specs.declared.entry.Kind.TheVariants as kind
use Rattle.sleep_model.specs.declared.machine.Machine.{Machine}
use Rattle.sleep_model.specs.declared.machine.Op.{Op}
use Rattle.sleep_model.specs.declared.progress.ScriptPosition.{ScriptPosition}
use Rattle.sleep_model.specs.declared.progress.Stage.{Stage}
use Rattle.sleep_model.specs.declared.progress.Work.{Work}
use Rattle.sleep_model.specs.declared.word.EventNow.{EventNow}
use Rattle.sleep_model.specs.Accepted.{IsAccepted}
use Rattle.sleep_model.specs.Devices.{is_device}
use Rattle.sleep_model.specs.Legal.{JournalPart}
use Rattle.sleep_model.specs.EntryClasses.{is_in_journal, journal, class_of}
use Rattle.sleep_model.specs.Path.{attempts, is_actor, maker}
use Rattle.sleep_model.specs.Places.{one_if}
use Rattle.sleep_laws.proofs.Activity.{same_number}
use Rattle.sleep_laws.proofs.Closing.{ends_closed}
use Rattle.sleep_laws.proofs.Ending.{or_right_false}
use Rattle.sleep_laws.proofs.LockHolding.{moved}
use Rattle.sleep_laws.proofs.Made.{Made, StepMade, TaskMade, WorkMade, DeviceMade, EntryMade, ByMaker, ByTask, ByWork, ByDevice, ByTime}
use Rattle.sleep_laws.proofs.MakingOwn.{entry_made}
use Rattle.room_laws.proofs.Attempting.{attempts_is}
use Rattle.room_laws.proofs.Trying.{is_over, maker_is, moved_free}
use Rattle.room_laws.specs.AttemptRoom.{enough, is_attempt, needed}
use Rattle.room_laws.proofs.Needing.{attempt_needs_few, device_entry_spends, none_needed_outside, others_need_nothing, own_entry_spends}
use Rattle.end_laws.specs.Attempts.{AttemptsAreShort, AttemptsEnd, attempts_end, ends_among, ends_after, is_end_of, is_own, own_entry_count_after, own_entry_count}
use Rattle.end_laws.proofs.Waking.{both, journal_rest}

-- ---- the number of an attempt

-- an attempt that begins is the next; one that ends is the newest
abbrev NumberFits : ℕ → Kind → Type 0
NumberFits a (kind.Attempt n guarded) = n ≡ a + 1
NumberFits a (kind.Over n r) = n ≡ a
NumberFits a _ = Unit {0}

module _ (m : Machine) (past : List Entry) (now : EventNow) where
  maker_number : (there : Stage) (k : Kind) → Made m past now there k → NumberFits (attempts past) k
  maker_number _ _ Made.Ends = refl
  maker_number _ _ _ = tt

  step_number : (position : ScriptPosition) (asked : Bool) (o : Option Op) (k : Kind) → StepMade m past now position asked o k → NumberFits (attempts past) k
  step_number position asked _ _ (StepMade.Attempts text if_saved f on) = refl
  step_number position asked _ _ _ = tt

  work_number : (w : Work) (k : Kind) → WorkMade m past now w k → NumberFits (attempts past) k
  work_number _ _ (WorkMade.Attempts c on) = refl
  work_number _ _ _ = tt

  device_number : (d : ℕ) (k : Kind) → DeviceMade m past now d k → NumberFits (attempts past) k
  device_number d _ (DeviceMade.OwnFails p r w g f) = tt
  device_number d _ _ = tt

  entry_number : (who : Actor) (k : Kind) → EntryMade m past now who k → NumberFits (attempts past) k
  entry_number who k (ByMaker _ here there _ a e c x) = maker_number there k x
  entry_number _ _ (ByTask i _ a (TaskMade.Freezes s go asked)) = tt
  entry_number _ k (ByTask i _ a (TaskMade.Steps s _ o go at x)) = step_number _ _ o k x
  entry_number _ k (ByWork w _ a s o e x) = work_number w k x
  entry_number _ k (ByDevice d _ a x) = device_number d k x
  entry_number _ _ ByTime = tt

-- ---- attempts end

over_ends : (k : Kind) (a : ℕ) → is_over k ≡ true → NumberFits a k → is_end_of a k ≡ true
over_ends (kind.Over n r) a o f = subst (λ (x : ℕ). (n == x) ≡ true) f (same_number n)
over_ends _ a o f = absurd (true≢false (sym o))

or_first : (a b : Bool) → a ≡ true → (a || b) ≡ true
or_first true b e = refl
or_first false b e = absurd (true≢false (sym e))

or_second : (a b : Bool) → b ≡ true → (a || b) ≡ true
or_second true b e = refl
or_second false b e = e

-- if an attempt is open, one of these entries ends it
abbrev OpenEnds : List Entry → List Entry → Type 0
OpenEnds past later = is_some (maker past) ≡ true → ends_among (attempts past) later ≡ true

none_some : (o : Option Actor) → o ≡ None → is_some o ≡ true → ⊥
none_some None e s = true≢false (sym s)
none_some (Some w) e s = true≢false (ap is_some e)

module _ (m : Machine) (past : List Entry) (e : Entry) (later : List Entry) where
  own_opens : JournalPart m (e ∷ past) → OpenEnds (e ∷ past) later → OpenEnds past (e ∷ later)
  own_opens h ends opened = by_over (is_over e.kind) (is_attempt e.kind) refl refl
    where
      rest : is_over e.kind ≡ false → is_attempt e.kind ≡ false → ends_among (attempts past) later ≡ true
      rest o t =
          let same : maker (e ∷ past) ≡ maker past = maker_is e.kind e.actor (maker past) ∙ (ap (λ b. cond b (Some e.actor) (cond (is_over e.kind) None (maker past))) t ∙ ap (λ b. cond b None (maker past)) o) in
          let number : attempts (e ∷ past) ≡ attempts past = omega (arith, attempts_is e.kind (attempts past), ap one_if t) in
          subst (λ (n : ℕ). ends_among n later ≡ true) number (ends (ap is_some same ∙ opened))

      by_over : (o t : Bool) → is_over e.kind ≡ o → is_attempt e.kind ≡ t → ends_among (attempts past) (e ∷ later) ≡ true
      by_over true t x y = or_first (is_end_of (attempts past) e.kind) (ends_among (attempts past) later) (over_ends e.kind (attempts past) x (entry_number m past e.now e.actor e.kind (entry_made m past e h)))
      by_over false true x y = absurd (none_some (maker past) (moved_free m past e.now e.actor e.kind (moved m past e h) y) opened)
      by_over false false x y = or_second (is_end_of (attempts past) e.kind) (ends_among (attempts past) later) (rest x y)

  begun_ends : (k : Kind) → NumberFits (attempts past) k → (is_attempt k ≡ true → ends_among (attempts past + 1) later ≡ true) → ends_after k later ≡ true
  begun_ends (kind.Attempt n guarded) f h = subst (λ (x : ℕ). ends_among x later ≡ true) (sym f) (h refl)
  begun_ends _ f h = refl

  own_begins : JournalPart m (e ∷ past) → OpenEnds (e ∷ past) later → ends_after e.kind later ≡ true
  own_begins h ends = begun_ends e.kind (entry_number m past e.now e.actor e.kind (entry_made m past e h)) there
    where
      there : is_attempt e.kind ≡ true → ends_among (attempts past + 1) later ≡ true
      there t =
          let made : maker (e ∷ past) ≡ Some e.actor = maker_is e.kind e.actor (maker past) ∙ ap (λ b. cond b (Some e.actor) (cond (is_over e.kind) None (maker past))) t in
          let number : attempts (e ∷ past) ≡ attempts past + 1 = omega (arith, attempts_is e.kind (attempts past), ap one_if t) in
          subst (λ (n : ℕ). ends_among n later ≡ true) number (ends (ap is_some made))

source_begins : (k : Kind) (later : List Entry) → is_in_journal (class_of k) ≡ false → ends_after k later ≡ true
source_begins (kind.Attempt n guarded) later e = absurd (true≢false e)
source_begins _ later e = refl

-- the rest of what all these lead to is legal
legal_before : (m : Machine) (later past : List Entry) → JournalPart m (journal (reverse_aux later past)) → JournalPart m (journal past)
legal_before m [] past h = h
legal_before m (e ∷ later) past h = journal_rest m e (journal past) (is_in_journal (class_of e.kind)) (legal_before m later (e ∷ past) h)

-- after these entries each attempt that the later ones begin ends, and so does the one that is open
ends_from : (m : Machine) (later past : List Entry) → JournalPart m (journal (reverse_aux later past)) → maker (journal (reverse_aux later past)) ≡ None → (attempts_end later ≡ true) × OpenEnds (journal past) later
ends_from m [] past h closed = (refl, λ opened. absurd (none_some (maker (journal past)) closed opened))
ends_from m (e ∷ later) past h closed = by_preserved (is_in_journal (class_of e.kind)) refl (legal_before m later (e ∷ past) h) (ends_from m later (e ∷ past) h closed)
  where
    by_preserved : (b : Bool) → is_in_journal (class_of e.kind) ≡ b → JournalPart m (cond b (e ∷ journal past) (journal past)) → (attempts_end later ≡ true) × OpenEnds (cond b (e ∷ journal past) (journal past)) later → (attempts_end (e ∷ later) ≡ true) × OpenEnds (journal past) (e ∷ later)
    by_preserved true k j rest = (
      both (ends_after e.kind later) (attempts_end later) (own_begins m (journal past) e later j rest.1) rest.0,
      own_opens m (journal past) e later j rest.1,
    )
    by_preserved false k j rest = (
      both (ends_after e.kind later) (attempts_end later) (source_begins e.kind later k) rest.0,
      λ opened. or_second (is_end_of (attempts (journal past)) e.kind) (ends_among (attempts (journal past)) later) (rest.1 opened),
    )

pub all_end : AttemptsEnd
all_end m acc log h over = (ends_from m log.entries [] h.legal.journal (ends_closed m acc log h over)).0

-- ---- attempts are short

pub or_left_false : (a b : Bool) → (a || b) ≡ false → a ≡ false
or_left_false true b e = e
or_left_false false b e = refl

-- with what the attempt may still need they are no more
spent : (m : Machine) → IsAccepted m → (past : List Entry) → JournalPart m past → own_entry_count past + needed m past ≤ enough m
spent m acc [] h = omega (arith, none_needed_outside m [] h refl)
spent m acc (e ∷ past) h = by_attempt (is_attempt e.kind) refl (spent m acc past h.1)
  where
    by_own : (b : Bool) → is_own past e ≡ b → is_attempt e.kind ≡ false → own_entry_count past + needed m past ≤ enough m → own_entry_count_after false b (own_entry_count past) + needed m (e ∷ past) ≤ enough m
    by_own true o t before = by_who (or_cases (is_actor e.actor (maker past)) (is_device e.actor) o)
      where
        by_who : (is_actor e.actor (maker past) ≡ true) ⊎ (is_device e.actor ≡ true) → own_entry_count past + 1 + needed m (e ∷ past) ≤ enough m
        by_who (inl a) = omega (arith, before, own_entry_spends m past e acc h a)
        by_who (inr d) = omega (arith, before, device_entry_spends m past e h d)
    by_own false o t before =
        let same = others_need_nothing m past e h (or_left_false (is_actor e.actor (maker past)) (is_device e.actor) o) (or_right_false (is_actor e.actor (maker past)) (is_device e.actor) o) t in
        omega (arith, before, same)

    by_attempt : (b : Bool) → is_attempt e.kind ≡ b → own_entry_count past + needed m past ≤ enough m → own_entry_count_after b (is_own past e) (own_entry_count past) + needed m (e ∷ past) ≤ enough m
    by_attempt true t before = omega (arith, attempt_needs_few m past e h t)
    by_attempt false t before = by_own (is_own past e) refl t before

pub short : AttemptsAreShort
short m acc past h = omega (arith, spent m acc past h)
