-- How many entries a log has at most.
use Rattle.std.proofs.Common.{◌≡◌, ◌≤◌, ◌<◌, ◌+◌, ◌*◌, ◌∙◌, ◌⊎◌, inl, inr, ◌||◌, ℕ, zero, suc, Bool, true, false, nat_le, nat_lt, List, [], ◌∷◌, length, cond, refl, sym, ap, subst, arith}
use Rattle.std.specs.List.{list_all, range_with_len}
use Rattle.std.proofs.Math.Nat.{add-mul, mul_assoc}
use Rattle.std.proofs.lemmas.Nat.{mul-le}
use Rattle.std.proofs.lemmas.Bool.{or_cases, true≢false}
use Rattle.std.proofs.lemmas.Bool.Decides.{nat_tests}
use Rattle.sleep_model.specs.declared.entry.Actor.{Actor}
use Rattle.sleep_model.specs.declared.entry.Entry.{Entry}
use Rattle.sleep_model.specs.declared.entry.Kind.{Kind}
use Rattle.sleep_model.specs.declared.entry.Kind.TheVariants as kind
use Rattle.sleep_model.specs.declared.machine.Machine.{Machine}
use Rattle.sleep_model.specs.declared.word.EventNow.{EventNow}
use Rattle.sleep_model.specs.Accepted.{IsAccepted}
use Rattle.sleep_model.specs.Devices.{is_device}
use Rattle.sleep_model.specs.Legal.{IsLegal, JointPart, JointStep, JournalPart, JumpStep, AreNumbered, is_idle, is_short, is_there}
use Rattle.sleep_model.specs.Numbers.{numbers}
use Rattle.sleep_model.specs.EntryClasses.{EntryClass, OfJournal, Notes, Moves, OfTime, is_in_journal, journal, class_of}
use Rattle.sleep_model.specs.Path.{attempts, is_actor, maker}
use Rattle.sleep_model.specs.Places.{most_attempts, one_if}
use Rattle.sleep_model.specs.Sources.{history, is_of, most_entries}
use Rattle.sleep_laws.proofs.Ending.{and_left, and_right, or_right_false}
use Rattle.sleep_laws.proofs.Few.{few_entries, place_taken, places, places_rise}
use Rattle.sleep_laws.proofs.LockHolding.{entry_of}
use Rattle.room_laws.proofs.Attempting.{attempts_is, attempts_within}
use Rattle.room_laws.proofs.SourcesFit.{histories_keep}
use Rattle.room_laws.proofs.Running.{runs_within}
use Rattle.room_laws.specs.AttemptRoom.{enough, is_attempt, needed}
use Rattle.room_laws.proofs.Needing.{attempt_needs_few, device_entry_spends, none_needed_outside, others_need_nothing, own_entry_spends}
use Rattle.end_laws.specs.Attempts.{is_own}
use Rattle.end_laws.specs.Bounds.{AllLogsAreBounded, JournalsAreBounded, LogsAreBounded, but_jumps, most_of_journal, most_of_sources, one_but_jump}
use Rattle.end_laws.proofs.Attempts.{or_left_false}
use Rattle.end_laws.proofs.Counting.{counted, one_more_at_most, one_most, one_same, spent}
use Rattle.end_laws.proofs.Freezing.{freezes, freezes_bounded, two_each}
use Rattle.end_laws.proofs.Moments.{wake}
use Rattle.end_laws.proofs.Stepping.{steps_bounded}
use Rattle.end_laws.proofs.Waking.{journal_rest}
use Rattle.end_laws.proofs.Working.{works}

-- ---- the entries of attempts

spent_few : (m : Machine) → IsAccepted m → (past : List Entry) → JournalPart m past → spent past + needed m past ≤ attempts past * enough m
spent_few m acc [] h = omega (arith, none_needed_outside m [] h refl)
spent_few m acc (e ∷ past) h = by_attempt (is_attempt e.kind) refl (spent_few m acc past h.1)
  where
    same : is_attempt e.kind ≡ false → attempts (e ∷ past) * enough m ≡ attempts past * enough m
    same t = ap (λ n. n * enough m) (omega (arith, attempts_is e.kind (attempts past), ap one_if t))

    more : is_attempt e.kind ≡ true → attempts (e ∷ past) * enough m ≡ attempts past * enough m + enough m
    more t =
        let one : attempts (e ∷ past) ≡ attempts past + 1 = omega (arith, attempts_is e.kind (attempts past), ap one_if t) in
        ap (λ n. n * enough m) one ∙ omega (arith, add-mul (attempts past) 1 (enough m))

    by_own : (b : Bool) → is_own past e ≡ b → is_attempt e.kind ≡ false → spent past + needed m past ≤ attempts past * enough m → one_if b + spent past + needed m (e ∷ past) ≤ attempts (e ∷ past) * enough m
    by_own true o t before = by_who (or_cases (is_actor e.actor (maker past)) (is_device e.actor) o)
      where
        by_who : (is_actor e.actor (maker past) ≡ true) ⊎ (is_device e.actor ≡ true) → 1 + spent past + needed m (e ∷ past) ≤ attempts (e ∷ past) * enough m
        by_who (inl a) = omega (arith, before, own_entry_spends m past e acc h a, same t)
        by_who (inr d) = omega (arith, before, device_entry_spends m past e h d, same t)
    by_own false o t before =
        let none = others_need_nothing m past e h (or_left_false (is_actor e.actor (maker past)) (is_device e.actor) o) (or_right_false (is_actor e.actor (maker past)) (is_device e.actor) o) t in
        omega (arith, before, none, same t)

    by_attempt : (b : Bool) → is_attempt e.kind ≡ b → spent past + needed m past ≤ attempts past * enough m → one_if (b || is_own past e) + spent past + needed m (e ∷ past) ≤ attempts (e ∷ past) * enough m
    by_attempt true t before = omega (arith, before, attempt_needs_few m past e h t, more t)
    by_attempt false t before = by_own (is_own past e) refl t before

-- ---- a journal

pub journal_bounded : JournalsAreBounded
journal_bounded m acc past h =
    let tries : attempts past ≤ most_attempts m = attempts_within m past h in
    let asks : freezes past ≤ 2 * most_attempts m = omega (arith, two_each m past h, tries) in
    let attempts_most : attempts past * enough m ≤ most_attempts m * enough m = mul-le (attempts past) (enough m) (most_attempts m) (enough m) tries (omega arith) in
    let freezes_most : freezes past * length m.actors ≤ 2 * most_attempts m * length m.actors = mul-le (freezes past) (length m.actors) (2 * most_attempts m) (length m.actors) asks (omega arith) in
    omega (
      arith,
      counted m past h,
      spent_few m acc past h,
      attempts_most,
      freezes_bounded m past h,
      freezes_most,
      steps_bounded m past h,
      works m past h,
      runs_within m past h,
    )

-- ---- a whole list

-- the source is one of the first n
abbrev source_within : ℕ → EntryClass → Bool
source_within n (Notes s call) = nat_lt s n
source_within n (Moves s step) = nat_lt s n
source_within n _ = true

abbrev is_jump : Kind → Bool
is_jump kind.Jump = true
is_jump _ = false

one_at_most : (b : Bool) → one_if b ≤ 1
one_at_most true = omega arith
one_at_most false = omega arith

-- the entries of sources have their room
class_counted : (n : ℕ) (e : Entry) (past : List Entry) (p : EntryClass) → class_of e.kind ≡ p → source_within n p ≡ true → one_but_jump e.kind (but_jumps (journal past) + places n past) ≤ but_jumps (cond (is_in_journal p) (e ∷ journal past) (journal past)) + places n (e ∷ past)
class_counted n e past OfJournal x t = omega (arith, one_same e.kind (but_jumps (journal past)) (places n past), places_rise n e past)
class_counted n e past OfTime x t = omega (arith, one_same e.kind (but_jumps (journal past)) (places n past), places_rise n e past)
class_counted n e past (Notes s call) x t =
    let within : s < n = grind (arith, nat_tests) in
    omega (arith, one_more_at_most e.kind (but_jumps (journal past) + places n past), place_taken n s within e past (λ k. ap (is_of k) x))
class_counted n e past (Moves s step) x t =
    let within : s < n = grind (arith, nat_tests) in
    omega (arith, one_more_at_most e.kind (but_jumps (journal past) + places n past), place_taken n s within e past (λ k. ap (is_of k) x))

there_within : (m : Machine) (p : EntryClass) → is_there m p ≡ true → source_within (length m.sources + 1) p ≡ true
there_within m (Notes s call) h = grind (arith, nat_tests)
there_within m (Moves s step) h = grind (arith, nat_tests)
there_within m OfJournal h = refl
there_within m OfTime h = refl

but_parts : (m : Machine) (past : List Entry) → list_all (λ e. is_there m (class_of e.kind)) past ≡ true → but_jumps past ≤ but_jumps (journal past) + places (length m.sources + 1) past
but_parts m [] h = omega arith
but_parts m (e ∷ past) h =
    let rest = but_parts m past (and_right (is_there m (class_of e.kind)) (list_all (λ e. is_there m (class_of e.kind)) past) h) in
    let within = there_within m (class_of e.kind) (and_left (is_there m (class_of e.kind)) (list_all (λ e. is_there m (class_of e.kind)) past) h) in
    omega (arith, one_most e.kind (but_jumps past) (but_jumps (journal past) + places (length m.sources + 1) past) rest, class_counted (length m.sources + 1) e past (class_of e.kind) refl within)

-- the newest entry is a jump
abbrev jumped : List Entry → Bool
jumped [] = false
jumped (e ∷ past) = is_jump e.kind

-- after a jump somebody can make something
stirred : (m : Machine) (past : List Entry) (later : EventNow) → JournalPart m (journal past) → JointPart m past → AreNumbered past → jumped past ≡ true → is_idle m (journal past) (λ s. history s past) later ≡ false
stirred m [] later j t p h = absurd (true≢false (sym h))
stirred m (e ∷ past) later j t p h = by_entry e.time e.now e.actor e.kind h j t.0 p.0
  where
    by_entry : (time : ℕ) (now : EventNow) (who : Actor) (k : Kind) → is_jump k ≡ true → JournalPart m (journal (entry_of time now who k ∷ past)) → JointStep m past (entry_of time now who k) (class_of k) → now ≡ numbers past
        → is_idle m (journal (entry_of time now who k ∷ past)) (λ s. history s (entry_of time now who k ∷ past)) later ≡ false
    by_entry time now who kind.Jump x j t n =
        subst (λ (w : Actor). is_idle m (entry_of time now w kind.Jump ∷ journal past) (λ s. history s past) later ≡ false) (sym j.0.0)
        (wake m (journal past) (λ s. history s past) now later time j.1 (subst (λ (w : EventNow). JumpStep m (journal past) (λ s. history s past) w time) (sym n) t))
    by_entry time now who _ x j t n = absurd (true≢false (sym x))

one_jump : (k : Kind) (n : ℕ) → one_but_jump k n + one_if (is_jump k) ≡ n + 1
one_jump kind.Jump n = omega arith
one_jump _ n = omega arith

idle_at : (m : Machine) (past : List Entry) (e : Entry) (k : Kind) → is_jump k ≡ true → JointStep m past e (class_of k) → is_idle m (journal past) (λ s. history s past) (numbers past) ≡ true
idle_at m past e kind.Jump x t = t.idle
idle_at m past e _ x t = absurd (true≢false (sym x))

-- so a list is at most twice as long as without its jumps, and one
lengths : (m : Machine) (past : List Entry) → JournalPart m (journal past) → JointPart m past → AreNumbered past → length past ≤ 2 * but_jumps past + one_if (jumped past)
lengths m [] j t p = omega arith
lengths m (e ∷ past) j t p = by_jump (is_jump e.kind) refl (lengths m past before t.1 p.2)
  where
    before : JournalPart m (journal past)
    before = journal_rest m e (journal past) (is_in_journal (class_of e.kind)) j

    none : (b : Bool) → jumped past ≡ b → is_idle m (journal past) (λ s. history s past) (numbers past) ≡ true → one_if b ≡ 0
    none false h i = refl
    none true h i = absurd (true≢false (sym i ∙ stirred m past (numbers past) before t.1 p.2 h))

    by_jump : (b : Bool) → is_jump e.kind ≡ b → length past ≤ 2 * but_jumps past + one_if (jumped past) → suc (length past) ≤ 2 * one_but_jump e.kind (but_jumps past) + one_if (is_jump e.kind)
    by_jump true x l = omega (arith, l, none (jumped past) refl (idle_at m past e e.kind x t.0), one_jump e.kind (but_jumps past), ap one_if x)
    by_jump false x l = omega (arith, l, one_at_most (jumped past), one_jump e.kind (but_jumps past), ap one_if x)

-- ---- the bounds

-- a test that all of a range pass, one passes
passes : (f : ℕ → Bool) (a n s : ℕ) → list_all f (range_with_len a n) ≡ true → a ≤ s → s < a + n → f s ≡ true
passes f a zero s h low high = absurd (omega arith)
passes f a (suc n) s h low high = by_first (nat_lt a s) refl (λ more. passes f (a + 1) n s (and_right (f a) (list_all f (range_with_len (a + 1) n)) h) more (omega (arith, high)))
  where
    by_first : (b : Bool) → nat_lt a s ≡ b → (a + 1 ≤ s → f s ≡ true) → f s ≡ true
    by_first true x rest = rest (grind (arith, nat_tests))
    by_first false x rest =
        let none : s ≤ a = grind (arith, nat_tests) in
        let same : a ≡ s = omega (arith, none, low) in
        subst (λ (k : ℕ). f k ≡ true) same (and_left (f a) (list_all f (range_with_len (a + 1) n)) h)

sources_few : (m : Machine) (past : List Entry) → IsLegal m past → (n : ℕ) → n ≤ length m.sources + 1 → places n past ≤ most_of_sources m n
sources_few m past h zero l = omega arith
sources_few m past h (suc n) l =
    let own : nat_le (length (history n past)) most_entries ≡ true = passes (is_short past) 0 (length m.sources + 1) n h.histories.short (omega arith) (omega (arith, l)) in
    let short : length (history n past) ≤ most_entries = grind (arith, nat_tests) in
    omega (arith, sources_few m past h n (omega (arith, l)), histories_keep m past h n, short)

-- a legal list is at most twice as long as its journal but its jumps, and its sources' entries, and one
list_bounded : (m : Machine) → IsAccepted m → (past : List Entry) → IsLegal m past → length past ≤ 2 * (most_of_journal m + places (length m.sources + 1) past) + 1
list_bounded m acc past h =
    omega (arith, lengths m past h.journal h.joint h.placed, one_at_most (jumped past), but_parts m past h.histories.there, journal_bounded m acc (journal past) h.journal)

pub logs_bounded : LogsAreBounded
logs_bounded m acc past h = omega (arith, list_bounded m acc past h, sources_few m past h (length m.sources + 1) (omega arith))

-- ---- one number

pub few_in_journal : (m : Machine) → IsAccepted m → most_of_journal m ≤ 3432512
few_in_journal m acc =
    let each : enough m ≤ (length m.devices + 50) * 20 = omega (arith, acc.syscore, acc.notifiers, acc.cpus_most) in
    let tries : most_attempts m * enough m ≤ most_attempts m * ((length m.devices + 50) * 20) = mul-le (most_attempts m) (enough m) (most_attempts m) ((length m.devices + 50) * 20) (omega arith) each in
    let all : most_attempts m * ((length m.devices + 50) * 20) ≡ most_attempts m * (length m.devices + 50) * 20 = sym (mul_assoc (most_attempts m) (length m.devices + 50) 20) in
    let fifty : most_attempts m * 50 ≤ most_attempts m * (length m.devices + 50) = mul-le (most_attempts m) 50 (most_attempts m) (length m.devices + 50) (omega arith) (omega arith) in
    let few : 2 * most_attempts m ≤ 4000 = omega (arith, fifty, acc.attempts) in
    let freezes : 2 * most_attempts m * length m.actors ≤ 4000 * 256 = mul-le (2 * most_attempts m) (length m.actors) 4000 256 few acc.actors in
    omega (arith, tries, all, acc.attempts, freezes, acc.steps, acc.actors, acc.cycles_most)

pub all_bounded : AllLogsAreBounded
all_bounded m acc past h = omega (arith, list_bounded m acc past h, few_in_journal m acc, few_entries m acc.sources past h.histories)
