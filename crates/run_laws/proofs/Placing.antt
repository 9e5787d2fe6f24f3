-- Each merged entry carries the word and the time of its point.
use Rattle.std.proofs.Common.{◌≡◌, ◌∙◌, ◌≤◌, ◌<◌, ◌==◌, ℕ, nat_lt, max, Bool, true, false, ◌&&◌, List, [], ◌∷◌, map, if◌then◌else◌, refl, sym, ap, subst, arith}
use Rattle.std.proofs.lemmas.Bool.Decides.{nat_tests}
use mathlib.Core.List.{reverse_aux}
use Rattle.sleep_model.specs.declared.word.EventNow.{EventNow}
use Rattle.sleep_model.specs.declared.entry.Entry.{Entry}
use Rattle.sleep_model.specs.declared.entry.JournalEntry.{JournalEntry}
use Rattle.sleep_model.specs.declared.entry.Kind.{Kind}
use Rattle.sleep_model.specs.declared.entry.Kind.TheVariants as kind
use Rattle.sleep_model.specs.Legal.{IsOnTime, AreNumbered}
use Rattle.sleep_model.specs.Merge.{fits_time, is_chained, is_jump, is_timed, is_word}
use Rattle.sleep_model.specs.Numbers.{after_step, numbers, time_after, time_of, word_step}
use Rattle.sleep_model.specs.EntryClasses.{EntryClass, OfJournal, Notes, Moves, OfTime, class_of}
use Rattle.sleep_model.specs.Word.{position}
use Rattle.log_merge.proofs.Reading.{both_left, both_right}
use Rattle.run_laws.specs.Apart.{past_of}

-- ---- words

-- each entry carries the word of its point
abbrev pub Numbered : List Entry → Type 0
Numbered [] = Unit {0}
Numbered (e ∷ past) = (e.now ≡ numbers past) × Numbered past

pub number_is : (a b : ℕ) → (a == b) ≡ true → a ≡ b
number_is a b h = grind (arith, nat_tests)

pub word_is : (a b : EventNow) → is_word a b ≡ true → a ≡ b
word_is a b h =
    let inpr : a.inpr ≡ b.inpr = number_is a.inpr b.inpr (both_left (a.inpr == b.inpr) (a.count == b.count) (both_left ((a.inpr == b.inpr) && (a.count == b.count)) (a.hard == b.hard) h)) in
    let count : a.count ≡ b.count = number_is a.count b.count (both_right (a.inpr == b.inpr) (a.count == b.count) (both_left ((a.inpr == b.inpr) && (a.count == b.count)) (a.hard == b.hard) h)) in
    let hard : a.hard ≡ b.hard = number_is a.hard b.hard (both_right ((a.inpr == b.inpr) && (a.count == b.count)) (a.hard == b.hard) h) in
    λ i. record { inpr = inpr i; count = count i; hard = hard i }

chain_on : (xs : List JournalEntry) (word : EventNow) (past : List Entry) → is_chained word xs ≡ true → word ≡ numbers past → Numbered past
    → Numbered (reverse_aux (map (λ e. e.entry) xs) past)
chain_on [] word past h w n = n
chain_on (e ∷ xs) word past h w n =
    let now : e.entry.now ≡ word = word_is e.entry.now word (both_left (is_word e.entry.now word) (e.stamp.pos == position word)
    (both_left (is_word e.entry.now word && (e.stamp.pos == position word)) (is_chained (after_step (word_step e.entry.kind) word) xs) h)) in
    chain_on xs (after_step (word_step e.entry.kind) word) (e.entry ∷ past)
    (both_right (is_word e.entry.now word && (e.stamp.pos == position word)) (is_chained (after_step (word_step e.entry.kind) word) xs) h)
    (ap (after_step (word_step e.entry.kind)) w) (now ∙ w, n)

pub chain_numbers : (xs : List JournalEntry) → is_chained (record { inpr = 0; count = 0; hard = 0 }) xs ≡ true → Numbered (past_of xs)
chain_numbers xs h = chain_on xs (record { inpr = 0; count = 0; hard = 0 }) [] h refl tt

-- ---- times

-- a jump raises the time, and another entry has it
abbrev pub IsClock : List Entry → ℕ → EntryClass → Type 0
IsClock past time OfTime = time_of past < time
IsClock past time _ = time ≡ time_of past

abbrev pub Clocked : List Entry → Type 0
Clocked [] = Unit {0}
Clocked (e ∷ past) = IsClock past e.time (class_of e.kind) × Clocked past

jump_sets : (k : Kind) (time before : ℕ) → is_jump (class_of k) ≡ true → time_after k time before ≡ time
jump_sets kind.Jump time before h = refl
jump_sets k time before h = absurd (cc)

pub other_keeps : (k : Kind) (time before : ℕ) → is_jump (class_of k) ≡ false → time_after k time before ≡ before
other_keeps kind.Jump time before h = absurd (cc)
other_keeps k time before h = refl

-- after an entry the time is its own
pub clock_time : (e : Entry) (past : List Entry) → IsClock past e.time (class_of e.kind) → time_of (e ∷ past) ≡ e.time
clock_time e past h = by (class_of e.kind) refl h
  where
    by : (p : EntryClass) → class_of e.kind ≡ p → IsClock past e.time p → time_of (e ∷ past) ≡ e.time
    by OfJournal is c = other_keeps e.kind e.time (time_of past) (ap is_jump is) ∙ sym c
    by (Notes s x) is c = other_keeps e.kind e.time (time_of past) (ap is_jump is) ∙ sym c
    by (Moves s x) is c = other_keeps e.kind e.time (time_of past) (ap is_jump is) ∙ sym c
    by OfTime is c = jump_sets e.kind e.time (time_of past) (ap is_jump is)

-- and no less than before
pub clock_rises : (e : Entry) (past : List Entry) → IsClock past e.time (class_of e.kind) → time_of past ≤ e.time
clock_rises e past h = by (class_of e.kind) h
  where
    by : (p : EntryClass) → IsClock past e.time p → time_of past ≤ e.time
    by OfJournal c = omega (arith, c)
    by (Notes s x) c = omega (arith, c)
    by (Moves s x) c = omega (arith, c)
    by OfTime c = omega (arith, c)

fits_clock : (e : JournalEntry) (time jumped last : ℕ) (past : List Entry) (p : EntryClass) → time ≡ time_of past
    → (if is_jump p then nat_lt time e.entry.time && nat_lt last e.stamp.tick else (e.entry.time == time) && nat_lt jumped e.stamp.tick) ≡ true
    → IsClock past e.entry.time p
fits_clock e time jumped last past OfJournal t h = number_is e.entry.time time (both_left (e.entry.time == time) (nat_lt jumped e.stamp.tick) h) ∙ t
fits_clock e time jumped last past (Notes s x) t h = number_is e.entry.time time (both_left (e.entry.time == time) (nat_lt jumped e.stamp.tick) h) ∙ t
fits_clock e time jumped last past (Moves s x) t h = number_is e.entry.time time (both_left (e.entry.time == time) (nat_lt jumped e.stamp.tick) h) ∙ t
fits_clock e time jumped last past OfTime t h = less e.entry.time (time_of past) (subst (λ (n : ℕ). nat_lt n e.entry.time ≡ true) t (both_left (nat_lt time e.entry.time) (nat_lt last e.stamp.tick) h))
  where
    less : (a b : ℕ) → nat_lt b a ≡ true → b < a
    less a b g = grind (arith, nat_tests)

clock_on : (xs : List JournalEntry) (time jumped last : ℕ) (past : List Entry) → is_timed time jumped last xs ≡ true → time ≡ time_of past → Clocked past
    → Clocked (reverse_aux (map (λ e. e.entry) xs) past)
clock_on [] time jumped last past h t c = c
clock_on (e ∷ xs) time jumped last past h t c =
    let after : Bool = is_timed e.entry.time (if is_jump (class_of e.entry.kind) then e.stamp.tick else jumped) (max last e.stamp.tick) xs in
    let here : IsClock past e.entry.time (class_of e.entry.kind) = fits_clock e time jumped last past (class_of e.entry.kind) t (both_left (fits_time time jumped last e) after h) in
    clock_on xs e.entry.time (if is_jump (class_of e.entry.kind) then e.stamp.tick else jumped) (max last e.stamp.tick) (e.entry ∷ past)
    (both_right (fits_time time jumped last e) after h) (sym (clock_time e.entry past here)) (here, c)

pub timed_clock : (xs : List JournalEntry) → is_timed 0 0 0 xs ≡ true → Clocked (past_of xs)
timed_clock xs h = clock_on xs 0 0 0 [] h refl tt

on_time : (past : List Entry) (time : ℕ) (p : EntryClass) → IsClock past time p → IsOnTime past time p
on_time past time OfJournal c = c
on_time past time (Notes s x) c = c
on_time past time (Moves s x) c = c
on_time past time OfTime c = tt

pub placed : (past : List Entry) → Numbered past → Clocked past → AreNumbered past
placed [] n c = tt
placed (e ∷ past) n c = (n.0, on_time past e.time (class_of e.kind) c.0, placed past n.1 c.1)
