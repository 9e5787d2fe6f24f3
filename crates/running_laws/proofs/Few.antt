-- How many entries a run has made at most.
use Rattle.std.proofs.Common.{◌≡◌, ◌≤◌, ◌<◌, ◌+◌, ◌-◌, ◌*◌, ◌^◌, ◌∙◌, Option, ℕ, zero, suc, Bool, true, false, nat_lt, List, [], ◌∷◌, length, map, slice_get, cond, refl, sym, ap, subst, arith}
use Rattle.std.proofs.lemmas.Bool.{true≢false}
use Rattle.std.proofs.lemmas.Bool.Decides.{nat_tests}
use Rattle.sleep_model.specs.declared.entry.Actor.{Actor}
use Rattle.sleep_model.specs.declared.entry.Entry.{Entry}
use Rattle.sleep_model.specs.declared.entry.Kind.{Kind}
use Rattle.sleep_model.specs.declared.entry.Kind.TheVariants as kind
use Rattle.sleep_model.specs.declared.entry.JournalEntry.{JournalEntry}
use Rattle.sleep_model.specs.declared.entry.SourceEntry.{SourceEntry}
use Rattle.sleep_model.specs.declared.machine.Machine.{Machine}
use Rattle.sleep_model.specs.declared.word.EventNow.{EventNow}
use Rattle.sleep_model.specs.declared.word.Stamp.{Stamp}
use Rattle.sleep_model.specs.Legal.{JournalPart, JumpStep, is_idle}
use Rattle.sleep_model.specs.Merge.{of_source}
use Rattle.sleep_model.specs.Numbers.{time_after, time_of}
use Rattle.sleep_model.specs.EntryClasses.{class_of}
use Rattle.sleep_model.specs.Places.{one_if}
use Rattle.sleep_laws.proofs.LockHolding.{entry_of}
use Rattle.room_laws.proofs.Summing.{below_total, if_there, total}
use Rattle.room_laws.proofs.Weighing.{below, below_most}
use Rattle.log_merge.specs.Remainders.{unstamped}
use Rattle.run_laws.specs.Apart.{AreJumps, JumpIsLegal, before}
use Rattle.end_laws.specs.Bounds.{but_jumps, one_but_jump}
use Rattle.end_laws.proofs.Bounding.{few_in_journal, journal_bounded}
use Rattle.end_laws.proofs.Moments.{wake}
use Rattle.end_laws.proofs.Nearby.{are_bounded}
use Rattle.sleep_state.specs.JournalRooms.{entries}
use Rattle.sleep_script.specs.Jobs.{JobState}
use Rattle.wakeup_source.specs.SourceStates.{SourceState}
use Rattle.running_laws.specs.Running.{IsGoing, source_entry_count, entry_count, histories}
use Rattle.running_laws.proofs.Invariant.{short}
use Rattle.running_laws.proofs.Lists.{entries_unstamped, source_beyond}
use Rattle.running_laws.proofs.Rising.{EndsBy}

-- ---- what sources had before a moment

before_more : (t u : ℕ) → t ≤ u → (xs : List Entry) → length (before t xs) ≤ length (before u xs)
before_more t u l [] = omega arith
before_more t u l (x ∷ xs) = by_times (nat_lt x.time t) (nat_lt x.time u) refl refl (before_more t u l xs)
  where
    by_times : (a b : Bool) → nat_lt x.time t ≡ a → nat_lt x.time u ≡ b → length (before t xs) ≤ length (before u xs) → length (cond a (x ∷ before t xs) (before t xs)) ≤ length (cond b (x ∷ before u xs) (before u xs))
    by_times true true e f h = omega (arith, h)
    by_times true false e f h = absurd (let early : x.time < t = grind (arith, nat_tests) in let late : u ≤ x.time = grind (arith, nat_tests) in omega (arith, l, early, late))
    by_times false true e f h = omega (arith, h)
    by_times false false e f h = h

-- as many are the same ones
before_same : (t u : ℕ) → t ≤ u → (xs : List Entry) → length (before u xs) ≤ length (before t xs) → before u xs ≡ before t xs
before_same t u l [] h = refl
before_same t u l (x ∷ xs) h = by_times (nat_lt x.time t) (nat_lt x.time u) refl refl h (λ k. before_same t u l xs k)
  where
    by_times : (a b : Bool) → nat_lt x.time t ≡ a → nat_lt x.time u ≡ b → length (cond b (x ∷ before u xs) (before u xs)) ≤ length (cond a (x ∷ before t xs) (before t xs)) → (length (before u xs) ≤ length (before t xs) → before u xs ≡ before t xs)
        → cond b (x ∷ before u xs) (before u xs) ≡ cond a (x ∷ before t xs) (before t xs)
    by_times true true e f h rest = ap (λ ys. x ∷ ys) (rest (omega (arith, h)))
    by_times true false e f h rest = absurd (let early : x.time < t = grind (arith, nat_tests) in let late : u ≤ x.time = grind (arith, nat_tests) in omega (arith, l, early, late))
    by_times false true e f h rest = absurd (omega (arith, h, before_more t u l xs))
    by_times false false e f h rest = rest h

before_some : (t : ℕ) (xs : List Entry) → length (before t xs) ≤ length xs
before_some t [] = omega arith
before_some t (x ∷ xs) = by_time (nat_lt x.time t) (before_some t xs)
  where
    by_time : (a : Bool) → length (before t xs) ≤ length xs → length (cond a (x ∷ before t xs) (before t xs)) ≤ suc (length xs)
    by_time true h = omega (arith, h)
    by_time false h = omega (arith, h)

-- if sums are no greater, neither is each
below_each : (n : ℕ) (f g : ℕ → ℕ) → ((i : ℕ) → f i ≤ g i) → below n g ≤ below n f → (i : ℕ) → i < n → g i ≤ f i
below_each zero f g h l i k = absurd (omega arith)
below_each (suc n) f g h l i k = by_last (nat_lt i n) refl (below_each n f g h (omega (arith, l, h n)) i)
  where
    by_last : (b : Bool) → nat_lt i n ≡ b → (i < n → g i ≤ f i) → g i ≤ f i
    by_last true e rest = rest (grind (arith, nat_tests))
    by_last false e rest =
        let last : n ≤ i = grind (arith, nat_tests) in
        let same : n ≡ i = omega (arith, last, k) in
        let one : g n ≤ f n = omega (arith, l, below_most n f g h) in
        subst (λ (j : ℕ). g j ≤ f j) same one

-- ---- a journal with its jumps

abbrev is_jump : Kind → Bool
is_jump kind.Jump = true
is_jump _ = false

abbrev jumped : List Entry → Bool
jumped [] = false
jumped (e ∷ past) = is_jump e.kind

module _ (m : Machine) (of : ℕ → List Entry) (n : ℕ) (outside : (s : ℕ) → n ≤ s → of s ≡ []) where
  -- what the sources had before that moment
  abbrev prior : ℕ → ℕ → List Entry
  prior t s = before t (of s)

  -- how many entries that is
  abbrev had : ℕ → ℕ
  had t = below n (λ s. length (before t (of s)))

  had_more : (t u : ℕ) → t ≤ u → had t ≤ had u
  had_more t u l = below_most n (λ s. length (before t (of s))) (λ s. length (before u (of s))) (λ s. before_more t u l (of s))

  -- sources that have as many had the same
  had_same : (t u : ℕ) → t ≤ u → had u ≤ had t → prior u ≡ prior t
  had_same t u l h = λ i s. each s i
    where
      within : (s : ℕ) → s < n → before u (of s) ≡ before t (of s)
      within s k = before_same t u l (of s) (below_each n (λ x. length (before t (of x))) (λ x. length (before u (of x))) (λ x. before_more t u l (of x)) h s k)

      by_range : (s : ℕ) (b : Bool) → nat_lt s n ≡ b → before u (of s) ≡ before t (of s)
      by_range s true e = within s (grind (arith, nat_tests))
      by_range s false e = let out : n ≤ s = grind (arith, nat_tests) in ap (before u) (outside s out) ∙ ap (before t) (sym (outside s out))

      each : (s : ℕ) → before u (of s) ≡ before t (of s)
      each s = by_range s (nat_lt s n) refl

  -- after a jump somebody can make something, by what the sources had before it
  stirred : (past : List Entry) (later : EventNow) → JournalPart m past → AreJumps m past of → jumped past ≡ true → is_idle m past (λ s. before (time_of past) (of s)) later ≡ false
  stirred [] later j a h = absurd (true≢false (sym h))
  stirred (e ∷ past) later j a h = by_entry e.time e.now e.actor e.kind h j a.0
    where
      by_entry : (time : ℕ) (now : EventNow) (who : Actor) (k : Kind) → is_jump k ≡ true → JournalPart m (entry_of time now who k ∷ past) → JumpIsLegal m past of (entry_of time now who k) (class_of k)
          → is_idle m (entry_of time now who k ∷ past) (λ s. before (time_of (entry_of time now who k ∷ past)) (of s)) later ≡ false
      by_entry time now who kind.Jump x j a =
          subst (λ (w : Actor). is_idle m (entry_of time now w kind.Jump ∷ past) (λ s. before time (of s)) later ≡ false) (sym j.0.0)
          (wake m past (λ s. before time (of s)) now later time j.1 a)
      by_entry time now who _ x j a = absurd (true≢false (sym x))

  one_at_most : (b : Bool) → one_if b ≤ 1
  one_at_most true = omega arith
  one_at_most false = omega arith

  -- a journal has no more jumps than other entries, entries of sources before the last jump, and one
  journal_length : (past : List Entry) → JournalPart m past → AreJumps m past of → length past ≤ 2 * but_jumps past + had (time_of past) + one_if (jumped past)
  journal_length [] j a = omega arith
  journal_length (e ∷ past) j a = by_kind e.time e.now e.actor e.kind j a.0 (journal_length past j.1 a.1) (λ later x. stirred past later j.1 a.1 x)
    where
      by_kind : (time : ℕ) (now : EventNow) (who : Actor) (k : Kind) → JournalPart m (entry_of time now who k ∷ past) → JumpIsLegal m past of (entry_of time now who k) (class_of k) → length past ≤ 2 * but_jumps past + had (time_of past) + one_if (jumped past) → ((later : EventNow) → jumped past ≡ true → is_idle m past (λ s. before (time_of past) (of s)) later ≡ false)
          → suc (length past) ≤ 2 * one_but_jump k (but_jumps past) + had (time_after k time (time_of past)) + one_if (is_jump k)
      by_kind time now who kind.Jump j a h wakes = by_jumped (jumped past) refl
        where
          further : had (time_of past) ≤ had time
          further = had_more (time_of past) time (omega (arith, j.0.1))

          by_had : jumped past ≡ true → (b : Bool) → nat_lt (had (time_of past)) (had time) ≡ b → had (time_of past) + 1 ≤ had time
          by_had x true e = grind (arith, nat_tests)
          by_had x false e =
              let few : had time ≤ had (time_of past) = grind (arith, nat_tests) in
              let same = had_same (time_of past) time (omega (arith, j.0.1)) few in
              absurd (true≢false (sym (subst (λ (o : ℕ → List Entry). is_idle m past o now ≡ true) same a.idle) ∙ wakes now x))

          by_jumped : (b : Bool) → jumped past ≡ b → suc (length past) ≤ 2 * but_jumps past + had time + 1
          by_jumped false x = omega (arith, h, further, ap one_if x)
          by_jumped true x = omega (arith, h, by_had x (nat_lt (had (time_of past)) (had time)) refl, ap one_if x)
      by_kind time now who _ j a h wakes = omega (arith, h, one_at_most (jumped past))

-- a journal and its sources' histories have few entries together
few_apart : (m : Machine) (of : ℕ → List Entry) (n : ℕ) → ((s : ℕ) → n ≤ s → of s ≡ []) → (past : List Entry) → JournalPart m past → AreJumps m past of → length past ≤ 2 * but_jumps past + below n (λ s. length (of s)) + 1
few_apart m of n out past j a = omega (arith, journal_length m of n out past j a, below_most n (λ s. length (before (time_of past) (of s))) (λ s. length (of s)) (λ s. before_some (time_of past) (of s)), one_at_most m of n out (jumped past))

-- ---- a run

-- the entries of these sources
abbrev of_all : List SourceState → ℕ
of_all sources = total (λ (s : SourceState). length s.past) sources

unstamped_length : (xs : List JournalEntry) → length (unstamped xs) ≡ length xs
unstamped_length [] = refl
unstamped_length (e ∷ xs) = ap suc (unstamped_length xs)

map_length : (xs : List SourceEntry) → length (map of_source xs) ≡ length xs
map_length [] = refl
map_length (e ∷ xs) = ap suc (map_length xs)

history_length : (sources : List SourceState) (s : ℕ) → length (histories sources s) ≡ if_there (λ (x : SourceState). length x.past) (slice_get sources s)
history_length [] s = refl
history_length (x ∷ sources) zero = unstamped_length (map of_source x.past) ∙ map_length x.past
history_length (x ∷ sources) (suc s) = history_length sources s

histories_few : (sources : List SourceState) (n : ℕ) → below n (λ s. length (histories sources s)) ≤ of_all sources
histories_few sources n =
    omega (
      arith,
      below_most n (λ s. length (histories sources s)) (λ s. if_there (λ (x : SourceState). length x.past) (slice_get sources s)) (λ s. omega (arith, history_length sources s)),
      below_total (λ (x : SourceState). length x.past) sources n,
    )

all_short : (sources : List SourceState) → ((s : ℕ) → length (histories sources s) ≤ 60000) → of_all sources ≤ length sources * 60000
all_short [] h = omega arith
all_short (x ∷ sources) h =
    let first : length x.past ≤ 60000 = omega (arith, h 0, unstamped_length (map of_source x.past), map_length x.past) in
    let rest = all_short sources (λ s. h (suc s)) in
    omega (arith, first, rest)

all_counted : (sources : List SourceState) → source_entry_count sources ≡ of_all sources
all_counted [] = refl
all_counted (x ∷ sources) = ap (λ n. length x.past + n) (all_counted sources)

-- a run has made as many entries as a log has at most
pub run_few : (m : Machine) (journal : List JournalEntry) (sources : List SourceState) (jobs : Actor → JobState) {floors : Actor → Stamp} → IsGoing m journal sources jobs floors → entry_count journal sources ≤ 37585025
run_few m journal sources jobs r =
    let out : (s : ℕ) → length m.sources + 1 ≤ s → histories sources s ≡ [] = λ s l. ap unstamped (source_beyond sources s (omega (arith, l, r.sources_are.count))) in
    omega (
      arith,
      all_counted sources,
      few_apart m (histories sources) (length m.sources + 1) out (unstamped journal) r.invariant.of_journal r.invariant.of_jumps,
      unstamped_length journal,
      histories_few sources (length m.sources + 1),
      all_short sources (short m journal sources jobs r),
      r.sources_are.count,
      r.accepted.sources,
      journal_bounded m r.accepted (unstamped journal) r.invariant.of_journal,
      few_in_journal m r.accepted,
    )

-- so ticks and moments stay in their range
pub tick_small : (m : Machine) (journal : List JournalEntry) (sources : List SourceState) (jobs : Actor → JobState) {floors : Actor → Stamp} → IsGoing m journal sources jobs floors → (who : Actor) → (floors who).tick < 2 ^ 64 - 1
tick_small m journal sources jobs g who = omega (arith, run_few m journal sources jobs g, g.low.of_actors who)

pub next_small : (m : Machine) (journal : List JournalEntry) (sources : List SourceState) (jobs : Actor → JobState) {floors : Actor → Stamp} → IsGoing m journal sources jobs floors → (word : EventNow) (to : ℕ)
    → JumpStep m (entries journal) (histories sources) word to → to ≤ 2 ^ 63
next_small m journal sources jobs g word to step =
    let legal : JournalPart m (entries journal) = subst (JournalPart m) (sym (entries_unstamped journal)) g.invariant.of_journal in
    let ahead : to ≤ time_of (entries journal) + 86400000 =
    subst (λ (o : Option ℕ). EndsBy (time_of (entries journal) + 86400000) o) step.least (are_bounded m g.accepted (entries journal) (histories sources) legal g.near.expiries) in
    omega (arith, ahead, g.near.time, run_few m journal sources jobs g)
