-- The sources of a machine cannot register so many events that the visible count comes round.
use Rattle.std.proofs.Common.{◌≡◌, ◌≤◌, ◌<◌, ◌+◌, ◌*◌, ◌∙◌, ℕ, zero, suc, Bool, true, false, ◌==◌, ◌&&◌, nat_le, List, [], ◌∷◌, length, refl, sym, subst, cond, arith}
use Rattle.std.specs.List.{list_all, range_with_len}
use Rattle.std.proofs.lemmas.Bool.{true≢false}
use Rattle.std.proofs.lemmas.Bool.Decides.{nat_tests}
use Rattle.sleep_model.specs.declared.entry.Actor.{Actor}
use Rattle.sleep_model.specs.declared.entry.Entry.{Entry}
use Rattle.sleep_model.specs.declared.entry.Kind.{Kind}
use Rattle.sleep_model.specs.declared.entry.Kind.TheVariants as kind
use Rattle.sleep_model.specs.declared.machine.Machine.{Machine}
use Rattle.sleep_model.specs.declared.word.EventNow.{EventNow}
use Rattle.sleep_model.specs.Legal.{IsLegal, HistoriesFit, is_there, is_short}
use Rattle.sleep_model.specs.Numbers.{numbers}
use Rattle.sleep_model.specs.EntryClasses.{class_of}
use Rattle.sleep_model.specs.Sources.{history, is_of, most_entries}

-- registered events are never forgotten
pub count_rises : (e : Entry) (past : List Entry) → (numbers past).count ≤ (numbers (e ∷ past)).count
count_rises e past = by_kind e.time e.now e.actor e.kind
  where
    by_kind : (time : ℕ) (now : EventNow) (a : Actor) (k : Kind) → (numbers past).count ≤ (numbers (record { time = time; now = now; actor = a; kind = k } ∷ past)).count
    by_kind time now a (kind.Finish s) = omega arith
    by_kind time now a (kind.Start s) = omega arith
    by_kind time now a (kind.Hard s) = omega arith
    by_kind time now a _ = omega arith

-- the entries of the first n sources
abbrev pub places : ℕ → List Entry → ℕ
places zero past = 0
places (suc n) past = length (history n past) + places n past

-- an entry takes a place in its source's history at most
pub places_rise : (n : ℕ) (e : Entry) (past : List Entry) → places n past ≤ places n (e ∷ past)
places_rise zero e past = omega arith
places_rise (suc n) e past = omega (arith, places_rise n e past, longer (is_of n (class_of e.kind)))
  where
    longer : (b : Bool) → length (history n past) ≤ length (cond b (e ∷ history n past) (history n past))
    longer true = omega arith
    longer false = omega arith

-- a step of the word takes one
pub place_taken : (n s : ℕ) → s < n → (e : Entry) (past : List Entry) → ((t : ℕ) → is_of t (class_of e.kind) ≡ (s == t)) → places n past + 1 ≤ places n (e ∷ past)
place_taken zero s l e past own = absurd (omega arith)
place_taken (suc n) s l e past own = by_last (s == n) (is_of n (class_of e.kind)) (own n) refl (λ k. place_taken n s k e past own)
  where
    by_last : (b c : Bool) → c ≡ (s == n) → (s == n) ≡ b → (s < n → places n past + 1 ≤ places n (e ∷ past)) → places (suc n) past + 1 ≤ length (cond c (e ∷ history n past) (history n past)) + places n (e ∷ past)
    by_last true true x y before = omega (arith, places_rise n e past)
    by_last false true x y before = absurd (true≢false (x ∙ y))
    by_last true false x y before = absurd (true≢false (sym (x ∙ y)))
    by_last false false x y before = let within : s < n = grind (arith, nat_tests) in omega (arith, before within)

-- each step of the word is an entry of a source of the machine
moves_placed : (m : Machine) (past : List Entry) → list_all (λ e. is_there m (class_of e.kind)) past ≡ true → (numbers past).inpr + (numbers past).count + (numbers past).hard ≤ places (length m.sources + 1) past
moves_placed m [] there = omega arith
moves_placed m (e ∷ past) there = by_kind e.time e.now e.actor e.kind there (λ h. moves_placed m past h)
  where
    rest : (b : Bool) → (b && list_all (λ x. is_there m (class_of x.kind)) past) ≡ true → list_all (λ x. is_there m (class_of x.kind)) past ≡ true
    rest true h = h
    rest false h = absurd (cc)

    first : (b c : Bool) → (b && c) ≡ true → b ≡ true
    first true c h = refl
    first false c h = h

    within : (s : ℕ) → nat_le s (length m.sources) ≡ true → s < length m.sources + 1
    within s h = grind (arith, nat_tests)

    by_kind : (time : ℕ) (now : EventNow) (a : Actor) (k : Kind) → list_all (λ x. is_there m (class_of x.kind)) (record { time = time; now = now; actor = a; kind = k } ∷ past) ≡ true
        → (list_all (λ x. is_there m (class_of x.kind)) past ≡ true → (numbers past).inpr + (numbers past).count + (numbers past).hard ≤ places (length m.sources + 1) past)
        → (numbers (record { time = time; now = now; actor = a; kind = k } ∷ past)).inpr + (numbers (record { time = time; now = now; actor = a; kind = k } ∷ past)).count + (numbers (record { time = time; now = now; actor = a; kind = k } ∷ past)).hard
        ≤ places (length m.sources + 1) (record { time = time; now = now; actor = a; kind = k } ∷ past)
    by_kind time now a (kind.Finish s) h before =
        let own : s < length m.sources + 1 = within s (first (nat_le s (length m.sources)) (list_all (λ x. is_there m (class_of x.kind)) past) h) in
        omega (arith, before (rest (nat_le s (length m.sources)) h), place_taken (length m.sources + 1) s own (record { time = time; now = now; actor = a; kind = kind.Finish s }) past (λ t. refl))
    by_kind time now a (kind.Start s) h before =
        let own : s < length m.sources + 1 = within s (first (nat_le s (length m.sources)) (list_all (λ x. is_there m (class_of x.kind)) past) h) in
        omega (arith, before (rest (nat_le s (length m.sources)) h), place_taken (length m.sources + 1) s own (record { time = time; now = now; actor = a; kind = kind.Start s }) past (λ t. refl))
    by_kind time now a (kind.Hard s) h before =
        let own : s < length m.sources + 1 = within s (first (nat_le s (length m.sources)) (list_all (λ x. is_there m (class_of x.kind)) past) h) in
        omega (arith, before (rest (nat_le s (length m.sources)) h), place_taken (length m.sources + 1) s own (record { time = time; now = now; actor = a; kind = kind.Hard s }) past (λ t. refl))
    by_kind time now a k h before = omega (arith, before (rest (is_there m (class_of k)) h), places_rise (length m.sources + 1) (record { time = time; now = now; actor = a; kind = k }) past)

-- short histories have few places together
few_places : (past : List Entry) (n : ℕ) → ((s : ℕ) → s < n → length (history s past) ≤ most_entries) → places n past ≤ n * 60000
few_places past zero h = omega arith
few_places past (suc n) h = omega (arith, few_places past n (λ s l. h s (omega arith)), h n (omega arith))

-- a test that all of a range pass, one passes
passes : (f : ℕ → Bool) (a n s : ℕ) → list_all f (range_with_len a n) ≡ true → a ≤ s → s < a + n → f s ≡ true
passes f a zero s h low high = absurd (omega arith)
passes f a (suc n) s h low high = by_first (f a) (a == s) refl refl h (λ l t. passes f (a + 1) n s t l (omega arith))
  where
    by_first : (b c : Bool) → f a ≡ b → (a == s) ≡ c → (b && list_all f (range_with_len (a + 1) n)) ≡ true → (a + 1 ≤ s → list_all f (range_with_len (a + 1) n) ≡ true → f s ≡ true) → f s ≡ true
    by_first false c x y z later = absurd (cc)
    by_first true true x y z later = let same : a ≡ s = grind (arith, nat_tests) in subst (λ (k : ℕ). f k ≡ true) same x
    by_first true false x y z later = let l : a + 1 ≤ s = grind (arith, nat_tests) in later l z

-- the sources of a machine have few entries together
pub few_entries : (m : Machine) → length m.sources ≤ 255 → (past : List Entry) → HistoriesFit m past → places (length m.sources + 1) past ≤ 15360000
few_entries m sources past fit =
    let short : (s : ℕ) → s < length m.sources + 1 → length (history s past) ≤ most_entries =
    λ s l. (let one : nat_le (length (history s past)) most_entries ≡ true = passes (is_short past) 0 (length m.sources + 1) s fit.short (omega arith) (omega (arith, l)) in grind (arith, nat_tests)) in
    omega (arith, few_places past (length m.sources + 1) short, sources)

-- so few steps are made in a legal list of entries that no part of the word comes near its limit
pub few_moves : (m : Machine) → length m.sources ≤ 255 → (past : List Entry) → HistoriesFit m past → (numbers past).inpr + (numbers past).count + (numbers past).hard ≤ 15360000
few_moves m sources past fit = omega (arith, moves_placed m past fit.there, few_entries m sources past fit)

-- the visible count is another after each registered event
pub few_registered : (m : Machine) → length m.sources ≤ 255 → (past : List Entry) → IsLegal m past → (numbers past).count < 16777216
few_registered m sources past legal = omega (arith, few_moves m sources past legal.histories)
