-- The rules by rising number.
use Rattle.std.proofs.Common.{◌≡◌, ◌<◌, ◌≤◌, ◌+◌, ◌-◌, ◌||◌, ◌∙◌, ℕ, zero, suc, Bool, true, false, not, IsTrue, ◌↔◌, List, refl, ap, sym, subst, arith, ⊎_elim}
use Rattle.std.proofs.lemmas.Bool.{cases_lt}
use Rattle.sleep_model.specs.declared.entry.Entry.{Entry}
use Rattle.sleep_model.specs.declared.machine.Machine.{Machine}
use Rattle.sleep_model.specs.EntryClasses.{EntryClass, OfJournal, Notes, Moves, OfTime, journal, class_of}
use Rattle.rule_definitions.specs.Entry.{KeepsEntry, KeepsRule, OnJournal, Rule, Links, Numbers, Attempts, Reads, Walk, Skip, Runtime, Owed, Freezer, Path, Answers, Restored, Steps, Enabled, Source}
use Rattle.rule_definitions.specs.Verdict.{BreaksFirst, rule_number}
use Rattle.sleep_model.specs.Numbers.{numbers}
use Rattle.rule_definitions.specs.Answers.{KeepsAnswers}
use Rattle.rule_definitions.specs.Attempts.{KeepsAttempts}
use Rattle.rule_definitions.specs.Links.{KeepsLinks}
use Rattle.rule_definitions.specs.Owed.{KeepsOwed}
use Rattle.rule_definitions.specs.Reads.{KeepsReads}
use Rattle.rule_definitions.specs.Restored.{KeepsRestored}
use Rattle.rule_definitions.specs.Runtime.{KeepsRuntime}
use Rattle.rule_definitions.specs.Skip.{KeepsSkip}
use Rattle.check_rules.specs.Judging.{KeepsBelow, KeepsTogether, is_of_journal, rule_index, rule_at}

-- ---- a rule of the journal only

pub on_journal : {X : Type 0} (p : EntryClass) (b : Bool) → (IsTrue b ↔ X) → IsTrue (not (is_of_journal p) || b) ↔ OnJournal p X
on_journal OfJournal b h = h
on_journal (Notes s call) b h = (λ g. tt, λ g. refl)
on_journal (Moves s step) b h = (λ g. tt, λ g. refl)
on_journal OfTime b h = (λ g. tt, λ g. refl)

-- whose entry it is
pub of_journal : (p : EntryClass) → IsTrue (is_of_journal p) ↔ (p ≡ OfJournal)
of_journal OfJournal = (λ h. refl, λ h. refl)
of_journal (Notes s call) = (λ h. absurd (cc), λ h. absurd (cc))
of_journal (Moves s step) = (λ h. absurd (cc), λ h. absurd (cc))
of_journal OfTime = (λ h. absurd (cc), λ h. absurd (cc))

-- ---- indices and numbers

pub at_index : (rule : Rule) → rule_at (rule_index rule) ≡ rule
at_index Links = refl
at_index Numbers = refl
at_index Attempts = refl
at_index Reads = refl
at_index Walk = refl
at_index Skip = refl
at_index Runtime = refl
at_index Owed = refl
at_index Freezer = refl
at_index Path = refl
at_index Answers = refl
at_index Restored = refl
at_index Steps = refl
at_index Enabled = refl
at_index Source = refl

rises : (n : ℕ) → rule_number (rule_at n) ≤ rule_number (rule_at (suc n))
rises zero = omega arith
rises (suc zero) = omega arith
rises (suc (suc zero)) = omega arith
rises (suc (suc (suc zero))) = omega arith
rises (suc (suc (suc (suc zero)))) = omega arith
rises (suc (suc (suc (suc (suc zero))))) = omega arith
rises (suc (suc (suc (suc (suc (suc zero)))))) = omega arith
rises (suc (suc (suc (suc (suc (suc (suc zero))))))) = omega arith
rises (suc (suc (suc (suc (suc (suc (suc (suc zero)))))))) = omega arith
rises (suc (suc (suc (suc (suc (suc (suc (suc (suc zero))))))))) = omega arith
rises (suc (suc (suc (suc (suc (suc (suc (suc (suc (suc zero)))))))))) = omega arith
rises (suc (suc (suc (suc (suc (suc (suc (suc (suc (suc (suc zero))))))))))) = omega arith
rises (suc (suc (suc (suc (suc (suc (suc (suc (suc (suc (suc (suc zero)))))))))))) = omega arith
rises (suc (suc (suc (suc (suc (suc (suc (suc (suc (suc (suc (suc (suc zero))))))))))))) = omega arith
rises (suc (suc (suc (suc (suc (suc (suc (suc (suc (suc (suc (suc (suc (suc n)))))))))))))) = omega arith

rising : (k n : ℕ) → rule_number (rule_at n) ≤ rule_number (rule_at (k + n))
rising zero n = let e : zero + n ≡ n = omega arith in rw e (omega arith)
rising (suc k) n =
    let e : suc k + n ≡ suc (k + n) = omega arith in
    let below = rising k n in
    let step = rises (k + n) in
    rw e (omega (arith, below, step))

no_lesser : (n k : ℕ) → n ≤ k → rule_number (rule_at n) ≤ rule_number (rule_at k)
no_lesser n k h = let e : (k - n) + n ≡ k = omega (arith, h) in subst (λ j. rule_number (rule_at n) ≤ rule_number (rule_at j)) e (rising (k - n) n)

-- a rule of a lesser number has a lesser index
before : (rule : Rule) (n : ℕ) → rule_number rule < rule_number (rule_at n) → rule_index rule < n
before rule n h = ⊎_elim
    (λ below. below)
    (λ above.
    let least = no_lesser n (rule_index rule) above in
    let same : rule_number (rule_at (rule_index rule)) ≡ rule_number rule = ap rule_number (at_index rule) in
    absurd (omega (arith, least, same, h)))
    (cases_lt (rule_index rule) n)

-- ---- one rule more

pub below_more : (m : Machine) (past : List Entry) (e : Entry) (n : ℕ) (b : Bool) (rule : Rule) → rule ≡ rule_at n → (IsTrue b ↔ KeepsRule m past e (class_of e.kind) rule) → b ≡ true → KeepsBelow m past e n → KeepsBelow m past e (n + 1)
below_more m past e n b rule is h so below = λ other l. ⊎_elim
    (λ less. below other less)
    (λ above.
    let here : rule_index other ≡ n = omega (arith, l, above) in
    let same : rule ≡ other = is ∙ ap rule_at (sym here) ∙ at_index other in
    subst (λ (r : Rule). KeepsRule m past e (class_of e.kind) r) same (h.0 so))
    (cases_lt (rule_index other) n)

pub breaks : (m : Machine) (past : List Entry) (e : Entry) (n : ℕ) (b : Bool) (rule : Rule) → rule ≡ rule_at n → (IsTrue b ↔ KeepsRule m past e (class_of e.kind) rule) → b ≡ false → KeepsBelow m past e n → BreaksFirst m past e rule
breaks m past e n b rule is h so below = record {
  breaks = λ keeps. let yes : b ≡ true = h.1 keeps in absurd (cc);
  lesser = λ other l. below other (before other n (subst (λ (r : Rule). rule_number other < rule_number r) is l));
}

pub all_preserved : (m : Machine) (past : List Entry) (e : Entry) → KeepsBelow m past e 15 → KeepsEntry m past e
all_preserved m past e h = record {
  links = h Links (omega arith);
  numbers = h Numbers (omega arith);
  attempts = h Attempts (omega arith);
  reads = h Reads (omega arith);
  walk = h Walk (omega arith);
  skip = h Skip (omega arith);
  runtime = h Runtime (omega arith);
  owed = h Owed (omega arith);
  freezer = h Freezer (omega arith);
  path = h Path (omega arith);
  answers = h Answers (omega arith);
  restored = h Restored (omega arith);
  steps = h Steps (omega arith);
  enabled = h Enabled (omega arith);
  source = h Source (omega arith);
}

-- ---- all rules at one go

-- the rules of the journal ask nothing of other entries
pub none_asked : (X : Type 0) (p : EntryClass) → is_of_journal p ≡ false → OnJournal p X
none_asked X OfJournal h = absurd (cc)
none_asked X (Notes s call) h = tt
none_asked X (Moves s step) h = tt
none_asked X OfTime h = tt

-- an entry of a source, or a jump, keeps each rule
pub each_preserved : (m : Machine) (past : List Entry) (e : Entry) → is_of_journal (class_of e.kind) ≡ false → KeepsTogether m past e (class_of e.kind) → KeepsEntry m past e
each_preserved m past e h t =
    let part = class_of e.kind in
    record {
      links = none_asked (KeepsLinks m (journal past) e.kind) part h;
      numbers = t.numbers;
      attempts = none_asked (KeepsAttempts (journal past) e.kind) part h;
      reads = none_asked (KeepsReads m (journal past) (numbers past) e.actor e.kind) part h;
      walk = t.walk;
      skip = none_asked (KeepsSkip m (journal past) (numbers past) e.kind) part h;
      runtime = none_asked (KeepsRuntime m (journal past) e.kind) part h;
      owed = none_asked (KeepsOwed m (journal past) e.kind) part h;
      freezer = t.freezer;
      path = t.path;
      answers = none_asked (KeepsAnswers (journal past) e.kind) part h;
      restored = none_asked (KeepsRestored m (journal past) e.kind) part h;
      steps = t.steps;
      enabled = t.enabled;
      source = t.source;
    }
