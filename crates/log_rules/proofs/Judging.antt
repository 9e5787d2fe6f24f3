-- A good log has no bad line, and a bad one has one first bad line.
use Rattle.std.proofs.Common.{◌≡◌, ◌<◌, ◌+◌, ◌∙◌, ℕ, zero, suc, Bool, true, false, nat_lt, List, [], ◌∷◌, ◌++◌, length, reverse, take, refl, sym, ap, subst, arith, slice_get}
use Rattle.std.proofs.lemmas.Bool.Decides.{nat_tests}
use Rattle.sleep_model.specs.declared.entry.Entry.{Entry}
use Rattle.sleep_model.specs.declared.log.Log.{Log}
use Rattle.sleep_model.specs.declared.log.Stats.{Stats}
use Rattle.sleep_model.specs.declared.machine.Machine.{Machine}
use Rattle.sleep_model.specs.Legal.{stats_of}
use Rattle.sleep_model.specs.EntryClasses.{class_of}
use Rattle.rule_definitions.specs.Entry.{Rule, Links, Numbers, Attempts, Reads, Walk, Skip, Runtime, Owed, Freezer, Path, Answers, Restored, Steps, Enabled, Source, KeepsRule, KeepsEntry, KeepsEach}
use Rattle.rule_definitions.specs.Verdict.{rule_number, BreaksFirst, IsFirstBad, AtEntry, AtStats, AtEnd, IsGood, GoodHasNone, FirstBadIsOne}
use Rattle.log_rules.proofs.Legal.{lists}

-- what keeps each rule keeps the rule of that name
keeps_rule : (m : Machine) (past : List Entry) (e : Entry) (rule : Rule) → KeepsEntry m past e → KeepsRule m past e (class_of e.kind) rule
keeps_rule m past e Links k = k.links
keeps_rule m past e Numbers k = k.numbers
keeps_rule m past e Attempts k = k.attempts
keeps_rule m past e Reads k = k.reads
keeps_rule m past e Walk k = k.walk
keeps_rule m past e Skip k = k.skip
keeps_rule m past e Runtime k = k.runtime
keeps_rule m past e Owed k = k.owed
keeps_rule m past e Freezer k = k.freezer
keeps_rule m past e Path k = k.path
keeps_rule m past e Answers k = k.answers
keeps_rule m past e Restored k = k.restored
keeps_rule m past e Steps k = k.steps
keeps_rule m past e Enabled k = k.enabled
keeps_rule m past e Source k = k.source

-- among entries that keep each rule none breaks one
none_breaks : (m : Machine) (later past : List Entry) (e : Entry) (rule : Rule) → KeepsEach m (later ++ e ∷ past) → BreaksFirst m past e rule → ⊥
none_breaks m [] past e rule k b = b.breaks (keeps_rule m past e rule k.0)
none_breaks m (x ∷ later) past e rule k b = none_breaks m later past e rule k.1 b

among : (m : Machine) (all later past : List Entry) (e : Entry) (rule : Rule) → all ≡ later ++ e ∷ past → KeepsEach m all → BreaksFirst m past e rule → ⊥
among m all later past e rule s k b = none_breaks m later past e rule (subst (KeepsEach m) s k) b

-- ---- a good log

good_has_none : (m : Machine) (log : Log) (line number : ℕ) → IsGood m log → IsFirstBad m log line number → ⊥
good_has_none m log _ _ g (AtEntry later past e rule s k b) = among m (reverse log.entries) later past e rule s ((lists m (reverse log.entries)).keeps g.legal.legal) b
good_has_none m log _ _ g (AtStats i k l t n) = n (ap (λ (x : List Stats). slice_get x i) g.legal.stats)
good_has_none m log _ _ g (AtEnd k s n) = n g.finished

pub none_of_good : GoodHasNone
none_of_good = good_has_none

-- ---- one first bad line

-- of two entries of a list, either they are one, or one comes after the other
data Apart (past other : List Entry) (e f : Entry) : Type 0 where
  Same : past ≡ other → e ≡ f → Apart past other e f
  Later : (mid : List Entry) → past ≡ mid ++ f ∷ other → Apart past other e f
  Earlier : (mid : List Entry) → other ≡ mid ++ e ∷ past → Apart past other e f

apart : (later past later' past' : List Entry) (e f : Entry) → later ++ e ∷ past ≡ later' ++ f ∷ past' → Apart past past' e f
apart [] past [] past' e f h = Same (cc) (cc)
apart [] past (y ∷ later') past' e f h = Later later' (cc)
apart (x ∷ later) past [] past' e f h = Earlier later (let same : later ++ e ∷ past ≡ past' = cc in sym same)
apart (x ∷ later) past (y ∷ later') past' e f h = apart later past later' past' e f (cc)

-- of two rules that an entry breaks first the numbers are one
one_number : (m : Machine) (past : List Entry) (e : Entry) (r q : Rule) → BreaksFirst m past e r → BreaksFirst m past e q → rule_number r ≡ rule_number q
one_number m past e r q b c = by_less (nat_lt (rule_number r) (rule_number q)) refl (nat_lt (rule_number q) (rule_number r)) refl
  where
    by_less : (x : Bool) → nat_lt (rule_number r) (rule_number q) ≡ x → (y : Bool) → nat_lt (rule_number q) (rule_number r) ≡ y → rule_number r ≡ rule_number q
    by_less true f y g = absurd (b.breaks (c.lesser r (let less : rule_number r < rule_number q = grind (arith, nat_tests) in less)))
    by_less false f true g = absurd (c.breaks (b.lesser q (let less : rule_number q < rule_number r = grind (arith, nat_tests) in less)))
    by_less false f false g = grind (arith, nat_tests)

get_take : {A : Type 0} (xs : List A) (k n : ℕ) → k < n → slice_get (take n xs) k ≡ slice_get xs k
get_take xs k zero l = absurd (omega (arith, l))
get_take [] k (suc n) l = refl
get_take (x ∷ xs) zero (suc n) l = refl
get_take (x ∷ xs) (suc k) (suc n) l = get_take xs k n (let less : k < n = omega (arith, l) in less)

-- the first difference of two lists of statistics has one index
one_place : (xs ys : List Stats) (k n : ℕ) → take k xs ≡ take k ys → (slice_get xs k ≡ slice_get ys k → ⊥) → take n xs ≡ take n ys → (slice_get xs n ≡ slice_get ys n → ⊥) → k ≡ n
one_place xs ys k n t d u e = by_less (nat_lt k n) refl (nat_lt n k) refl
  where
    by_less : (x : Bool) → nat_lt k n ≡ x → (y : Bool) → nat_lt n k ≡ y → k ≡ n
    by_less true f y g =
        let less : k < n = grind (arith, nat_tests) in
        absurd (d (sym (get_take xs k n less) ∙ ap (λ (z : List Stats). slice_get z k) u ∙ get_take ys k n less))
    by_less false f true g =
        let less : n < k = grind (arith, nat_tests) in
        absurd (e (sym (get_take xs n k less) ∙ ap (λ (z : List Stats). slice_get z n) t ∙ get_take ys n k less))
    by_less false f false g = grind (arith, nat_tests)

by_entries : (m : Machine) (past past' : List Entry) (e f : Entry) (r q : Rule) → Apart past past' e f → KeepsEach m past → BreaksFirst m past e r → KeepsEach m past' → BreaksFirst m past' f q → (length past + 1 ≡ length past' + 1) × (rule_number r ≡ rule_number q)
by_entries m past past' e f r q (Same s t) k b l c = (ap (λ (x : List Entry). length x + 1) s, one_number m past e r q b (subst (λ (x : Entry). BreaksFirst m past x q) (sym t) (subst (λ (x : List Entry). BreaksFirst m x f q) (sym s) c)))
by_entries m past past' e f r q (Later mid s) k b l c = absurd (among m past mid past' f q s k c)
by_entries m past past' e f r q (Earlier mid s) k b l c = absurd (among m past' mid past e r s l b)

pub first_bad_is_one : FirstBadIsOne
first_bad_is_one m log _ _ _ _ (AtEntry later past e r s k b) (AtEntry later' past' f q t l c) = by_entries m past past' e f r q (apart later past later' past' e f (sym s ∙ t)) k b l c
first_bad_is_one m log _ _ _ _ (AtEntry later past e r s k b) (AtStats i l u v w) = absurd (among m (reverse log.entries) later past e r s l b)
first_bad_is_one m log _ _ _ _ (AtEntry later past e r s k b) (AtEnd l u v) = absurd (among m (reverse log.entries) later past e r s l b)
first_bad_is_one m log _ _ _ _ (AtStats i l u v w) (AtEntry later past e r s k b) = absurd (among m (reverse log.entries) later past e r s l b)
first_bad_is_one m log _ _ _ _ (AtStats i l u v w) (AtStats j l' u' v' w') = (ap (λ (x : ℕ). length log.entries + x + 1) (one_place log.stats (stats_of m (reverse log.entries)) i j v w v' w'), refl)
first_bad_is_one m log _ _ _ _ (AtStats i l u v w) (AtEnd l' s n) = absurd (w (ap (λ (x : List Stats). slice_get x i) s))
first_bad_is_one m log _ _ _ _ (AtEnd l u v) (AtEntry later past e r s k b) = absurd (among m (reverse log.entries) later past e r s l b)
first_bad_is_one m log _ _ _ _ (AtEnd l' s n) (AtStats i l u v w) = absurd (w (ap (λ (x : List Stats). slice_get x i) s))
first_bad_is_one m log _ _ _ _ (AtEnd l u v) (AtEnd l' u' v') = (refl, refl)
