-- What fits its room fitted it before.
use Rattle.std.proofs.Common.{◌≡◌, ◌≤◌, ◌+◌, ◌∙◌, ℕ, zero, suc, Bool, true, false, ◌&&◌, nat_le, List, [], ◌∷◌, length, cond, refl, ap, arith}
use Rattle.std.specs.List.{list_all, range_with_len}
use Rattle.std.proofs.lemmas.Bool.Decides.{nat_tests}
use Rattle.sleep_model.specs.declared.entry.Entry.{Entry}
use Rattle.sleep_model.specs.declared.machine.Machine.{Machine}
use Rattle.sleep_model.specs.Legal.{HistoriesFit, is_there, is_short}
use Rattle.sleep_model.specs.EntryClasses.{class_of}
use Rattle.sleep_model.specs.Sources.{history, is_of, most_entries}

-- what passes one test passes the other, along a range
all_of : (f g : ℕ → Bool) (a n : ℕ) → ((s : ℕ) → f s ≡ true → g s ≡ true) → list_all f (range_with_len a n) ≡ true → list_all g (range_with_len a n) ≡ true
all_of f g a zero h all = refl
all_of f g a (suc n) h all = by_first (f a) refl all (λ r. all_of f g (a + 1) n h r)
  where
    by_first : (b : Bool) → f a ≡ b → (b && list_all f (range_with_len (a + 1) n)) ≡ true → (list_all f (range_with_len (a + 1) n) ≡ true → list_all g (range_with_len (a + 1) n) ≡ true)
        → (g a && list_all g (range_with_len (a + 1) n)) ≡ true
    by_first true x y rest = ap (λ b. b && list_all g (range_with_len (a + 1) n)) (h a x) ∙ rest y
    by_first false x y rest = absurd (cc)

-- what fits fitted before
pub fit_rest : (m : Machine) (e : Entry) (past : List Entry) → HistoriesFit m (e ∷ past) → HistoriesFit m past
fit_rest m e past h = record {
  there = rest (is_there m (class_of e.kind)) h.there;
  short = all_of (is_short (e ∷ past)) (is_short past) 0 (length m.sources + 1) (λ s x. shorter s (is_of s (class_of e.kind)) x) h.short;
}
  where
    rest : (b : Bool) → (b && list_all (λ x. is_there m (class_of x.kind)) past) ≡ true → list_all (λ x. is_there m (class_of x.kind)) past ≡ true
    rest true x = x
    rest false x = absurd (cc)

    shorter : (s : ℕ) (b : Bool) → nat_le (length (cond b (e ∷ history s past) (history s past))) most_entries ≡ true → is_short past s ≡ true
    shorter s true x =
        let within : suc (length (history s past)) ≤ most_entries = grind (arith, nat_tests) in
        let less : length (history s past) ≤ most_entries = omega (arith, within) in
        grind (arith, nat_tests)
    shorter s false x = x
