-- If each source is legal by itself, so are the sources among all entries, and their histories have room.
use Rattle.std.proofs.Common.{◌≡◌, ◌∙◌, ◌≤◌, ◌<◌, ◌+◌, ◌==◌, ℕ, zero, suc, nat_le, Bool, true, false, List, [], ◌∷◌, length, map, get_or, cond, refl, ap, subst, arith}
use Rattle.std.proofs.lemmas.Bool.Decides.{nat_tests}
use Rattle.std.proofs.lemmas.List.{length-map, length-reverse}
use Rattle.std.specs.List.{list_all, range_with_len}
use Rattle.sleep_model.specs.declared.entry.Entry.{Entry}
use Rattle.sleep_model.specs.declared.entry.JournalEntry.{JournalEntry}
use Rattle.sleep_model.specs.declared.entry.SourceEntry.{SourceEntry}
use Rattle.sleep_model.specs.declared.machine.Machine.{Machine}
use Rattle.sleep_model.specs.Legal.{HistoriesFit, OwnStep, SourcePart, is_short, is_there}
use Rattle.sleep_model.specs.Merge.{all_entries, of_source, stamped}
use Rattle.sleep_model.specs.EntryClasses.{EntryClass, OfJournal, Notes, Moves, OfTime, class_of, is_in_journal}
use Rattle.sleep_model.specs.Sources.{SourceStep, history, is_of, most_entries}
use Rattle.log_merge.specs.Remainders.{sources_entries}
use Rattle.run_laws.specs.Apart.{IsSource, are_of, is_journals, past_of, source_past}
use Rattle.run_laws.proofs.Lists.{all_append, all_head, all_map, all_more, all_order, all_reverse, all_tail}
use Rattle.run_laws.proofs.Picks.{first_own, rest_own}

pub same_number : (s : ℕ) → (s == s) ≡ true
same_number s = grind (arith, nat_tests)

-- ---- the entries of each source are legal

own_legal : (e : Entry) (past : List Entry) (s : ℕ) (p : EntryClass) → class_of e.kind ≡ p → is_of s p ≡ true → IsSource (history s (e ∷ past)) → SourceStep (history s past) e.time e.actor p
own_legal e past s p is own h =
    let both : IsSource (e ∷ history s past) = subst (λ (b : Bool). IsSource (cond b (e ∷ history s past) (history s past))) (ap (is_of s) is ∙ own) h in
    subst (λ (q : EntryClass). SourceStep (history s past) e.time e.actor q) is both.0

pub sources_from : (past : List Entry) → ((s : ℕ) → IsSource (history s past)) → SourcePart past
sources_from [] h = tt
sources_from (e ∷ past) h = (here (class_of e.kind) refl, sources_from past (λ s. rest s (is_of s (class_of e.kind)) (h s)))
  where
    here : (p : EntryClass) → class_of e.kind ≡ p → OwnStep past e p
    here OfJournal is = tt
    here (Notes s c) is = own_legal e past s (Notes s c) is (same_number s) (h s)
    here (Moves s x) is = own_legal e past s (Moves s x) is (same_number s) (h s)
    here OfTime is = tt

    rest : (s : ℕ) (b : Bool) → IsSource (cond b (e ∷ history s past) (history s past)) → IsSource (history s past)
    rest s true g = g.1
    rest s false g = g

-- ---- their histories fit

pub all_weaker : {A : Type 0} (p q : A → Bool) (xs : List A) → ((x : A) → p x ≡ true → q x ≡ true) → list_all p xs ≡ true → list_all q xs ≡ true
all_weaker p q [] f h = refl
all_weaker p q (x ∷ xs) f h = all_more q x xs (f x (all_head p x xs h)) (all_weaker p q xs f (all_tail p x xs h))

pub all_so : {A : Type 0} (q : A → Bool) (xs : List A) → ((x : A) → q x ≡ true) → list_all q xs ≡ true
all_so q [] f = refl
all_so q (x ∷ xs) f = all_more q x xs (f x) (all_so q xs f)

preserved_there : (m : Machine) (p : EntryClass) → is_in_journal p ≡ true → is_there m p ≡ true
preserved_there m OfJournal h = refl
preserved_there m (Notes s c) h = absurd (cc)
preserved_there m (Moves s x) h = absurd (cc)
preserved_there m OfTime h = refl

in_range : (s t n : ℕ) → s < n + 1 → (t == s) ≡ true → nat_le t n ≡ true
in_range s t n l h = grind (arith, nat_tests)

own_there : (m : Machine) (s : ℕ) (p : EntryClass) → s < length m.sources + 1 → is_of s p ≡ true → is_there m p ≡ true
own_there m s OfJournal l h = refl
own_there m s (Notes t c) l h = in_range s t (length m.sources) l h
own_there m s (Moves t x) l h = in_range s t (length m.sources) l h
own_there m s OfTime l h = refl

sources_there : (m : Machine) (s : ℕ) (hs : List (List SourceEntry)) → are_of s hs ≡ true → s + length hs ≤ length m.sources + 1
    → list_all (λ e. is_there m (class_of e.entry.kind)) (sources_entries hs) ≡ true
sources_there m s [] g l = refl
sources_there m s (h ∷ hs) g l =
    all_append (λ e. is_there m (class_of e.entry.kind)) (map of_source h) (sources_entries hs)
    (all_map of_source (λ e. is_there m (class_of e.entry.kind)) h
    (all_weaker (λ (e : SourceEntry). is_of s (class_of e.entry.kind)) (λ e. is_there m (class_of e.entry.kind)) h (λ e i. own_there m s (class_of e.entry.kind) (omega arith) i) (first_own s h hs g)))
    (sources_there m (suc s) hs (rest_own s h hs g) (omega arith))

-- each entry of a source is of one that there is
pub entries_there : (m : Machine) (entries : List JournalEntry) (hs : List (List SourceEntry)) → list_all is_journals entries ≡ true → are_of 0 hs ≡ true
    → length hs ≡ length m.sources + 1 → list_all (λ e. is_there m (class_of e.entry.kind)) (all_entries entries hs) ≡ true
entries_there m entries hs kept own count =
    all_append (λ e. is_there m (class_of e.entry.kind)) entries (sources_entries hs)
    (all_weaker is_journals (λ e. is_there m (class_of e.entry.kind)) entries (λ e i. preserved_there m (class_of e.entry.kind) i) kept)
    (sources_there m 0 hs own (omega (arith, count)))

-- also in the merge
pub all_there : (m : Machine) (entries : List JournalEntry) (hs : List (List SourceEntry)) → list_all is_journals entries ≡ true → are_of 0 hs ≡ true
    → length hs ≡ length m.sources + 1 → list_all (λ e. is_there m (class_of e.kind)) (past_of (stamped entries hs)) ≡ true
all_there m entries hs kept own count =
    all_reverse (λ (e : Entry). is_there m (class_of e.kind)) (map (λ e. e.entry) (stamped entries hs))
    (all_map (λ (e : JournalEntry). e.entry) (λ e. is_there m (class_of e.kind)) (stamped entries hs)
    (all_order (λ e. is_there m (class_of e.entry.kind)) (all_entries entries hs) (entries_there m entries hs kept own count)))

short_at : (hs : List (List SourceEntry)) (s : ℕ) → list_all (λ h. nat_le (length h) most_entries) hs ≡ true → nat_le (length (get_or hs s [])) most_entries ≡ true
short_at [] s g = refl
short_at (h ∷ hs) zero g = all_head (λ h. nat_le (length h) most_entries) h hs g
short_at (h ∷ hs) (suc s) g = short_at hs s (all_tail (λ h. nat_le (length h) most_entries) h hs g)

length_past : (h : List SourceEntry) → length (past_of (map of_source h)) ≡ length h
length_past h = length-reverse (map (λ e. e.entry) (map of_source h)) ∙ length-map (map of_source h) (λ e. e.entry) ∙ length-map h of_source

pub histories_fit : (m : Machine) (past : List Entry) (hs : List (List SourceEntry)) → list_all (λ e. is_there m (class_of e.kind)) past ≡ true
    → ((s : ℕ) → history s past ≡ source_past hs s) → list_all (λ h. nat_le (length h) most_entries) hs ≡ true → HistoriesFit m past
histories_fit m past hs there are short = record {
  there = there;
  short = all_so (is_short past) (range_with_len 0 (length m.sources + 1))
      (λ s. ap (λ (n : ℕ). nat_le n most_entries) (ap length (are s) ∙ length_past (get_or hs s [])) ∙ short_at hs s short);
}
