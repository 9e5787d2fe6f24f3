-- The journal among the merged entries is the journal, and a source's history there is its history.
use Rattle.std.proofs.Common.{◌≡◌, ◌≢◌, ◌∙◌, ◌≤◌, ◌+◌, ◌==◌, ◌&&◌, ℕ, zero, suc, Bool, true, false, List, [], ◌∷◌, ◌++◌, map, filter, reverse, get_or, refl, sym, ap, ap₂, arith}
use Rattle.std.proofs.lemmas.Bool.Decides.{nat_tests}
use Rattle.std.proofs.lemmas.List.{append-nil}
use Rattle.std.proofs.lemmas.List.Elements.{filter-append}
use Rattle.std.specs.List.{list_all}
use Rattle.sleep_model.specs.declared.entry.Entry.{Entry}
use Rattle.sleep_model.specs.declared.entry.JournalEntry.{JournalEntry}
use Rattle.sleep_model.specs.declared.entry.SourceEntry.{SourceEntry}
use Rattle.sleep_model.specs.Merge.{all_entries, in_order, of_source, rises, stamped}
use Rattle.sleep_model.specs.EntryClasses.{EntryClass, OfJournal, Notes, Moves, OfTime, class_of, is_in_journal, journal}
use Rattle.sleep_model.specs.Sources.{history, is_of}
use Rattle.log_merge.specs.Remainders.{sources_entries}
use Rattle.run_laws.specs.Apart.{are_of, is_journals, past_of, source_past}
use Rattle.run_laws.proofs.Lists.{all_head, all_map, all_tail, filter_all, filter_map_through, filter_none, filter_order, filter_reverse, order_rising}

-- what a test picks of sorted entries
pub picked : (q : Entry → Bool) (xs : List JournalEntry) → filter q (past_of (in_order xs)) ≡ past_of (in_order (filter (λ e. q e.entry) xs))
picked q xs =
    filter_reverse q (map (λ e. e.entry) (in_order xs))
    ∙ ap (λ (l : List Entry). reverse l) (filter_map_through (λ (e : JournalEntry). e.entry) q (in_order xs)
    ∙ ap (λ (l : List JournalEntry). map (λ e. e.entry) l) (filter_order (λ e. q e.entry) xs))

-- ---- whose an entry is

preserved_is_none : (s : ℕ) (p : EntryClass) → is_in_journal p ≡ true → is_of s p ≡ false
preserved_is_none s OfJournal h = refl
preserved_is_none s (Notes t c) h = absurd (cc)
preserved_is_none s (Moves t x) h = absurd (cc)
preserved_is_none s OfTime h = refl

pub own_is_none : (s : ℕ) (p : EntryClass) → is_of s p ≡ true → is_in_journal p ≡ false
own_is_none s OfJournal h = absurd (cc)
own_is_none s (Notes t c) h = refl
own_is_none s (Moves t x) h = refl
own_is_none s OfTime h = absurd (cc)

other_number : (s t u : ℕ) → s ≢ t → (u == s) ≡ true → (u == t) ≡ false
other_number s t u n h = grind (arith, nat_tests)

own_is_no_other : (s t : ℕ) (p : EntryClass) → s ≢ t → is_of s p ≡ true → is_of t p ≡ false
own_is_no_other s t OfJournal n h = refl
own_is_no_other s t (Notes u c) n h = other_number s t u n h
own_is_no_other s t (Moves u x) n h = other_number s t u n h
own_is_no_other s t OfTime n h = refl

-- ---- the entries of all sources

pub first_own : (s : ℕ) (h : List SourceEntry) (hs : List (List SourceEntry)) → are_of s (h ∷ hs) ≡ true → list_all (λ e. is_of s (class_of e.entry.kind)) h ≡ true
first_own s h hs g = by (list_all (λ e. is_of s (class_of e.entry.kind)) h) (are_of (suc s) hs) g
  where
    by : (a b : Bool) → a && b ≡ true → a ≡ true
    by true b g = refl
    by false b g = g

pub rest_own : (s : ℕ) (h : List SourceEntry) (hs : List (List SourceEntry)) → are_of s (h ∷ hs) ≡ true → are_of (suc s) hs ≡ true
rest_own s h hs g = by (list_all (λ e. is_of s (class_of e.entry.kind)) h) (are_of (suc s) hs) g
  where
    by : (a b : Bool) → a && b ≡ true → b ≡ true
    by true b g = g
    by false b g = absurd (cc)

-- none of one history passes a test that fails at its entries
none_of_one : (q : Entry → Bool) (s : ℕ) (h : List SourceEntry) → list_all (λ e. is_of s (class_of e.entry.kind)) h ≡ true
    → ((e : Entry) → is_of s (class_of e.kind) ≡ true → q e ≡ false) → filter (λ e. q e.entry) (map of_source h) ≡ []
none_of_one q s h g f =
    filter_map_through of_source (λ e. q e.entry) h
    ∙ ap (λ (l : List SourceEntry). map of_source l) (filter_none (λ (e : SourceEntry). q e.entry) (λ e. is_of s (class_of e.entry.kind)) h g (λ e i. f e.entry i))

-- nor of any
pub none_of_all : (q : Entry → Bool) (s : ℕ) (hs : List (List SourceEntry)) → are_of s hs ≡ true
    → ((t : ℕ) (e : Entry) → s ≤ t → is_of t (class_of e.kind) ≡ true → q e ≡ false) → filter (λ e. q e.entry) (sources_entries hs) ≡ []
none_of_all q s [] g f = refl
none_of_all q s (h ∷ hs) g f =
    filter-append (λ e. q e.entry) (map of_source h) (sources_entries hs)
    ∙ ap₂ (λ (x y : List JournalEntry). x ++ y) (none_of_one q s h (first_own s h hs g) (λ e i. f s e (omega arith) i))
    (none_of_all q (suc s) hs (rest_own s h hs g) (λ t e l i. f t e (omega arith) i))

all_of_one : (s : ℕ) (h : List SourceEntry) → list_all (λ e. is_of s (class_of e.entry.kind)) h ≡ true
    → filter (λ e. is_of s (class_of e.entry.kind)) (map of_source h) ≡ map of_source h
all_of_one s h g = filter_all (λ e. is_of s (class_of e.entry.kind)) (map of_source h) (all_map of_source (λ e. is_of s (class_of e.entry.kind)) h g)

one_of_all : (s k : ℕ) (hs : List (List SourceEntry)) → are_of s hs ≡ true
    → filter (λ e. is_of (s + k) (class_of e.entry.kind)) (sources_entries hs) ≡ map of_source (get_or hs k [])
one_of_all s k [] g = refl
one_of_all s zero (h ∷ hs) g =
    let here : s + 0 ≡ s = omega arith in
    ap (λ (t : ℕ). filter (λ e. is_of t (class_of e.entry.kind)) (sources_entries (h ∷ hs))) here
    ∙ filter-append (λ e. is_of s (class_of e.entry.kind)) (map of_source h) (sources_entries hs)
    ∙ ap₂ (λ (x y : List JournalEntry). x ++ y) (all_of_one s h (first_own s h hs g))
    (none_of_all (λ e. is_of s (class_of e.kind)) (suc s) hs (rest_own s h hs g) (λ t e l i. own_is_no_other t s (class_of e.kind) (omega arith) i))
    ∙ append-nil (map of_source h)
one_of_all s (suc k) (h ∷ hs) g =
    let there : s + suc k ≡ suc s + k = omega arith in
    ap (λ (t : ℕ). filter (λ e. is_of t (class_of e.entry.kind)) (sources_entries (h ∷ hs))) there
    ∙ filter-append (λ e. is_of (suc s + k) (class_of e.entry.kind)) (map of_source h) (sources_entries hs)
    ∙ ap₂ (λ (x y : List JournalEntry). x ++ y)
    (none_of_one (λ e. is_of (suc s + k) (class_of e.kind)) s h (first_own s h hs g) (λ e i. own_is_no_other s (suc s + k) (class_of e.kind) (omega arith) i))
    (one_of_all (suc s) k hs (rest_own s h hs g))

pub history_rises : (hs : List (List SourceEntry)) (k : ℕ) → list_all (λ h. rises (map of_source h)) hs ≡ true → rises (map of_source (get_or hs k [])) ≡ true
history_rises [] k g = refl
history_rises (h ∷ hs) zero g = all_head (λ h. rises (map of_source h)) h hs g
history_rises (h ∷ hs) (suc k) g = history_rises hs k (all_tail (λ h. rises (map of_source h)) h hs g)

-- ---- the parts of the merge

-- the journal's entries among all are the journal
pub journals_of_all : (entries : List JournalEntry) (hs : List (List SourceEntry)) → list_all is_journals entries ≡ true → are_of 0 hs ≡ true
    → filter is_journals (all_entries entries hs) ≡ entries
journals_of_all entries hs kept own =
    filter-append is_journals entries (sources_entries hs)
    ∙ ap₂ (λ (x y : List JournalEntry). x ++ y) (filter_all is_journals entries kept)
    (none_of_all (λ e. is_in_journal (class_of e.kind)) 0 hs own (λ t e l i. own_is_none t (class_of e.kind) i)) ∙ append-nil entries

-- what a merge took of a journal, read by itself, is that whole journal
pub journal_of_merge : (entries : List JournalEntry) (hs : List (List SourceEntry)) → list_all is_journals entries ≡ true → are_of 0 hs ≡ true → rises entries ≡ true
    → journal (past_of (stamped entries hs)) ≡ past_of entries
journal_of_merge entries hs kept own up =
    picked (λ e. is_in_journal (class_of e.kind)) (all_entries entries hs)
    ∙ ap (λ (l : List JournalEntry). past_of (in_order l)) (journals_of_all entries hs kept own)
    ∙ ap past_of (order_rising entries up)

-- and a source's entries among all are its history
pub history_among : (entries : List JournalEntry) (hs : List (List SourceEntry)) → list_all is_journals entries ≡ true → are_of 0 hs ≡ true
    → (s : ℕ) → filter (λ e. is_of s (class_of e.entry.kind)) (all_entries entries hs) ≡ map of_source (get_or hs s [])
history_among entries hs kept own s =
    let start : 0 + s ≡ s = omega arith in
    filter-append (λ e. is_of s (class_of e.entry.kind)) entries (sources_entries hs)
    ∙ ap₂ (λ (x y : List JournalEntry). x ++ y)
    (filter_none (λ (e : JournalEntry). is_of s (class_of e.entry.kind)) is_journals entries kept (λ e i. preserved_is_none s (class_of e.entry.kind) i))
    (ap (λ (t : ℕ). filter (λ e. is_of t (class_of e.entry.kind)) (sources_entries hs)) (sym start) ∙ one_of_all 0 s hs own)

-- so is the merge's history of a source that source's history
pub history_of_merge : (entries : List JournalEntry) (hs : List (List SourceEntry)) → list_all is_journals entries ≡ true → are_of 0 hs ≡ true
    → list_all (λ h. rises (map of_source h)) hs ≡ true → (s : ℕ) → history s (past_of (stamped entries hs)) ≡ source_past hs s
history_of_merge entries hs kept own up s =
    picked (λ e. is_of s (class_of e.kind)) (all_entries entries hs)
    ∙ ap (λ (l : List JournalEntry). past_of (in_order l)) (history_among entries hs kept own s)
    ∙ ap past_of (order_rising (map of_source (get_or hs s [])) (history_rises hs s up))
