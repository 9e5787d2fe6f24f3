-- A list that an actor has of its entries is what the journal and the histories have of it, in order.
use Rattle.std.proofs.Common.{◌≡◌, ◌∙◌, ◌≤◌, ◌<◌, ◌+◌, ◌==◌, ◌&&◌, ◌++◌, ℕ, zero, suc, nat_le, nat_lt, Bool, true, false, List, [], ◌∷◌, length, map, filter, get_or, cond, refl, sym, ap, ap₂, arith}
use Rattle.std.proofs.lemmas.Bool.Decides.{nat_tests}
use Rattle.std.proofs.lemmas.List.{append_assoc}
use Rattle.std.proofs.lemmas.List.Elements.{filter-append}
use Rattle.std.specs.List.{list_all}
use Rattle.sleep_model.specs.declared.entry.Actor.{Actor}
use Rattle.sleep_model.specs.declared.entry.JournalEntry.{JournalEntry}
use Rattle.sleep_model.specs.declared.entry.SourceEntry.{SourceEntry}
use Rattle.sleep_model.specs.declared.machine.Machine.{Machine}
use Rattle.sleep_model.specs.Legal.{is_there}
use Rattle.sleep_model.specs.Merge.{before_or, entries_of, in_order, is_actor_before, of_source, next_position, put_in_order, rises, rises_after, precedes, step_number}
use Rattle.sleep_model.specs.EntryClasses.{EntryClass, OfJournal, Notes, Moves, OfTime, class_of, is_in_journal}
use Rattle.sleep_model.specs.Path.{is_same}
use Rattle.sleep_model.specs.Sources.{is_of}
use Rattle.log_merge.specs.Remainders.{sources_entries}
use Rattle.log_merge.proofs.Orders.{log_order}
use Rattle.log_merge.proofs.Sorts.{Low}
use Rattle.log_merge.proofs.Reading.{both_left, both_right, low_order, put_front}
use Rattle.run_laws.specs.Apart.{is_journals}
use Rattle.run_laws.specs.Owned.{OwnListsAreOwnEntries}
use Rattle.run_laws.proofs.Lists.{all_head, all_tail}

-- ---- an entry that precedes all others

-- an entry precedes all of these
abbrev pub Ahead : JournalEntry → List JournalEntry → Type 0
Ahead x [] = Unit {0}
Ahead x (y ∷ ys) = (precedes x y ≡ true) × Ahead x ys

ahead_low : (x : JournalEntry) (ys : List JournalEntry) → Ahead x ys → Low precedes x ys
ahead_low x [] a = tt
ahead_low x (y ∷ ys) a = (log_order.one_way x y a.0, ahead_low x ys a.1)

ahead_filter : (q : JournalEntry → Bool) (x : JournalEntry) (ys : List JournalEntry) → Ahead x ys → Ahead x (filter q ys)
ahead_filter q x [] a = tt
ahead_filter q x (y ∷ ys) a = by (q y) (ahead_filter q x ys a.1)
  where
    by : (b : Bool) → Ahead x (filter q ys) → Ahead x (cond b (y ∷ filter q ys) (filter q ys))
    by true rest = (a.0, rest)
    by false rest = rest

ahead_append : (x : JournalEntry) (xs ys : List JournalEntry) → Ahead x xs → Ahead x ys → Ahead x (xs ++ ys)
ahead_append x [] ys a b = b
ahead_append x (z ∷ xs) ys a b = (a.0, ahead_append x xs ys a.1 b)

-- it is the first of them in order, at whatever position of the list
first_of_all : (x : JournalEntry) (xs ys : List JournalEntry) → Ahead x xs → Ahead x ys → in_order (xs ++ x ∷ ys) ≡ x ∷ in_order (xs ++ ys)
first_of_all x [] ys a b = put_front x (in_order ys) (low_order x ys (ahead_low x ys b))
first_of_all x (z ∷ xs) ys a b =
    ap (put_in_order z) (first_of_all x xs ys a.1 b)
    ∙ ap (λ (c : Bool). cond c (x ∷ put_in_order z (in_order (xs ++ ys))) (z ∷ x ∷ in_order (xs ++ ys))) a.0

-- ---- a list that rises has its first entry before the others

rise_ahead : (p s p' s' t t' : ℕ) (r : Bool) → nat_lt t t' && nat_le (p + s) p' ≡ true → before_or p p' (before_or s s' (before_or t t' r)) ≡ true
rise_ahead p s p' s' t t' r h = grind (arith, nat_tests)

ahead_twice : (x y z : JournalEntry) → precedes x y ≡ true → precedes y z ≡ true → precedes x z ≡ true
ahead_twice x y z h g = by (precedes x z) refl
  where
    by : (b : Bool) → precedes x z ≡ b → precedes x z ≡ true
    by true e = e
    by false e = let none : precedes x y ≡ false = log_order.chain x z y e (log_order.one_way y z g) in absurd (let bad : true ≡ false = sym h ∙ none in cc)

ahead_further : (x y : JournalEntry) (ys : List JournalEntry) → precedes x y ≡ true → Ahead y ys → Ahead x ys
ahead_further x y [] h a = tt
ahead_further x y (z ∷ zs) h a = (ahead_twice x y z h a.0, ahead_further x y zs h a.1)

ahead_rest : (x : JournalEntry) (ys : List JournalEntry) → rises_after x ys ≡ true → Ahead x ys
ahead_rest x [] h = tt
ahead_rest x (y ∷ ys) h =
    let first : precedes x y ≡ true =
    rise_ahead x.stamp.pos (step_number x) y.stamp.pos (step_number y) x.stamp.tick y.stamp.tick (is_actor_before x.entry.actor y.entry.actor)
    (both_left (nat_lt x.stamp.tick y.stamp.tick && nat_le (next_position x) y.stamp.pos) (rises_after y ys) h) in
    (first, ahead_further x y ys first (ahead_rest y ys (both_right (nat_lt x.stamp.tick y.stamp.tick && nat_le (next_position x) y.stamp.pos) (rises_after y ys) h)))

rises_rest : (x : JournalEntry) (ys : List JournalEntry) → rises_after x ys ≡ true → rises ys ≡ true
rises_rest x [] h = refl
rises_rest x (y ∷ ys) h = both_right (nat_lt x.stamp.tick y.stamp.tick && nat_le (next_position x) y.stamp.pos) (rises_after y ys) h

-- ---- a list, part by part

-- the entries of source i, of the next, and so on, n sources in all
abbrev pub source_class : ℕ → ℕ → List JournalEntry → List JournalEntry
source_class i zero own = []
source_class i (suc n) own = filter (λ e. is_of i (class_of e.entry.kind)) own ++ source_class (suc i) n own

ahead_class : (i n : ℕ) (x : JournalEntry) (own : List JournalEntry) → Ahead x own → Ahead x (source_class i n own)
ahead_class i zero x own a = tt
ahead_class i (suc n) x own a =
    ahead_append x (filter (λ e. is_of i (class_of e.entry.kind)) own) (source_class (suc i) n own) (ahead_filter (λ e. is_of i (class_of e.entry.kind)) x own a) (ahead_class (suc i) n x own a)

-- an entry of none of these sources is in none of their parts
class_without : (i n : ℕ) (x : JournalEntry) (own : List JournalEntry) → ((k : ℕ) → i ≤ k → is_of k (class_of x.entry.kind) ≡ false) → source_class i n (x ∷ own) ≡ source_class i n own
class_without i zero x own h = refl
class_without i (suc n) x own h =
    ap₂ (λ (a b : List JournalEntry). a ++ b)
    (ap (λ (c : Bool). cond c (x ∷ filter (λ e. is_of i (class_of e.entry.kind)) own) (filter (λ e. is_of i (class_of e.entry.kind)) own)) (h i (omega arith)))
    (class_without (suc i) n x own (λ k l. h k (omega arith)))

apart_number : (t k : ℕ) → t < k → (t == k) ≡ false
apart_number t k l = grind (arith, nat_tests)

-- an entry of one of them is the first in order if it precedes all others
class_first : (t i n : ℕ) (x : JournalEntry) (pre own : List JournalEntry) → ((k : ℕ) → is_of k (class_of x.entry.kind) ≡ (t == k)) → i ≤ t → t < i + n
    → Ahead x pre → Ahead x own → in_order (pre ++ source_class i n (x ∷ own)) ≡ x ∷ in_order (pre ++ source_class i n own)
class_first t i zero x pre own is low high a b = absurd (omega arith)
class_first t i (suc n) x pre own is low high a b = by (t == i) refl (λ later. class_first t (suc i) n x (pre ++ filter (λ e. is_of i (class_of e.entry.kind)) own) own is later (omega arith)
    (ahead_append x pre (filter (λ e. is_of i (class_of e.entry.kind)) own) a (ahead_filter (λ e. is_of i (class_of e.entry.kind)) x own b)) b)
  where
    by : (c : Bool) → (t == i) ≡ c
        → (suc i ≤ t → in_order ((pre ++ filter (λ e. is_of i (class_of e.entry.kind)) own) ++ source_class (suc i) n (x ∷ own))
        ≡ x ∷ in_order ((pre ++ filter (λ e. is_of i (class_of e.entry.kind)) own) ++ source_class (suc i) n own))
        → in_order (pre ++ source_class i (suc n) (x ∷ own)) ≡ x ∷ in_order (pre ++ source_class i (suc n) own)
    by true same rest =
        let here : t ≡ i = grind (arith, nat_tests) in
        let own_class : filter (λ e. is_of i (class_of e.entry.kind)) (x ∷ own) ≡ x ∷ filter (λ e. is_of i (class_of e.entry.kind)) own =
        ap (λ (c : Bool). cond c (x ∷ filter (λ e. is_of i (class_of e.entry.kind)) own) (filter (λ e. is_of i (class_of e.entry.kind)) own)) (is i ∙ same) in
        let others : source_class (suc i) n (x ∷ own) ≡ source_class (suc i) n own = class_without (suc i) n x own (λ k l. is k ∙ apart_number t k (omega arith)) in
        ap in_order (ap₂ (λ (u v : List JournalEntry). pre ++ (u ++ v)) own_class others)
        ∙ first_of_all x pre (filter (λ e. is_of i (class_of e.entry.kind)) own ++ source_class (suc i) n own) a
        (ahead_append x (filter (λ e. is_of i (class_of e.entry.kind)) own) (source_class (suc i) n own) (ahead_filter (λ e. is_of i (class_of e.entry.kind)) x own b) (ahead_class (suc i) n x own b))
    by false other rest =
        let later : suc i ≤ t = grind (arith, nat_tests) in
        let own_class : filter (λ e. is_of i (class_of e.entry.kind)) (x ∷ own) ≡ filter (λ e. is_of i (class_of e.entry.kind)) own =
        ap (λ (c : Bool). cond c (x ∷ filter (λ e. is_of i (class_of e.entry.kind)) own) (filter (λ e. is_of i (class_of e.entry.kind)) own)) (is i ∙ other) in
        ap in_order (ap (λ (u : List JournalEntry). pre ++ (u ++ source_class (suc i) n (x ∷ own))) own_class
        ∙ sym (append_assoc pre (filter (λ e. is_of i (class_of e.entry.kind)) own) (source_class (suc i) n (x ∷ own))))
        ∙ rest later
        ∙ ap (λ (l : List JournalEntry). x ∷ in_order l) (append_assoc pre (filter (λ e. is_of i (class_of e.entry.kind)) own) (source_class (suc i) n own))

within : (t n : ℕ) → nat_le t n ≡ true → t < 0 + (n + 1)
within t n h = let l : t ≤ n = grind (arith, nat_tests) in omega arith

-- ---- a rising list is its parts, in order

parts_first : (m : Machine) (x : JournalEntry) (own : List JournalEntry) (p : EntryClass) → class_of x.entry.kind ≡ p → is_there m p ≡ true → Ahead x own
    → in_order (filter is_journals (x ∷ own) ++ source_class 0 (length m.sources + 1) (x ∷ own)) ≡ x ∷ in_order (filter is_journals own ++ source_class 0 (length m.sources + 1) own)
parts_first m x own p is there a = by p is there
  where
    kept : is_journals x ≡ true → ((k : ℕ) → is_of k (class_of x.entry.kind) ≡ false)
        → in_order (filter is_journals (x ∷ own) ++ source_class 0 (length m.sources + 1) (x ∷ own)) ≡ x ∷ in_order (filter is_journals own ++ source_class 0 (length m.sources + 1) own)
    kept h none =
        ap in_order (ap₂ (λ (u v : List JournalEntry). u ++ v) (ap (λ (c : Bool). cond c (x ∷ filter is_journals own) (filter is_journals own)) h) (class_without 0 (length m.sources + 1) x own (λ k l. none k)))
        ∙ first_of_all x [] (filter is_journals own ++ source_class 0 (length m.sources + 1) own) tt
        (ahead_append x (filter is_journals own) (source_class 0 (length m.sources + 1) own) (ahead_filter is_journals x own a) (ahead_class 0 (length m.sources + 1) x own a))

    owned : (t : ℕ) → is_journals x ≡ false → ((k : ℕ) → is_of k (class_of x.entry.kind) ≡ (t == k)) → nat_le t (length m.sources) ≡ true
        → in_order (filter is_journals (x ∷ own) ++ source_class 0 (length m.sources + 1) (x ∷ own)) ≡ x ∷ in_order (filter is_journals own ++ source_class 0 (length m.sources + 1) own)
    owned t h of l =
        ap in_order (ap (λ (u : List JournalEntry). u ++ source_class 0 (length m.sources + 1) (x ∷ own)) (ap (λ (c : Bool). cond c (x ∷ filter is_journals own) (filter is_journals own)) h))
        ∙ class_first t 0 (length m.sources + 1) x (filter is_journals own) own of (omega arith) (within t (length m.sources) l) (ahead_filter is_journals x own a) a

    by : (p : EntryClass) → class_of x.entry.kind ≡ p → is_there m p ≡ true
        → in_order (filter is_journals (x ∷ own) ++ source_class 0 (length m.sources + 1) (x ∷ own)) ≡ x ∷ in_order (filter is_journals own ++ source_class 0 (length m.sources + 1) own)
    by OfJournal is l = kept (ap is_in_journal is) (λ k. ap (is_of k) is)
    by (Notes t c) is l = owned t (ap is_in_journal is) (λ k. ap (is_of k) is) l
    by (Moves t c) is l = owned t (ap is_in_journal is) (λ k. ap (is_of k) is) l
    by OfTime is l = kept (ap is_in_journal is) (λ k. ap (is_of k) is)

in_parts : (m : Machine) (own : List JournalEntry) → rises own ≡ true → list_all (λ e. is_there m (class_of e.entry.kind)) own ≡ true
    → in_order (filter is_journals own ++ source_class 0 (length m.sources + 1) own) ≡ own
in_parts m [] h there = ap in_order (none 0 (length m.sources + 1))
  where
    none : (i n : ℕ) → source_class i n [] ≡ []
    none i zero = refl
    none i (suc n) = none (suc i) n
in_parts m (x ∷ own) h there =
    parts_first m x own (class_of x.entry.kind) refl (all_head (λ e. is_there m (class_of e.entry.kind)) x own there) (ahead_rest x own h)
    ∙ ap (λ (l : List JournalEntry). x ∷ l) (in_parts m own (rises_rest x own h) (all_tail (λ e. is_there m (class_of e.entry.kind)) x own there))

-- ---- the parts are the lists'

own_sources : (who : Actor) (own : List JournalEntry) (i : ℕ) (hs : List (List SourceEntry))
    → ((k : ℕ) → filter (λ e. is_of (i + k) (class_of e.entry.kind)) own ≡ entries_of who (map of_source (get_or hs k [])))
    → entries_of who (sources_entries hs) ≡ source_class i (length hs) own
own_sources who own i [] h = refl
own_sources who own i (history ∷ hs) h =
    let here : i + 0 ≡ i = omega arith in
    filter-append (λ e. is_same e.entry.actor who) (map of_source history) (sources_entries hs)
    ∙ ap₂ (λ (a b : List JournalEntry). a ++ b) (sym (h 0) ∙ ap (λ (j : ℕ). filter (λ e. is_of j (class_of e.entry.kind)) own) here)
    (own_sources who own (suc i) hs (λ k. let there : suc i + k ≡ i + suc k = omega arith in ap (λ (j : ℕ). filter (λ e. is_of j (class_of e.entry.kind)) own) there ∙ h (suc k)))

pub own_lists : OwnListsAreOwnEntries
own_lists m who own journal hs count is =
    ap in_order (filter-append (λ e. is_same e.entry.actor who) journal (sources_entries hs)
    ∙ ap₂ (λ (a b : List JournalEntry). a ++ b) (sym is.in_journal)
    (own_sources who own 0 hs (λ k. let start : 0 + k ≡ k = omega arith in ap (λ (j : ℕ). filter (λ e. is_of j (class_of e.entry.kind)) own) start ∙ is.in_histories k)
    ∙ ap (λ (n : ℕ). source_class 0 n own) count))
    ∙ in_parts m own is.rising is.there
