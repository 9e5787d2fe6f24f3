-- The journal and the sources' entries in order give the definition's log.
use Rattle.std.proofs.Common.{◌≡◌, ◌<◌, ◌≤◌, Bool, true, false, not, ◌&&◌, List, [], ◌∷◌, ◌++◌, true≢false, refl, sym, ap, ◌∙◌, arith}
use Rattle.std.proofs.lemmas.Bool.Decides.{nat_tests}
use Rattle.sleep_model.specs.declared.entry.JournalEntry.{JournalEntry}
use Rattle.sleep_model.specs.declared.entry.SourceEntry.{SourceEntry}
use Rattle.sleep_model.specs.Merge.{in_order, merge, next_position, put_in_order, rises, rises_after, precedes, step_number}
use Rattle.log_merge.specs.Remainders.{unstamped, is_first, is_in_order, is_journals_turn, leads, sources_entries}
use Rattle.log_merge.proofs.Orders.{log_order, rises_stands}
use Rattle.log_merge.proofs.Sorts.{Low, Up, low_append, low_below, low_put_in_order, up_in_order}

-- no entry of these comes before that one
abbrev pub Below : JournalEntry → List JournalEntry → Type 0
Below e entries = Low precedes e entries

-- each comes before none of the earlier ones
abbrev pub InOrder : List JournalEntry → Type 0
InOrder entries = Up precedes entries

-- ---- from the tests and back

pub both_left : (a b : Bool) → a && b ≡ true → a ≡ true
both_left true b h = refl
both_left false b h = h

pub both_right : (a b : Bool) → a && b ≡ true → b ≡ true
both_right true b h = h
both_right false b h = absurd (true≢false (sym h))

pub both : (a b : Bool) → a ≡ true → b ≡ true → a && b ≡ true
both a b p q = rw (p, q) refl

not_true : (b : Bool) → not b ≡ true → b ≡ false
not_true true h = sym h
not_true false h = refl

below_from : (e : JournalEntry) (entries : List JournalEntry) → is_first e entries ≡ true → Below e entries
below_from e [] h = tt
below_from e (x ∷ xs) h = (
  not_true (precedes x e) (both_left (not (precedes x e)) (is_first e xs) h),
  below_from e xs (both_right (not (precedes x e)) (is_first e xs) h),
)

pub in_order_from : (entries : List JournalEntry) → is_in_order entries ≡ true → InOrder entries
in_order_from [] h = tt
in_order_from (e ∷ rest) h = (
  below_from e rest (both_left (is_first e rest) (is_in_order rest) h),
  in_order_from rest (both_right (is_first e rest) (is_in_order rest) h),
)

first_from : (e : JournalEntry) (entries : List JournalEntry) → Below e entries → is_first e entries ≡ true
first_from e [] h = refl
first_from e (x ∷ xs) h = both (not (precedes x e)) (is_first e xs) (ap not h.0) (first_from e xs h.1)

pub test_from : (entries : List JournalEntry) → InOrder entries → is_in_order entries ≡ true
test_from [] h = refl
test_from (e ∷ rest) h = both (is_first e rest) (is_in_order rest) (first_from e rest h.0) (test_from rest h.1)

-- ---- which lists are in order

pub sorted_in_order : (entries : List JournalEntry) → is_in_order (in_order entries) ≡ true
sorted_in_order entries = test_from (in_order entries) (up_in_order entries)

after_steps : (e x : JournalEntry) → e.stamp.tick < x.stamp.tick → next_position e ≤ x.stamp.pos → precedes x e ≡ false
after_steps e x a b =
    rises_stands e.stamp.pos (step_number e) e.stamp.tick x.stamp.pos (step_number x) x.stamp.tick _ a b

after_rises : (e : JournalEntry) (entries : List JournalEntry) → rises_after e entries ≡ true → InOrder (e ∷ entries)
after_rises e [] h = (tt, tt)
after_rises e (x ∷ xs) h =
    let rest : InOrder (x ∷ xs) = after_rises x xs (both_right _ (rises_after x xs) h) in
    let first : precedes x e ≡ false = after_steps e x (grind (arith, nat_tests)) (grind (arith, nat_tests)) in
    ((first, low_below precedes log_order e x xs first rest.0), rest)

pub rising_in_order : (journal : List JournalEntry) → rises journal ≡ true → is_in_order journal ≡ true
rising_in_order [] h = refl
rising_in_order (e ∷ rest) h = test_from (e ∷ rest) (after_rises e rest h)

-- ---- the front of a list in order

pub put_front : (x : JournalEntry) (ys : List JournalEntry) → Below x ys → put_in_order x ys ≡ x ∷ ys
put_front x [] h = refl
put_front x (y ∷ ys) h = rw (h.0) refl

pub low_order : (a : JournalEntry) (xs : List JournalEntry) → Below a xs → Below a (in_order xs)
low_order a [] h = tt
low_order a (x ∷ xs) h = low_put_in_order a x (in_order xs) h.0 (low_order a xs h.1)

pub order_same : (xs : List JournalEntry) → InOrder xs → in_order xs ≡ xs
order_same [] h = refl
order_same (x ∷ xs) h = ap (put_in_order x) (order_same xs h.1) ∙ put_front x xs h.0

order_twice : (journal others : List JournalEntry) → in_order (journal ++ in_order others) ≡ in_order (journal ++ others)
order_twice [] others = order_same (in_order others) (up_in_order others)
order_twice (e ∷ rest) others = ap (put_in_order e) (order_twice rest others)

-- an entry of the journal is the first of the log
pub entry_first : (e : JournalEntry) (rest others : List JournalEntry) → Below e rest → Below e others
    → in_order (e ∷ (rest ++ others)) ≡ e ∷ in_order (rest ++ others)
entry_first e rest others a b = put_front e _ (low_order e _ (low_append precedes e rest others a b))

-- an entry of a source comes before all of these
abbrev Before : JournalEntry → List JournalEntry → Type 0
Before other [] = Unit {0}
Before other (e ∷ rest) = (precedes other e ≡ true) × Before other rest

before_then : (x y z : JournalEntry) → precedes x y ≡ true → precedes z y ≡ false → precedes x z ≡ true
before_then x y z p q = by (precedes x z) refl
  where
    by : (b : Bool) → precedes x z ≡ b → precedes x z ≡ true
    by true e = e
    by false e = absurd (true≢false (sym p ∙ log_order.chain x z y e q))

before_later : (other e : JournalEntry) (rest : List JournalEntry) → precedes other e ≡ true → Below e rest → Before other rest
before_later other e [] h b = tt
before_later other e (x ∷ xs) h b = (before_then other e x h b.0, before_later other e xs h b.1)

before_all : (other : JournalEntry) (journal : List JournalEntry) → leads other journal ≡ true → InOrder journal → Before other journal
before_all other [] h u = tt
before_all other (e ∷ rest) h u = (h, before_later other e rest h u.0)

passed_first : (other : JournalEntry) (journal others : List JournalEntry) → Before other journal → Below other others
    → in_order (journal ++ other ∷ others) ≡ other ∷ in_order (journal ++ others)
passed_first other [] others b l = put_front other (in_order others) (low_order other others l)
passed_first other (e ∷ rest) others b l =
    ap (put_in_order e) (passed_first other rest others b.1 l)
    ∙ put_after e other (in_order (rest ++ others)) b.0
  where
    put_after : (e other : JournalEntry) (entries : List JournalEntry) → precedes other e ≡ true
        → put_in_order e (other ∷ entries) ≡ other ∷ put_in_order e entries
    put_after e other entries h = rw h refl

-- an entry of a source that comes before all of the journal is the first of the log
pub other_first : (other : JournalEntry) (journal others : List JournalEntry) → leads other journal ≡ true
    → is_in_order journal ≡ true → is_in_order (other ∷ others) ≡ true
    → unstamped (in_order (journal ++ other ∷ others)) ≡ other.entry ∷ unstamped (in_order (journal ++ others))
other_first other journal others h u v =
    ap unstamped (passed_first other journal others (before_all other journal h (in_order_from journal u)) (in_order_from (other ∷ others) v).0)

-- ---- the next of the log

no_other : (other : JournalEntry) (others : List JournalEntry) (e : JournalEntry) → precedes other e ≡ false
    → is_in_order (other ∷ others) ≡ true → Below e (other ∷ others)
no_other other others e h u = (h, low_below precedes log_order e other others h (in_order_from (other ∷ others) u).0)

turn_below : (e : JournalEntry) (rest others : List JournalEntry) → is_journals_turn (e ∷ rest) others ≡ true
    → is_in_order others ≡ true → Below e others
turn_below e rest [] h u = tt
turn_below e rest (other ∷ others) h u = no_other other others e (not_true (precedes other e) h) u

-- an entry of the journal is the next of the log, if it is the journal's turn
pub journal_first : (e : JournalEntry) (rest others : List JournalEntry) → is_journals_turn (e ∷ rest) others ≡ true
    → is_in_order (e ∷ rest) ≡ true → is_in_order others ≡ true
    → unstamped (in_order (e ∷ (rest ++ others))) ≡ e.entry ∷ unstamped (in_order (rest ++ others))
journal_first e rest others h u v =
    ap unstamped (entry_first e rest others (in_order_from (e ∷ rest) u).0 (turn_below e rest others h v))

-- the log of all is the definition's merge
pub log_of_all : (journal : List JournalEntry) (histories : List (List SourceEntry))
    → unstamped (in_order (journal ++ in_order (sources_entries histories))) ≡ merge journal histories
log_of_all journal histories = ap unstamped (order_twice journal (sources_entries histories))
