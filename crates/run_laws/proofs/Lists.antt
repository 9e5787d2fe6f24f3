-- Sorting by the order of the log, maps and reversals keep what a filter picks.
use Rattle.std.proofs.Common.{◌≡◌, ◌∙◌, Bool, true, false, List, [], ◌∷◌, ◌++◌, map, filter, reverse, cond, if◌then◌else◌, refl, sym, ap}
use mathlib.Core.List.{reverse_aux}
use Rattle.std.specs.List.{list_all}
use Rattle.sleep_model.specs.declared.entry.JournalEntry.{JournalEntry}
use Rattle.sleep_model.specs.Merge.{in_order, put_in_order, rises, precedes}
use Rattle.log_merge.proofs.Orders.{log_order}
use Rattle.log_merge.proofs.Sorts.{Low, Up, low_below, up_in_order}
use Rattle.log_merge.proofs.Reading.{both, both_left, both_right, in_order_from, order_same, put_front, rising_in_order}

-- ---- the order

pub low_filter : (p : JournalEntry → Bool) (x : JournalEntry) (ys : List JournalEntry) → Low precedes x ys → Low precedes x (filter p ys)
low_filter p x [] h = tt
low_filter p x (y ∷ ys) h = by (p y) (low_filter p x ys h.1)
  where
    by : (b : Bool) → Low precedes x (filter p ys) → Low precedes x (cond b (y ∷ filter p ys) (filter p ys))
    by true l = (h.0, l)
    by false l = l

-- an entry is put among others in order, before a filter or after it: the result is the same
filter_put : (p : JournalEntry → Bool) (x : JournalEntry) (ys : List JournalEntry) → Up precedes ys
    → filter p (put_in_order x ys) ≡ cond (p x) (put_in_order x (filter p ys)) (filter p ys)
filter_put p x [] u = by (p x)
  where
    by : (b : Bool) → cond b (x ∷ []) [] ≡ cond b (x ∷ []) []
    by b = refl
filter_put p x (y ∷ ys) u = by (precedes y x) refl (filter_put p x ys u.1)
  where
    low : precedes y x ≡ false → Low precedes x (filter p (y ∷ ys))
    low e = low_filter p x (y ∷ ys) (e, low_below precedes log_order x y ys e u.0)

    ahead : (a b : Bool) → precedes y x ≡ true
        → cond b (y ∷ cond a (put_in_order x (filter p ys)) (filter p ys)) (cond a (put_in_order x (filter p ys)) (filter p ys))
        ≡ cond a (put_in_order x (cond b (y ∷ filter p ys) (filter p ys))) (cond b (y ∷ filter p ys) (filter p ys))
    ahead true true e = rw e refl
    ahead true false e = refl
    ahead false true e = refl
    ahead false false e = refl

    behind : (a : Bool) → precedes y x ≡ false
        → cond a (x ∷ filter p (y ∷ ys)) (filter p (y ∷ ys)) ≡ cond a (put_in_order x (filter p (y ∷ ys))) (filter p (y ∷ ys))
    behind true e = sym (put_front x (filter p (y ∷ ys)) (low e))
    behind false e = refl

    by : (b : Bool) → precedes y x ≡ b → filter p (put_in_order x ys) ≡ cond (p x) (put_in_order x (filter p ys)) (filter p ys)
        → filter p (if b then y ∷ put_in_order x ys else x ∷ y ∷ ys) ≡ cond (p x) (put_in_order x (filter p (y ∷ ys))) (filter p (y ∷ ys))
    by true e rest = ap (λ (l : List JournalEntry). cond (p y) (y ∷ l) l) rest ∙ ahead (p x) (p y) e
    by false e rest = behind (p x) e

-- what a filter picks of a sorted list is what it picked, sorted
pub filter_order : (p : JournalEntry → Bool) (xs : List JournalEntry) → filter p (in_order xs) ≡ in_order (filter p xs)
filter_order p [] = refl
filter_order p (x ∷ xs) = filter_put p x (in_order xs) (up_in_order xs) ∙ by (p x) (filter_order p xs)
  where
    by : (b : Bool) → filter p (in_order xs) ≡ in_order (filter p xs)
        → cond b (put_in_order x (filter p (in_order xs))) (filter p (in_order xs)) ≡ in_order (cond b (x ∷ filter p xs) (filter p xs))
    by true e = ap (put_in_order x) e
    by false e = e

-- what rises is in order already
pub order_rising : (xs : List JournalEntry) → rises xs ≡ true → in_order xs ≡ xs
order_rising xs h = order_same xs (in_order_from xs (rising_in_order xs h))

-- ---- maps and reversals

pub filter_map_through : {A B : Type 0} (f : A → B) (q : B → Bool) (xs : List A) → filter q (map f xs) ≡ map f (filter (λ x. q (f x)) xs)
filter_map_through f q [] = refl
filter_map_through {A} {B} f q (x ∷ xs) = by (q (f x)) (filter_map_through f q xs)
  where
    by : (b : Bool) → filter q (map f xs) ≡ map f (filter (λ x. q (f x)) xs)
        → cond b (f x ∷ filter q (map f xs)) (filter q (map f xs)) ≡ map f (cond b (x ∷ filter (λ x. q (f x)) xs) (filter (λ x. q (f x)) xs))
    by true e = ap (λ (l : List B). f x ∷ l) e
    by false e = e

filter_onto : {A : Type 0} (q : A → Bool) (xs back : List A) → filter q (reverse_aux xs back) ≡ reverse_aux (filter q xs) (filter q back)
filter_onto q [] back = refl
filter_onto {A} q (x ∷ xs) back = filter_onto q xs (x ∷ back) ∙ by (q x)
  where
    by : (b : Bool) → reverse_aux (filter q xs) (cond b (x ∷ filter q back) (filter q back)) ≡ reverse_aux (cond b (x ∷ filter q xs) (filter q xs)) (filter q back)
    by true = refl
    by false = refl

pub filter_reverse : {A : Type 0} (q : A → Bool) (xs : List A) → filter q (reverse xs) ≡ reverse (filter q xs)
filter_reverse q xs = filter_onto q xs []

-- ---- tests at all entries

pub all_head : {A : Type 0} (q : A → Bool) (x : A) (xs : List A) → list_all q (x ∷ xs) ≡ true → q x ≡ true
all_head q x xs h = both_left (q x) (list_all q xs) h

pub all_tail : {A : Type 0} (q : A → Bool) (x : A) (xs : List A) → list_all q (x ∷ xs) ≡ true → list_all q xs ≡ true
all_tail q x xs h = both_right (q x) (list_all q xs) h

pub all_more : {A : Type 0} (q : A → Bool) (x : A) (xs : List A) → q x ≡ true → list_all q xs ≡ true → list_all q (x ∷ xs) ≡ true
all_more q x xs h g = both (q x) (list_all q xs) h g

pub all_append : {A : Type 0} (q : A → Bool) (xs ys : List A) → list_all q xs ≡ true → list_all q ys ≡ true → list_all q (xs ++ ys) ≡ true
all_append q [] ys h g = g
all_append q (x ∷ xs) ys h g = all_more q x (xs ++ ys) (all_head q x xs h) (all_append q xs ys (all_tail q x xs h) g)

all_onto : {A : Type 0} (q : A → Bool) (xs back : List A) → list_all q xs ≡ true → list_all q back ≡ true → list_all q (reverse_aux xs back) ≡ true
all_onto q [] back h g = g
all_onto q (x ∷ xs) back h g = all_onto q xs (x ∷ back) (all_tail q x xs h) (all_more q x back (all_head q x xs h) g)

pub all_reverse : {A : Type 0} (q : A → Bool) (xs : List A) → list_all q xs ≡ true → list_all q (reverse xs) ≡ true
all_reverse q xs h = all_onto q xs [] h refl

pub all_map : {A B : Type 0} (f : A → B) (q : B → Bool) (xs : List A) → list_all (λ x. q (f x)) xs ≡ true → list_all q (map f xs) ≡ true
all_map f q [] h = refl
all_map f q (x ∷ xs) h = all_more q (f x) (map f xs) (all_head (λ x. q (f x)) x xs h) (all_map f q xs (all_tail (λ x. q (f x)) x xs h))

all_put : (q : JournalEntry → Bool) (x : JournalEntry) (ys : List JournalEntry) → q x ≡ true → list_all q ys ≡ true → list_all q (put_in_order x ys) ≡ true
all_put q x [] h g = all_more q x [] h refl
all_put q x (y ∷ ys) h g = by (precedes y x) (all_put q x ys h (all_tail q y ys g))
  where
    by : (b : Bool) → list_all q (put_in_order x ys) ≡ true → list_all q (if b then y ∷ put_in_order x ys else x ∷ y ∷ ys) ≡ true
    by true rest = all_more q y (put_in_order x ys) (all_head q y ys g) rest
    by false rest = all_more q x (y ∷ ys) h g

pub all_order : (q : JournalEntry → Bool) (xs : List JournalEntry) → list_all q xs ≡ true → list_all q (in_order xs) ≡ true
all_order q [] h = refl
all_order q (x ∷ xs) h = all_put q x (in_order xs) (all_head q x xs h) (all_order q xs (all_tail q x xs h))

-- a filter keeps all that pass, and none that fail
pub filter_all : {A : Type 0} (q : A → Bool) (xs : List A) → list_all q xs ≡ true → filter q xs ≡ xs
filter_all q [] h = refl
filter_all {A} q (x ∷ xs) h =
    ap (λ b. cond b (x ∷ filter q xs) (filter q xs)) (all_head q x xs h) ∙ ap (λ (l : List A). x ∷ l) (filter_all q xs (all_tail q x xs h))

pub filter_none : {A : Type 0} (q p : A → Bool) (xs : List A) → list_all p xs ≡ true → ((x : A) → p x ≡ true → q x ≡ false) → filter q xs ≡ []
filter_none q p [] h g = refl
filter_none q p (x ∷ xs) h g =
    ap (λ b. cond b (x ∷ filter q xs) (filter q xs)) (g x (all_head p x xs h)) ∙ filter_none q p xs (all_tail p x xs h) g
