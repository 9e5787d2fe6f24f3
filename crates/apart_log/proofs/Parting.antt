-- A history whose positions rise is cut before a position.
use Rattle.std.proofs.Common.{◌≡◌, ◌∙◌, ◌≤◌, ◌<◌, ◌+◌, ◌&&◌, nat_le, nat_lt, ℕ, zero, suc, Bool, true, false, List, [], ◌∷◌, length, filter, map, take, drop, get_or, cond, Some, None, refl, sym, ap, subst, arith}
use Rattle.std.specs.List.{AllWithin, list_all}
use Rattle.std.specs.List.Sorted.{IsNonDecreasingBy, IsPartitionPoint}
use Rattle.std.proofs.lemmas.Bool.Decides.{nat_tests}
use Rattle.std.proofs.lemmas.List.Sorted.{IsNonDecreasingBy-from_all_adjacent}
use Rattle.sleep_model.specs.declared.entry.SourceEntry.{SourceEntry}
use Rattle.sleep_model.specs.Merge.{of_source, next_position, rises, rises_after}
use Rattle.log_merge.proofs.Reading.{both_left, both_right}
use Rattle.apart_log.specs.Slices.{is_in}

-- ---- what a test keeps

-- nothing if nothing passes
none_preserved : {A : Type 0} (test : A → Bool) (xs : List A) → AllWithin (λ x. test x ≡ false) xs 0 (length xs) → filter test xs ≡ []
none_preserved test [] h = refl
none_preserved test (x ∷ xs) h =
    ap (λ (b : Bool). cond b (x ∷ filter test xs) (filter test xs)) (h 0 x (omega arith) (omega arith))
    ∙ none_preserved test xs (λ k d low lt. h (suc k) d (omega arith) (omega (arith, lt)))

-- all, if all pass
all_preserved : {A : Type 0} (test : A → Bool) (xs : List A) → AllWithin (λ x. test x ≡ true) xs 0 (length xs) → filter test xs ≡ xs
all_preserved test [] h = refl
all_preserved {A = A} test (x ∷ xs) h =
    ap (λ (b : Bool). cond b (x ∷ filter test xs) (filter test xs)) (h 0 x (omega arith) (omega arith))
    ∙ ap (λ (l : List A). x ∷ l) (all_preserved test xs (λ k d low lt. h (suc k) d (omega arith) (omega (arith, lt))))

-- the front, if it passes and nothing after it does
pub front_preserved : {A : Type 0} (test : A → Bool) (xs : List A) (k : ℕ) → IsPartitionPoint (λ x. test x ≡ true) (λ x. test x ≡ false) xs k → take k xs ≡ filter test xs
front_preserved test [] zero point = refl
front_preserved test [] (suc k) point = refl
front_preserved test (x ∷ xs) zero point = sym (none_preserved test (x ∷ xs) point.1)
front_preserved {A = A} test (x ∷ xs) (suc k) point =
    ap (λ (l : List A). x ∷ l) (front_preserved test xs k (
      λ j d low lt. point.0 (suc j) d (omega arith) (omega (arith, lt)),
      λ j d low lt. point.1 (suc j) d (omega (arith, low)) (omega (arith, lt)),
    ))
    ∙ sym (ap (λ (b : Bool). cond b (x ∷ filter test xs) (filter test xs)) (point.0 0 x (omega arith) (omega arith)))

-- the back, if it passes and nothing before it does
pub back_preserved : {A : Type 0} (test : A → Bool) (xs : List A) (k : ℕ) → IsPartitionPoint (λ x. test x ≡ false) (λ x. test x ≡ true) xs k → drop k xs ≡ filter test xs
back_preserved test [] zero point = refl
back_preserved test [] (suc k) point = refl
back_preserved test (x ∷ xs) zero point = sym (all_preserved test (x ∷ xs) point.1)
back_preserved test (x ∷ xs) (suc k) point =
    back_preserved test xs k (
      λ j d low lt. point.0 (suc j) d (omega arith) (omega (arith, lt)),
      λ j d low lt. point.1 (suc j) d (omega (arith, low)) (omega (arith, lt)),
    )
    ∙ sym (ap (λ (b : Bool). cond b (x ∷ filter test xs) (filter test xs)) (point.0 0 x (omega arith) (omega arith)))

-- what two tests keep, one after the other, is what both pass
pub filter_two : {A : Type 0} (one other whole : A → Bool) → ((x : A) → (one x && other x) ≡ whole x) → (xs : List A) → filter other (filter one xs) ≡ filter whole xs
filter_two one other whole is [] = refl
filter_two {A = A} one other whole is (x ∷ xs) =
    by (one x) (other x) refl (filter_two one other whole is xs)
    ∙ ap (λ (b : Bool). cond b (x ∷ filter whole xs) (filter whole xs)) (is x)
  where
    by : (a b : Bool) → other x ≡ b → filter other (filter one xs) ≡ filter whole xs
        → filter other (cond a (x ∷ filter one xs) (filter one xs)) ≡ cond (a && b) (x ∷ filter whole xs) (filter whole xs)
    by true true e rest =
        ap (λ (b : Bool). cond b (x ∷ filter other (filter one xs)) (filter other (filter one xs))) e ∙ ap (λ (l : List A). x ∷ l) rest
    by true false e rest =
        ap (λ (b : Bool). cond b (x ∷ filter other (filter one xs)) (filter other (filter one xs))) e ∙ rest
    by false b e rest = rest

-- two tests that answer alike keep the same
pub filter_alike : {A : Type 0} (test other : A → Bool) → ((x : A) → test x ≡ other x) → (xs : List A) → filter test xs ≡ filter other xs
filter_alike test other is [] = refl
filter_alike {A = A} test other is (x ∷ xs) =
    ap (λ (b : Bool). cond b (x ∷ filter test xs) (filter test xs)) (is x)
    ∙ ap (λ (l : List A). cond (other x) (x ∷ l) l) (filter_alike test other is xs)

-- a filter of what is made of a list is the filter by what each element makes
pub filter_mapped : {A B : Type 0} (test : A → Bool) (f : B → A) (ys : List B) → filter test (map f ys) ≡ map f (filter (λ y. test (f y)) ys)
filter_mapped test f [] = refl
filter_mapped {A = A} test f (y ∷ ys) = by (test (f y)) (filter_mapped test f ys)
  where
    by : (b : Bool) → filter test (map f ys) ≡ map f (filter (λ y. test (f y)) ys)
        → cond b (f y ∷ filter test (map f ys)) (filter test (map f ys)) ≡ map f (cond b (y ∷ filter (λ y. test (f y)) ys) (filter (λ y. test (f y)) ys))
    by true rest = ap (λ (l : List A). f y ∷ l) rest
    by false rest = rest

twice : (b : Bool) → (b && b) ≡ b
twice true = refl
twice false = refl

-- what passes a test twice passes it once
pub filter_again : {A : Type 0} (test : A → Bool) (xs : List A) → filter test (filter test xs) ≡ filter test xs
filter_again test xs = filter_two test test test (λ x. twice (test x)) xs

-- ---- positions

-- one entry and the next
adjacent : (e : SourceEntry) (h : List SourceEntry) → rises_after (of_source e) (map of_source h) ≡ true → (k : ℕ) (d : SourceEntry) → k < length h
    → (get_or (e ∷ h) k d).stamp.pos ≤ (get_or (e ∷ h) (suc k) d).stamp.pos
adjacent e [] r k d l = absurd (omega (arith, l))
adjacent e (x ∷ h) r zero d l =
    let ticks = nat_lt e.stamp.tick x.stamp.tick in
    let positions = nat_le (next_position (of_source e)) x.stamp.pos in
    let first : positions ≡ true = both_right ticks positions (both_left (ticks && positions) (rises_after (of_source x) (map of_source h)) r) in
    grind (arith, nat_tests)
adjacent e (x ∷ h) r (suc k) d l =
    adjacent x h (both_right (nat_lt e.stamp.tick x.stamp.tick && nat_le (next_position (of_source e)) x.stamp.pos) (rises_after (of_source x) (map of_source h)) r) k d (omega (arith, l))

-- they never fall along a history that rises
pub rising : (h : List SourceEntry) → rises (map of_source h) ≡ true → IsNonDecreasingBy (λ (one : SourceEntry). one.stamp.pos) h
rising [] r = λ i j d le lt. absurd (omega (arith, lt))
rising (e ∷ h) r = IsNonDecreasingBy-from_all_adjacent (λ (one : SourceEntry). one.stamp.pos) (e ∷ h) (
    λ k d l. (let next : suc k ≡ k + 1 = omega arith in
    subst (λ (n : ℕ). (get_or (e ∷ h) k d).stamp.pos ≤ (get_or (e ∷ h) n d).stamp.pos) next (adjacent e h r k d (omega (arith, l))))
    )

-- a position is before that one, or from it on
pub is_from : (a b : ℕ) → nat_lt a b ≡ false → nat_le b a ≡ true
is_from a b h = grind (arith, nat_tests)

pub not_from : (a b : ℕ) → nat_lt a b ≡ true → nat_le b a ≡ false
not_from a b h = grind (arith, nat_tests)

-- what comes from the first position of a range on, and before its end, is of the range
pub both_ends : (from end : ℕ) (h : List SourceEntry)
    → map of_source (filter (λ (one : SourceEntry). nat_lt one.stamp.pos end) (filter (λ (one : SourceEntry). nat_le from one.stamp.pos) h))
    ≡ filter (is_in (record { from = from; to = Some end })) (map of_source h)
both_ends from end h =
    ap (λ (l : List SourceEntry). map of_source l)
    (filter_two (λ (one : SourceEntry). nat_le from one.stamp.pos) (λ (one : SourceEntry). nat_lt one.stamp.pos end) (λ (one : SourceEntry). is_in (record { from = from; to = Some end }) (of_source one)) (λ one. refl) h)
    ∙ sym (filter_mapped (is_in (record { from = from; to = Some end })) of_source h)

-- if the range has no end, all that comes from its first position on
pub no_end : (from : ℕ) (h : List SourceEntry)
    → map of_source (filter (λ (one : SourceEntry). nat_le from one.stamp.pos) h) ≡ filter (is_in (record { from = from; to = None })) (map of_source h)
no_end from h =
    ap (λ (l : List SourceEntry). map of_source l)
    (filter_alike (λ (one : SourceEntry). nat_le from one.stamp.pos) (λ (one : SourceEntry). is_in (record { from = from; to = None }) (of_source one)) (λ one. and_true (nat_le from one.stamp.pos)) h)
    ∙ sym (filter_mapped (is_in (record { from = from; to = None })) of_source h)
  where
    and_true : (b : Bool) → b ≡ (b && true)
    and_true true = refl
    and_true false = refl

-- each of these histories rises
pub rises_at : (histories : List (List SourceEntry)) (i : ℕ) (none : List SourceEntry) → list_all (λ history. rises (map of_source history)) histories ≡ true → i < length histories → rises (map of_source (get_or histories i none)) ≡ true
rises_at [] i none all l = absurd (omega (arith, l))
rises_at (h ∷ hs) zero none all l = both_left (rises (map of_source h)) (list_all (λ history. rises (map of_source history)) hs) all
rises_at (h ∷ hs) (suc i) none all l = rises_at hs i none (both_right (rises (map of_source h)) (list_all (λ history. rises (map of_source history)) hs) all) (omega (arith, l))
