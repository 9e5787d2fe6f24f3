-- The positions of keys in a list, and the first that comes a second time.
use Rattle.std.proofs.Common.{◌≡◌, ◌<◌, ◌≤◌, ◌+◌, ◌-◌, ◌∙◌, ◌||◌, ◌&&◌, ℕ, zero, suc, Bool, true, false, not, cond, nat_lt, if◌then◌else◌, List, [], ◌∷◌, ◌++◌, length, map, take, drop, reverse, get_or, position, Option, Some, None, is_some, refl, sym, ap, arith, drop-cons}
use Rattle.std.specs.List.{list_any}
use Rattle.std.specs.Option.{option_map}
use Rattle.std.proofs.lemmas.Bool.Decides.{nat_tests}
use Rattle.std.proofs.lemmas.List.{reverse-append}
use Rattle.std.proofs.Math.Seq.{take-suc}
use Rattle.std.proofs.Math.ListN.{drop_of_length-le}
pub use Rattle.key_index.proofs.Placing.{position_cons}
use Rattle.borrowed_json.specs.Look.{is_some_and}
use Rattle.file_rules.specs.Places.{first_not_after}

before_case : (b r : Bool) (i : ℕ) (o : Option ℕ) → r ≡ is_some_and (λ j. nat_lt j i) o → (b || r) ≡ is_some_and (λ j. nat_lt j (suc i)) (cond b (Some 0) (option_map suc o))
before_case true r i o e = let z : nat_lt 0 (suc i) ≡ true = grind (arith, nat_tests) in sym z
before_case false r i None e = e
before_case false r i (Some j) e = e ∙ (grind (arith, nat_tests))

-- one of the first i passes if the first position of all that pass is before i
pub any_before : {X : Type 0} (p : X → Bool) (i : ℕ) (xs : List X) → list_any p (take i xs) ≡ is_some_and (λ j. nat_lt j i) (position p xs)
any_before p i [] = nothing i
  where
    nothing : (i : ℕ) → list_any p (take i []) ≡ false
    nothing zero = refl
    nothing (suc i) = refl
any_before p zero (x ∷ xs) = never (position p (x ∷ xs))
  where
    never : (o : Option ℕ) → false ≡ is_some_and (λ j. nat_lt j 0) o
    never None = refl
    never (Some j) = grind (arith, nat_tests)
any_before p (suc i) (x ∷ xs) =
    before_case (p x) (list_any p (take i xs)) i (position p xs) (any_before p i xs)
    ∙ ap (is_some_and (λ j. nat_lt j (suc i))) (sym (position_cons p x xs))

pub any_append : {X : Type 0} (p : X → Bool) (xs : List X) (x : X) → list_any p (xs ++ x ∷ []) ≡ (p x || list_any p xs)
any_append p [] x = refl
any_append p (y ∷ ys) x = ap (λ b. p y || b) (any_append p ys x) ∙ swap (p y) (p x) (list_any p ys)
  where
    swap : (a b c : Bool) → (a || (b || c)) ≡ (b || (a || c))
    swap true true c = refl
    swap true false c = refl
    swap false true c = refl
    swap false false c = refl

pub any_reverse : {X : Type 0} (p : X → Bool) (xs : List X) → list_any p (reverse xs) ≡ list_any p xs
any_reverse p [] = refl
any_reverse p (x ∷ xs) = ap (list_any p) (reverse-append (x ∷ []) xs) ∙ any_append p (reverse xs) x ∙ ap (λ b. p x || b) (any_reverse p xs)

-- the search for a key that comes before, at its next key
module _ {K : Type 0} (eq : K → K → Bool) where
  abbrev pub is_new : List K → K → Bool
  is_new before k = not (list_any (eq k) before)

  -- the search from number i on
  abbrev pub repeated_from : List K → ℕ → Option ℕ
  repeated_from keys i = first_not_after is_new (reverse (take i keys)) i (drop i keys)

  module _ (keys : List K) (i : ℕ) (k : K) (within : i < length keys) (is : k ≡ get_or keys i k) where
    next : suc i ≡ i + 1
    next = omega arith

    split : drop i keys ≡ k ∷ drop (suc i) keys
    split = drop-cons keys i k within ∙ ap (λ x. x ∷ drop (suc i) keys) (sym is)

    taken : k ∷ reverse (take i keys) ≡ reverse (take (suc i) keys)
    taken = sym (ap reverse (take-suc keys i k within ∙ ap (λ x. take i keys ++ x ∷ []) (sym is)) ∙ reverse-append (take i keys) (k ∷ []))

    step : repeated_from keys i ≡ (if not (list_any (eq k) (take i keys)) then repeated_from keys (suc i) else Some i)
    step =
        ap (first_not_after is_new (reverse (take i keys)) i) split
        ∙ ap (λ b. if not b then first_not_after is_new (k ∷ reverse (take i keys)) (suc i) (drop (suc i) keys) else Some i) (any_reverse (eq k) (take i keys))
        ∙ ap (λ before. if not (list_any (eq k) (take i keys)) then first_not_after is_new before (suc i) (drop (suc i) keys) else Some i) taken

    pub repeated_here : list_any (eq k) (take i keys) ≡ true → Some i ≡ repeated_from keys i
    repeated_here h = rw step (rw h refl)

    pub repeated_later : list_any (eq k) (take i keys) ≡ false → repeated_from keys i ≡ repeated_from keys (i + 1)
    repeated_later h = rw step (rw h (ap (repeated_from keys) next))

-- after the last key nothing is found
pub repeated_none : {K : Type 0} (eq : K → K → Bool) (keys : List K) (i : ℕ) → length keys ≤ i → repeated_from eq keys i ≡ None
repeated_none eq keys i h = rw (drop_of_length-le keys h) refl

pub any_map : {X Y : Type 0} (p : Y → Bool) (f : X → Y) (xs : List X) → list_any (λ x. p (f x)) xs ≡ list_any p (map f xs)
any_map p f [] = refl
any_map p f (x ∷ xs) = ap (λ b. p (f x) || b) (any_map p f xs)

-- items that differ exactly if what is seen of them does
pub repeated_map : {X Y : Type 0} (same : Y → Y → Bool) (f : X → Y) (before : List X) (n : ℕ) (xs : List X) →
    first_not_after (λ b k. not (list_any (λ x. same (f k) (f x)) b)) before n xs ≡ first_not_after (λ b y. not (list_any (same y) b)) (map f before) n (map f xs)
repeated_map same f before n [] = refl
repeated_map same f before n (x ∷ xs) =
    ap (λ t. if not t then first_not_after (λ b k. not (list_any (λ x. same (f k) (f x)) b)) (x ∷ before) (suc n) xs else Some n) (any_map (same (f x)) f before)
    ∙ ap (λ o. if not (list_any (same (f x)) (map f before)) then o else Some n) (repeated_map same f (x ∷ before) (suc n) xs)

-- a search among the earlier ones: of what is seen of each
pub later_map : {X Y : Type 0} (test : List Y → Y → Bool) (f : X → Y) (before : List X) (n : ℕ) (xs : List X) →
    first_not_after test (map f before) n (map f xs) ≡ first_not_after (λ b x. test (map f b) (f x)) before n xs
later_map test f before n [] = refl
later_map test f before n (x ∷ xs) = ap (λ o. if test (map f before) (f x) then o else Some n) (later_map test f (x ∷ before) (suc n) xs)

-- a search among the earlier ones, item by item
module _ {X : Type 0} (test : List X → X → Bool) where
  abbrev pub later_from : List X → ℕ → Option ℕ
  later_from xs i = first_not_after test (reverse (take i xs)) i (drop i xs)

  module _ (xs : List X) (i : ℕ) (x : X) (within : i < length xs) (is : x ≡ get_or xs i x) where
    taken_more : x ∷ reverse (take i xs) ≡ reverse (take (suc i) xs)
    taken_more = sym (ap reverse (take-suc xs i x within ∙ ap (λ y. take i xs ++ y ∷ []) (sym is)) ∙ reverse-append (take i xs) (x ∷ []))

    pub one_later : later_from xs i ≡ (if test (reverse (take i xs)) x then later_from xs (suc i) else Some i)
    one_later =
        ap (first_not_after test (reverse (take i xs)) i) (drop-cons xs i x within ∙ ap (λ y. y ∷ drop (suc i) xs) (sym is))
        ∙ ap (λ before. if test (reverse (take i xs)) x then first_not_after test before (suc i) (drop (suc i) xs) else Some i) taken_more

    pub later_here : test (reverse (take i xs)) x ≡ false → Some i ≡ later_from xs i
    later_here h = rw one_later (rw h refl)

    pub later_next : test (reverse (take i xs)) x ≡ true → later_from xs i ≡ later_from xs (i + 1)
    later_next h = let s : suc i ≡ i + 1 = omega arith in rw one_later (rw h (ap (later_from xs) s))

  pub later_none : (xs : List X) (i : ℕ) → length xs ≤ i → later_from xs i ≡ None
  later_none xs i h = rw (drop_of_length-le xs h) refl

pub any_along : {X Y : Type 0} (p : Y → Bool) (f : X → Y) (i : ℕ) (xs : List X) → list_any (λ x. p (f x)) (take i xs) ≡ list_any p (take i (map f xs))
any_along p f zero xs = refl
any_along p f (suc i) [] = refl
any_along p f (suc i) (x ∷ xs) = ap (λ b. p (f x) || b) (any_along p f i xs)

-- among the first ones, the newest first
pub any_taken : {X Y : Type 0} (p : Y → Bool) (f : X → Y) (i : ℕ) (xs : List X) → list_any p (map f (reverse (take i xs))) ≡ list_any p (take i (map f xs))
any_taken p f i xs = sym (any_map p f (reverse (take i xs))) ∙ any_reverse (λ x. p (f x)) (take i xs) ∙ any_along p f i xs

some_case : (b r : Bool) (o : Option ℕ) → is_some o ≡ r → is_some (cond b (Some 0) (option_map suc o)) ≡ (b || r)
some_case true r o e = refl
some_case false r None e = e
some_case false r (Some j) e = e

-- one of them passes if there is a first position
pub some_position : {X : Type 0} (p : X → Bool) (xs : List X) → is_some (position p xs) ≡ list_any p xs
some_position p [] = refl
some_position p (x ∷ xs) = ap is_some (position_cons p x xs) ∙ some_case (p x) (list_any p xs) (position p xs) (some_position p xs)

-- the same after a reserved name
pub reserved_first : {X : Type 0} (eq : X → X → Bool) (a : X) (before : List X) (n : ℕ) (xs : List X) →
    first_not_after (λ b x. not (list_any (eq x) (a ∷ b))) before n xs ≡ option_map (λ k. k - 1) (first_not_after (λ b x. not (list_any (eq x) b)) (before ++ a ∷ []) (suc n) xs)
reserved_first eq a before n [] = refl
reserved_first eq a before n (x ∷ xs) =
    ap (λ o. if not (list_any (eq x) (a ∷ before)) then o else Some n) (reserved_first eq a (x ∷ before) (suc n) xs)
    ∙ by (not (list_any (eq x) (a ∷ before))) (first_not_after (λ b y. not (list_any (eq y) b)) (x ∷ before ++ a ∷ []) (suc (suc n)) xs)
    ∙ ap (λ t. option_map (λ k. k - 1) (if not t then first_not_after (λ b y. not (list_any (eq y) b)) (x ∷ before ++ a ∷ []) (suc (suc n)) xs else Some (suc n))) (sym (any_append (eq x) before a))
  where
    by : (t : Bool) (o : Option ℕ) → (if t then option_map (λ k. k - 1) o else Some n) ≡ option_map (λ k. k - 1) (if t then o else Some (suc n))
    by true o = refl
    by false o = let z : n ≡ suc n - 1 = omega arith in ap Some z

-- the same, if each has also to pass a test of its own
pub seen_map : {X Y : Type 0} (own : Y → Bool) (same : Y → Y → Bool) (f : X → Y) (before : List X) (n : ℕ) (xs : List X) →
    first_not_after (λ b x. own (f x) && not (list_any (λ z. same (f x) (f z)) b)) before n xs ≡ first_not_after (λ b y. own y && not (list_any (same y) b)) (map f before) n (map f xs)
seen_map own same f before n [] = refl
seen_map own same f before n (x ∷ xs) =
    ap (λ t. if own (f x) && not t then first_not_after (λ b k. own (f k) && not (list_any (λ z. same (f k) (f z)) b)) (x ∷ before) (suc n) xs else Some n) (any_map (same (f x)) f before)
    ∙ ap (λ o. if own (f x) && not (list_any (same (f x)) (map f before)) then o else Some n) (seen_map own same f (x ∷ before) (suc n) xs)

-- the first ones, seen through two functions
pub any_taken_twice : {X Y Z : Type 0} (p : Z → Bool) (g : Y → Z) (f : X → Y) (i : ℕ) (xs : List X) → list_any p (map g (map f (reverse (take i xs)))) ≡ list_any p (take i (map g (map f xs)))
any_taken_twice p g f i xs =
    sym (any_map p g (map f (reverse (take i xs)))) ∙ any_taken (λ y. p (g y)) f i xs ∙ any_along p g i (map f xs)

-- the first place, of what is seen of each
pub position_map : {X Y : Type 0} (p : Y → Bool) (f : X → Y) (xs : List X) → position (λ x. p (f x)) xs ≡ position p (map f xs)
position_map p f [] = refl
position_map p f (x ∷ xs) =
    position_cons (λ x. p (f x)) x xs ∙ ap (λ o. cond (p (f x)) (Some 0) (option_map suc o)) (position_map p f xs) ∙ sym (position_cons p (f x) (map f xs))
