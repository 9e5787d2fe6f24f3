-- Lists of which each item is written again: what a test, a search or a sum says of the one list it says of the other.
use Rattle.std.proofs.Common.{◌≡◌, ◌∙◌, ◌&&◌, ◌||◌, ℕ, suc, List, [], ◌∷◌, map, length, Bool, true, not, cond, if◌then◌else◌, Some, None, option_map, refl, sym, ap, ap₂, ◌+◌, sum_by}
use Rattle.std.specs.List.{list_all, list_any}
use Rattle.std.proofs.lemmas.Bool.{and_parts, and_from}
use Rattle.std.proofs.lemmas.List.Sums.{sum_by-cons}
use Rattle.file_rules.specs.Places.{first_not, first_not_after}
use Rattle.file_rules.proofs.Placing.{position_cons}

-- each of them is so
abbrev pub EachOf : {X : Type 0} → (X → Type 0) → List X → Type 0
EachOf P [] = Unit {0}
EachOf P (x ∷ xs) = P x × EachOf P xs

pub weaker : {X : Type 0} (P Q : X → Type 0) (xs : List X) → ((x : X) → P x → Q x) → EachOf P xs → EachOf Q xs
weaker P Q [] f h = tt
weaker P Q (x ∷ xs) f h = (f x h.0, weaker P Q xs f h.1)

pub each_both : {X : Type 0} (P Q : X → Type 0) (xs : List X) → EachOf P xs → EachOf Q xs → EachOf (λ x. P x × Q x) xs
each_both P Q [] h k = tt
each_both P Q (x ∷ xs) h k = ((h.0, k.0), each_both P Q xs h.1 k.1)

-- each passes
pub each_passes : {X : Type 0} (test : X → Bool) (xs : List X) → list_all test xs ≡ true → EachOf (λ x. test x ≡ true) xs
each_passes test [] e = tt
each_passes test (x ∷ xs) e = let both = and_parts (test x) (list_all test xs) e in (both.0, each_passes test xs both.1)

-- all that are made pass
pub made_pass : {X Y : Type 0} (test : Y → Bool) (f : X → Y) (xs : List X) → EachOf (λ x. test (f x) ≡ true) xs → list_all test (map f xs) ≡ true
made_pass test f [] h = refl
made_pass test f (x ∷ xs) h = and_from (test (f x)) (list_all test (map f xs)) h.0 (made_pass test f xs h.1)

pub none_fails : {X : Type 0} (test : X → Bool) (xs : List X) → list_all test xs ≡ true → first_not test xs ≡ None
none_fails test [] e = refl
none_fails test (x ∷ xs) e =
    let both = and_parts (test x) (list_all test xs) e in
    position_cons (λ y. not (test y)) x xs ∙ ap (λ b. cond (not b) (Some 0) (option_map suc (first_not test xs))) both.0 ∙ ap (option_map suc) (none_fails test xs both.1)

-- what is seen of each is what was seen before
pub seen_alike : {X Y Z : Type 0} (f : Y → Z) (g : X → Y) (h : X → Z) (xs : List X) → EachOf (λ x. f (g x) ≡ h x) xs → map f (map g xs) ≡ map h xs
seen_alike f g h [] e = refl
seen_alike f g h (x ∷ xs) e = ap₂ (λ y ys. y ∷ ys) e.0 (seen_alike f g h xs e.1)

pub mapped : {X Y Z : Type 0} (f : Y → Z) (g : X → Y) (xs : List X) → map f (map g xs) ≡ map (λ x. f (g x)) xs
mapped f g [] = refl
mapped f g (x ∷ xs) = ap (λ ys. f (g x) ∷ ys) (mapped f g xs)

pub length_alike : {X Y : Type 0} (f : X → Y) (xs : List X) → length (map f xs) ≡ length xs
length_alike f [] = refl
length_alike f (x ∷ xs) = ap suc (length_alike f xs)

-- a search beside those before finds the same
pub later_alike : {X : Type 0} (test : List X → X → Bool) (f : X → X) (P : X → Type 0) → ((b : List X) (x : X) → EachOf P b → P x → test (map f b) (f x) ≡ test b x) →
    (before : List X) (n : ℕ) (xs : List X) → EachOf P before → EachOf P xs → first_not_after test (map f before) n (map f xs) ≡ first_not_after test before n xs
later_alike test f P same before n [] b h = refl
later_alike test f P same before n (x ∷ xs) b h =
    ap (λ t. if t then first_not_after test (f x ∷ map f before) (suc n) (map f xs) else Some n) (same before x b h.0)
    ∙ ap (λ o. if test before x then o else Some n) (later_alike test f P same (x ∷ before) (suc n) xs (h.0, b) h.1)

pub any_alike : {X Y : Type 0} (p : Y → Bool) (f : X → Y) (q : X → Bool) (xs : List X) → EachOf (λ x. p (f x) ≡ q x) xs → list_any p (map f xs) ≡ list_any q xs
any_alike p f q [] h = refl
any_alike p f q (x ∷ xs) h = ap₂ (λ a b. a || b) h.0 (any_alike p f q xs h.1)

pub all_alike : {X Y : Type 0} (p : Y → Bool) (f : X → Y) (q : X → Bool) (xs : List X) → EachOf (λ x. p (f x) ≡ q x) xs → list_all p (map f xs) ≡ list_all q xs
all_alike p f q [] h = refl
all_alike p f q (x ∷ xs) h = ap₂ (λ a b. a && b) h.0 (all_alike p f q xs h.1)

pub sum_alike : {X Y : Type 0} (p : Y → ℕ) (f : X → Y) (q : X → ℕ) (xs : List X) → EachOf (λ x. p (f x) ≡ q x) xs → sum_by p (map f xs) ≡ sum_by q xs
sum_alike p f q [] h = refl
sum_alike p f q (x ∷ xs) h = sum_by-cons p (f x) (map f xs) ∙ ap₂ (λ a b. a + b) h.0 (sum_alike p f q xs h.1) ∙ sym (sum_by-cons q x xs)

-- the same, by two tests
pub later_between : {X : Type 0} (test other : List X → X → Bool) (f : X → X) (P : X → Type 0) → ((b : List X) (x : X) → EachOf P b → P x → test (map f b) (f x) ≡ other b x) →
    (before : List X) (n : ℕ) (xs : List X) → EachOf P before → EachOf P xs → first_not_after test (map f before) n (map f xs) ≡ first_not_after other before n xs
later_between test other f P same before n [] b h = refl
later_between test other f P same before n (x ∷ xs) b h =
    ap (λ t. if t then first_not_after test (f x ∷ map f before) (suc n) (map f xs) else Some n) (same before x b h.0)
    ∙ ap (λ o. if other before x then o else Some n) (later_between test other f P same (x ∷ before) (suc n) xs (h.0, b) h.1)

-- each that is made is so
pub each_made : {X Y : Type 0} (P : Y → Type 0) (f : X → Y) (xs : List X) → EachOf (λ x. P (f x)) xs → EachOf P (map f xs)
each_made P f [] h = tt
each_made P f (x ∷ xs) h = (h.0, each_made P f xs h.1)
