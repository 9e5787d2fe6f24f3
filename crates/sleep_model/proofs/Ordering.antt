-- The order of devices has each device once.
use Rattle.std.proofs.Common.{◌≡◌, ◌∙◌, ℕ, Bool, true, false, not, ◌==◌, ◌||◌, List, [], ◌∷◌, ◌++◌, length, filter, refl, sym, ap, cond, Option, arith}
use Rattle.std.proofs.lemmas.Bool.{true≢false}
use Rattle.std.proofs.Math.Bool.{or-true}
use Rattle.std.proofs.lemmas.Bool.Decides.{nat_tests}
use Rattle.sleep_model.specs.declared.entry.Entry.{Entry}
use Rattle.sleep_model.specs.declared.machine.Machine.{Machine}
use Rattle.sleep_model.specs.declared.machine.Link.{Link}
use Rattle.sleep_model.specs.Order.{is_among, parents_of, dependents, last_occurrences, moved, order_by, order, links_at}
use Rattle.sleep_model.proofs.Walks.{AllDifferent, same_eq, run_different}

-- what is not in a list is not in a part of it
pub not_in_filter : (p : ℕ → Bool) (xs : List ℕ) (d : ℕ) → is_among xs d ≡ false → is_among (filter p xs) d ≡ false
not_in_filter p [] d h = refl
not_in_filter p (x ∷ xs) d h = by_test (x == d) (is_among xs d) refl refl h (not_in_filter p xs d) (p x)
  where
    by_test : (a b : Bool) → (x == d) ≡ a → is_among xs d ≡ b → (a || b) ≡ false → (is_among xs d ≡ false → is_among (filter p xs) d ≡ false) → (c : Bool) → is_among (cond c (x ∷ filter p xs) (filter p xs)) d ≡ false
    by_test true b e f g rest c = absurd (true≢false g)
    by_test false b e f g rest true = ap (λ y. y || is_among (filter p xs) d) e ∙ rest (f ∙ g)
    by_test false b e f g rest false = rest (f ∙ g)

pub different_filter : (p : ℕ → Bool) (xs : List ℕ) → AllDifferent xs → AllDifferent (filter p xs)
different_filter p [] h = tt
different_filter p (x ∷ xs) h = by_test (different_filter p xs h.1) (p x)
  where
    by_test : AllDifferent (filter p xs) → (c : Bool) → AllDifferent (cond c (x ∷ filter p xs) (filter p xs))
    by_test rest true = (not_in_filter p xs x h.0, rest)
    by_test rest false = rest

-- what the filter keeps passes
pub preserved_passes : (p : ℕ → Bool) (xs : List ℕ) (d : ℕ) → p d ≡ false → is_among (filter p xs) d ≡ false
preserved_passes p [] d h = refl
preserved_passes p (x ∷ xs) d h = by_test (preserved_passes p xs d h) (p x) refl (x == d) refl
  where
    by_test : is_among (filter p xs) d ≡ false → (c : Bool) → p x ≡ c → (b : Bool) → (x == d) ≡ b → is_among (cond c (x ∷ filter p xs) (filter p xs)) d ≡ false
    by_test rest true e true f = let same : x ≡ d = grind (arith, nat_tests) in absurd (true≢false (sym e ∙ (ap p same ∙ h)))
    by_test rest true e false f = ap (λ y. y || is_among (filter p xs) d) f ∙ rest
    by_test rest false e b f = rest

-- the last positions have the same devices
pub last_among : (xs : List ℕ) (d : ℕ) → is_among xs d ≡ false → is_among (last_occurrences xs) d ≡ false
last_among [] d h = refl
last_among (x ∷ xs) d h = by_test (x == d) (is_among xs d) refl refl h (last_among xs d) (is_among xs x)
  where
    by_test : (a b : Bool) → (x == d) ≡ a → is_among xs d ≡ b → (a || b) ≡ false → (is_among xs d ≡ false → is_among (last_occurrences xs) d ≡ false) → (c : Bool) → is_among (cond c (last_occurrences xs) (x ∷ last_occurrences xs)) d ≡ false
    by_test true b e f g rest c = absurd (true≢false g)
    by_test false b e f g rest true = rest (f ∙ g)
    by_test false b e f g rest false = ap (λ y. y || is_among (last_occurrences xs) d) e ∙ rest (f ∙ g)

pub different_last : (xs : List ℕ) → AllDifferent (last_occurrences xs)
different_last [] = tt
different_last (x ∷ xs) = by_test (different_last xs) (is_among xs x) refl
  where
    by_test : AllDifferent (last_occurrences xs) → (c : Bool) → is_among xs x ≡ c → AllDifferent (cond c (last_occurrences xs) (x ∷ last_occurrences xs))
    by_test rest true e = rest
    by_test rest false e = (last_among xs x e, rest)

pub among_append : (xs ys : List ℕ) (d : ℕ) → is_among xs d ≡ false → is_among ys d ≡ false → is_among (xs ++ ys) d ≡ false
among_append [] ys d h g = g
among_append (x ∷ xs) ys d h g = by_test (x == d) (is_among xs d) refl refl h (λ e. among_append xs ys d e g)
  where
    by_test : (a b : Bool) → (x == d) ≡ a → is_among xs d ≡ b → (a || b) ≡ false → (is_among xs d ≡ false → is_among (xs ++ ys) d ≡ false) → is_among (x ∷ xs ++ ys) d ≡ false
    by_test true b e f k rest = absurd (true≢false k)
    by_test false b e f k rest = ap (λ y. y || is_among (xs ++ ys) d) e ∙ rest (f ∙ k)

pub different_append : (xs ys : List ℕ) → AllDifferent xs → AllDifferent ys → ((d : ℕ) → is_among xs d ≡ true → is_among ys d ≡ false) → AllDifferent (xs ++ ys)
different_append [] ys h g apart = g
different_append (x ∷ xs) ys h g apart = (
  among_append xs ys x h.0 (apart x (ap (λ b. b || is_among xs x) (same_eq x))),
  different_append xs ys h.1 g (λ d m. apart d (ap (λ b. (x == d) || b) m ∙ or-true (x == d))),
)

-- each link leaves each device once
pub order_by_different : (ds : List (Option ℕ)) (ls : List Link) → AllDifferent (order_by ds ls)
order_by_different ds [] = run_different 0 (length ds)
order_by_different ds (l ∷ ls) =
    let ms = moved (length ds) (dependents ds (l ∷ ls)) l.consumer in
    different_append (filter (λ d. not (is_among ms d)) (order_by ds ls)) (last_occurrences ms) (different_filter (λ d. not (is_among ms d)) (order_by ds ls) (order_by_different ds ls)) (different_last ms)
    (λ d m. apart ms d (is_among ms d) refl m)
  where
    apart : (ms : List ℕ) (d : ℕ) (b : Bool) → is_among ms d ≡ b → is_among (filter (λ x. not (is_among ms x)) (order_by ds ls)) d ≡ true → is_among (last_occurrences ms) d ≡ false
    apart ms d true e m = absurd (true≢false (sym m ∙ preserved_passes (λ x. not (is_among ms x)) (order_by ds ls) d (ap not e)))
    apart ms d false e m = last_among ms d e

-- the devices of the order are different
pub order_different : (m : Machine) (past : List Entry) → AllDifferent (order m past)
order_different m past = order_by_different (parents_of m.devices) (links_at m past)
