-- Levels show that no chain is longer.
use Rattle.std.proofs.Common.{◌≡◌, ◌<◌, ◌≤◌, ◌+◌, ◌∙◌, ◌&&◌, ◌==◌, eqb, ltb, leb, ℕ, suc, Bool, true, false, ◌⊎◌, inl, inr, List, [], ◌∷◌, length, Some, None, Result, Ok, Err, IfOk, refl, sym, ap, subst, arith}
use Rattle.std.specs.List.{list_all}
use Rattle.std.proofs.lemmas.Bool.{false≢true, eqb-true, eqb-false, or_cases, and_from, and_parts, cases_eq, lt-ltb, le-leb, ltb-true, leb-true}
use Rattle.sleep_model.specs.Order.{is_among, dependents}
use Rattle.sleep_model.specs.Links.{IsOrder}
use Rattle.sleep_model.proofs.Dependents.{among_first, among_rest, within_of}
use Rattle.device_links.specs.Linked.{Linked}
use Rattle.device_chain.specs.Chains.{AreLevels, IsLedTo, IsLongest, above_of, are_levels, below_of, end_of, first_at, follow, greatest, is_chain, is_level, level_at, order_of}
use Rattle.device_chain.proofs.Leveling.{below_across, below_depends}
use Rattle.device_chain.proofs.Chaining.{greatest_missing, greatest_over, none_found}

-- ---- lists

all_at : (p : ℕ → Bool) (ds : List ℕ) → list_all p ds ≡ true → (d : ℕ) → is_among ds d ≡ true → p d ≡ true
all_at p [] h d m = absurd (false≢true m)
all_at p (x ∷ xs) h d m =
    let parts = and_parts (p x) (list_all p xs) h in
    by_place parts.0 (all_at p xs parts.1 d) (or_cases (x == d) (is_among xs d) m)
  where
    by_place : p x ≡ true → (is_among xs d ≡ true → p d ≡ true) → ((x == d) ≡ true) ⊎ (is_among xs d ≡ true) → p d ≡ true
    by_place h rest (inl e) = ap p (sym (eqb-true x d e)) ∙ h
    by_place h rest (inr n) = rest n

all_from : (p : ℕ → Bool) (ds : List ℕ) → ((d : ℕ) → is_among ds d ≡ true → p d ≡ true) → list_all p ds ≡ true
all_from p [] h = refl
all_from p (x ∷ xs) h = and_from (p x) (list_all p xs) (h x (among_first x xs)) (all_from p xs (λ d m. h d (among_rest x xs d m)))

-- ---- the order

-- the order has all devices and no others, each before those that depend on it
pub record IsWholeOrder (l : Linked) : Type 0 where
  pub count : length (order_of l) ≡ length l.parents
  pub ranked : IsOrder (dependents l.parents l.links) (order_of l)
  pub covers : (d : ℕ) → d < length l.parents → is_among (order_of l) d ≡ true
  pub within : (d : ℕ) → is_among (order_of l) d ≡ true → d < length l.parents

-- who depends on a device of the order is in the order
order_depends : (dependents_of : ℕ → List ℕ) (xs : List ℕ) → IsOrder dependents_of xs → (d x : ℕ) → is_among xs d ≡ true → is_among (dependents_of d) x ≡ true → is_among xs x ≡ true
order_depends dependents_of [] h d x m n = absurd (false≢true m)
order_depends dependents_of (y ∷ ys) h d x m n = by_place (order_depends dependents_of ys h.2 d x) (or_cases (y == d) (is_among ys d) m)
  where
    by_place : (is_among ys d ≡ true → is_among (dependents_of d) x ≡ true → is_among ys x ≡ true) → ((y == d) ≡ true) ⊎ (is_among ys d ≡ true) → is_among (y ∷ ys) x ≡ true
    by_place rest (inl e) = among_rest y ys x (within_of ys (dependents_of y) h.1 x (subst (λ (z : ℕ). is_among (dependents_of z) x ≡ true) (sym (eqb-true y d e)) n))
    by_place rest (inr e) = among_rest y ys x (rest e n)

-- ---- every chain is at most so long

-- a device's level, and what is known of it
record Leveled (l : Linked) (levels : List ℕ) (n d : ℕ) : Type 0 where
  least : 1 ≤ level_at levels d
  most : level_at levels d ≤ n
  greater : (e : ℕ) → is_among (above_of l d) e ≡ true → level_at levels e < level_at levels d

leveled_at : (l : Linked) (levels : List ℕ) (n d : ℕ) → is_level l levels n d ≡ true → Leveled l levels n d
leveled_at l levels n d h =
    let parts = and_parts (leb 1 (level_at levels d) && leb (level_at levels d) n) (list_all (λ e. ltb (level_at levels e) (level_at levels d)) (above_of l d)) h in
    let ends = and_parts (leb 1 (level_at levels d)) (leb (level_at levels d) n) parts.0 in
    record {
      least = leb-true 1 (level_at levels d) ends.0;
      most = leb-true (level_at levels d) n ends.1;
      greater = λ e m. ltb-true (level_at levels e) (level_at levels d) (all_at (λ e. ltb (level_at levels e) (level_at levels d)) (above_of l d) parts.1 e m);
    }

pub none_longer : (l : Linked) (levels : List ℕ) (n : ℕ) → IsWholeOrder l → are_levels l levels n ≡ true → (other : List ℕ) → is_chain l other ≡ true → length other ≤ n
none_longer l levels n o h [] c = omega arith
none_longer l levels n o h (d ∷ ds) c =
    let parts = and_parts (ltb d (length l.parents)) (follow l (Some d) ds) c in
    let w = ltb-true d (length l.parents) parts.0 in
    let f = behind d ds w parts.1 in
    let k = (level_of d w).least in
    omega (arith, f, k)
  where
    level_of : (d : ℕ) → d < length l.parents → Leveled l levels n d
    level_of d w = leveled_at l levels n d (all_at (is_level l levels n) (order_of l) (and_parts (length levels == length l.parents) (list_all (is_level l levels n) (order_of l)) h).1 d (o.covers d w))

    behind : (d : ℕ) (ds : List ℕ) → d < length l.parents → follow l (Some d) ds ≡ true → level_at levels d + length ds ≤ n
    behind d [] w f = let m = (level_of d w).most in omega (arith, m)
    behind d (e ∷ ds) w f =
        let parts = and_parts (is_among (below_of l d) e) (follow l (Some e) ds) f in
        let we = o.within e (order_depends (dependents l.parents l.links) (order_of l) o.ranked d e (o.covers d w) (below_depends l d e parts.0)) in
        let g = (level_of e we).greater d (below_across l d e we parts.0) in
        let r = behind e ds we parts.1 in
        omega (arith, g, r)

-- ---- the longest chain

eqb_same : (m n : ℕ) → m ≡ n → eqb m n ≡ true
eqb_same m n s = by_test (eqb m n) refl
  where
    by_test : (b : Bool) → eqb m n ≡ b → b ≡ true
    by_test true e = refl
    by_test false e = absurd (eqb-false m n e s)

-- levels that are 1 more than the greatest above are certified up to the greatest of all
pub certified_levels : (l : Linked) (levels : List ℕ) → AreLevels l levels → IsWholeOrder l → are_levels l levels (greatest levels 0 (order_of l)) ≡ true
certified_levels l levels a o =
    and_from (length levels == length l.parents) (list_all (is_level l levels top) (order_of l)) (eqb_same (length levels) (length l.parents) a.count)
    (all_from (is_level l levels top) (order_of l) each)
  where
    top : ℕ
    top = greatest levels 0 (order_of l)

    each : (d : ℕ) → is_among (order_of l) d ≡ true → is_level l levels top d ≡ true
    each d m =
        let s : level_at levels d ≡ suc (greatest levels 0 (above_of l d)) = a.each d (o.within d m) in
        and_from (leb 1 (level_at levels d) && leb (level_at levels d) top) (list_all (λ e. ltb (level_at levels e) (level_at levels d)) (above_of l d))
        (and_from (leb 1 (level_at levels d)) (leb (level_at levels d) top) (le-leb 1 (level_at levels d) (omega (arith, s))) (le-leb (level_at levels d) top (greatest_over levels 0 (order_of l) d m)))
        (all_from (λ e. ltb (level_at levels e) (level_at levels d)) (above_of l d) (λ e n. lt-ltb (level_at levels e) (level_at levels d) (let g = greatest_over levels 0 (above_of l d) e n in omega (arith, g, s))))

-- a chain as long as the greatest level is the longest
pub longest_of : (l : Linked) (levels devices : List ℕ) → AreLevels l levels → IsWholeOrder l → IsLedTo l levels (end_of l levels) devices → is_chain l devices ≡ true → length devices ≡ greatest levels 0 (order_of l) → IsLongest l (record { devices = devices; levels = levels })
longest_of l levels devices a o led c long = record {
  levels = a;
  led = led;
  certified = and_from (is_chain l devices) (are_levels l levels (length devices)) c sure;
  none_longer = none_longer l levels (length devices) o sure;
}
  where
    sure : are_levels l levels (length devices) ≡ true
    sure = ap (are_levels l levels) long ∙ certified_levels l levels a o

-- if no device has the greatest level there is none
pub no_device : (l : Linked) (levels : List ℕ) → first_at levels (greatest levels 0 (order_of l)) None (order_of l) ≡ None → 0 ≡ greatest levels 0 (order_of l)
no_device l levels n = by_test (cases_eq 0 top)
  where
    top : ℕ
    top = greatest levels 0 (order_of l)

    by_test : (0 ≡ top) ⊎ (0 ≡ top → ⊥) → 0 ≡ top
    by_test (inl e) = e
    by_test (inr ne) = absurd (greatest_missing levels top 0 ne (order_of l) (none_found levels top None (order_of l) n).1 refl)

pub whole_order : (l : Linked) (o : List ℕ) → o ≡ order_of l → length o ≡ length l.parents → IsOrder (dependents l.parents l.links) o
    → ((d : ℕ) → d < length l.parents → is_among o d ≡ true) → ((d : ℕ) → is_among o d ≡ true → d < length l.parents) → IsWholeOrder l
whole_order l o e c r covers within = record {
  count = ap length (sym e) ∙ c;
  ranked = subst (IsOrder (dependents l.parents l.links)) e r;
  covers = λ d w. ap (λ (xs : List ℕ). is_among xs d) (sym e) ∙ covers d w;
  within = λ d m. within d (ap (λ (xs : List ℕ). is_among xs d) e ∙ m);
}

-- what three clauses say of a result that is there
pub all_ok : {T E : Type 0} (A B C D : T → Type 0) → ((v : T) → A v → B v → C v → D v) → (r : Result T E) → IfOk r A → IfOk r B → IfOk r C → IfOk r D
all_ok A B C D f (Ok v) a b c = f v a b c
all_ok A B C D f (Err e) a b c = tt
