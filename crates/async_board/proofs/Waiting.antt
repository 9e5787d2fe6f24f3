-- How many of each row pass, after one device has moved.
use Rattle.std.proofs.Common.{◌≡◌, ◌<◌, ◌≤◌, ◌+◌, ◌∙◌, ℕ, Bool, true, false, not, ◌==◌, ◌||◌, ◌&&◌, ◌⊎◌, inl, inr, List, [], ◌∷◌, length, filter, get_or, slice_get, cond, Option, None, refl, sym, ap, subst, arith}
use Rattle.std.proofs.lemmas.Bool.{false≢true, true≢false, eqb-true, eqb-false, or_cases}
use Rattle.sleep_model.specs.declared.machine.Link.{Link}
use Rattle.sleep_model.specs.Order.{is_among, children_from, consumers_of, suppliers_of, parent_of, dependents, superiors, is_parent}
use Rattle.sleep_model.specs.Links.{first_occurrences, IsOrder}
use Rattle.sleep_model.proofs.Walks.{AllDifferent, same_eq}
use Rattle.sleep_model.proofs.Dependents.{among_app, among_first, among_rest, within_of}
use Rattle.sleep_model.proofs.Ordering.{different_filter, preserved_passes}
use Rattle.sleep_model.proofs.Acyclic.{few, among_filter}
use Rattle.sleep_model.proofs.FirstOccurrences.{among_first_occurrences, among_children, among_parent, consumers_linked, suppliers_linked}
use Rattle.async_board.specs.Counts.{one, AreShifted, IsCount}

-- ---- rows of devices, each once

-- first indices are different
pub first_different : (xs : List ℕ) → AllDifferent (first_occurrences xs)
first_different [] = tt
first_different (x ∷ xs) = (
  preserved_passes (λ y. not (y == x)) (first_occurrences xs) x (ap not (same_eq x)),
  different_filter (λ y. not (y == x)) (first_occurrences xs) (first_different xs),
)

-- who is above e is who e is below of, if e is a device
pub across : (ps : List (Option ℕ)) (ls : List Link) (d e : ℕ) → e < length ps → is_among (superiors ps ls e) d ≡ is_among (dependents ps ls d) e
across ps ls d e l =
    among_app (parent_of (slice_get ps e)) (suppliers_of e ls) d
    ∙ (ap (λ b. b || is_among (suppliers_of e ls) d) (among_parent ps e d)
    ∙ (ap (λ b. is_parent d (get_or ps e None) || b) (suppliers_linked ls d e ∙ sym (consumers_linked ls d e))
    ∙ (ap (λ b. b || is_among (consumers_of d ls) e) (sym (among_children d 0 ps e l) ∙ ap (is_among (children_from d 0 ps)) here)
    ∙ sym (among_app (children_from d 0 ps) (consumers_of d ls) e))))
  where
    here : 0 + e ≡ e
    here = omega arith

pub above_across : (ps : List (Option ℕ)) (ls : List Link) (d e : ℕ) → e < length ps → is_among (first_occurrences (superiors ps ls e)) d ≡ is_among (first_occurrences (dependents ps ls d)) e
above_across ps ls d e l = among_first_occurrences (superiors ps ls e) d ∙ (across ps ls d e l ∙ sym (among_first_occurrences (dependents ps ls d) e))

pub below_across : (ps : List (Option ℕ)) (ls : List Link) (d e : ℕ) → d < length ps → is_among (first_occurrences (dependents ps ls e)) d ≡ is_among (first_occurrences (superiors ps ls d)) e
below_across ps ls d e l = among_first_occurrences (dependents ps ls e) d ∙ (sym (across ps ls e d l) ∙ sym (among_first_occurrences (superiors ps ls d) e))

-- who depends on a device of the order is in the order
pub order_depends : (dependents_of : ℕ → List ℕ) (xs : List ℕ) → IsOrder dependents_of xs → (d x : ℕ) → is_among xs d ≡ true → is_among (dependents_of d) x ≡ true → is_among xs x ≡ true
order_depends dependents_of [] h d x m n = absurd (false≢true m)
order_depends dependents_of (y ∷ ys) h d x m n = by_place (order_depends dependents_of ys h.2 d x) (or_cases (y == d) (is_among ys d) m)
  where
    by_place : (is_among ys d ≡ true → is_among (dependents_of d) x ≡ true → is_among ys x ≡ true) → ((y == d) ≡ true) ⊎ (is_among ys d ≡ true) → is_among (y ∷ ys) x ≡ true
    by_place rest (inl e) = among_rest y ys x (within_of ys (dependents_of y) h.1 x (subst (λ (z : ℕ). is_among (dependents_of z) x ≡ true) (sym (eqb-true y d e)) n))
    by_place rest (inr e) = among_rest y ys x (rest e n)

-- ---- how many pass

filter_len : (p : ℕ → Bool) (x : ℕ) (xs : List ℕ) → length (filter p (x ∷ xs)) ≡ one (p x) + length (filter p xs)
filter_len p x xs = by_test (p x)
  where
    by_test : (b : Bool) → length (cond b (x ∷ filter p xs) (filter p xs)) ≡ cond b 1 0 + length (filter p xs)
    by_test true = omega arith
    by_test false = omega arith

-- the same ones pass
filter_same : (p q : ℕ → Bool) (xs : List ℕ) → ((x : ℕ) → is_among xs x ≡ true → q x ≡ p x) → length (filter q xs) ≡ length (filter p xs)
filter_same p q [] h = refl
filter_same p q (x ∷ xs) h =
    filter_len q x xs
    ∙ (ap (λ b. one b + length (filter q xs)) (h x (among_first x xs))
    ∙ (ap (λ n. one (p x) + n) (filter_same p q xs (λ y m. h y (among_rest x xs y m))) ∙ sym (filter_len p x xs)))

and_yes : (a : Bool) → (a && true) ≡ a
and_yes true = refl
and_yes false = refl

and_no : (a : Bool) → (a && false) ≡ false
and_no true = refl
and_no false = refl

-- one device passes otherwise
pub moved_one : (p q : ℕ → Bool) (xs : List ℕ) (e : ℕ) → AllDifferent xs → ((x : ℕ) → (x ≡ e → ⊥) → q x ≡ p x)
    → length (filter q xs) + one (p e && is_among xs e) ≡ length (filter p xs) + one (q e && is_among xs e)
moved_one p q [] e apart h = ap (λ b. 0 + one b) (and_no (p e) ∙ sym (and_no (q e)))
moved_one p q (x ∷ xs) e apart h = by_test (moved_one p q xs e apart.1 h) (x == e) refl
  where
    by_test : length (filter q xs) + one (p e && is_among xs e) ≡ length (filter p xs) + one (q e && is_among xs e) → (b : Bool) → (x == e) ≡ b
        → length (filter q (x ∷ xs)) + one (p e && (b || is_among xs e)) ≡ length (filter p (x ∷ xs)) + one (q e && (b || is_among xs e))
    by_test rest true f =
        let same : x ≡ e = eqb-true x e f in
        let gone : is_among xs e ≡ false = ap (is_among xs) (sym same) ∙ apart.0 in
        let tail : length (filter q xs) ≡ length (filter p xs) = filter_same p q xs (λ y m. h y (λ g. false≢true (sym gone ∙ (ap (is_among xs) (sym g) ∙ m)))) in
        let with_q : length (filter q (x ∷ xs)) ≡ one (q e) + length (filter q xs) = filter_len q x xs ∙ ap (λ y. one (q y) + length (filter q xs)) same in
        let with_p : length (filter p (x ∷ xs)) ≡ one (p e) + length (filter p xs) = filter_len p x xs ∙ ap (λ y. one (p y) + length (filter p xs)) same in
        let one_p : one (p e && true) ≡ one (p e) = ap one (and_yes (p e)) in
        let one_q : one (q e && true) ≡ one (q e) = ap one (and_yes (q e)) in
        omega (arith, tail, with_q, with_p, one_p, one_q)
    by_test rest false f =
        let same : one (q x) ≡ one (p x) = ap one (h x (eqb-false x e f)) in
        omega (arith, rest, filter_len q x xs, filter_len p x xs, same)

-- a device that passes is one at least
pub some_pass : (p : ℕ → Bool) (xs : List ℕ) (e : ℕ) → is_among xs e ≡ true → p e ≡ true → 0 < length (filter p xs)
some_pass p [] e m t = absurd (false≢true m)
some_pass p (x ∷ xs) e m t = by_place (some_pass p xs e) (or_cases (x == e) (is_among xs e) m)
  where
    by_place : (is_among xs e ≡ true → p e ≡ true → 0 < length (filter p xs)) → ((x == e) ≡ true) ⊎ (is_among xs e ≡ true) → 0 < length (filter p (x ∷ xs))
    by_place rest (inl f) =
        let here : one (p x) ≡ 1 = ap one (ap p (eqb-true x e f) ∙ t) in
        omega (arith, filter_len p x xs, here)
    by_place rest (inr f) = omega (arith, rest f t, filter_len p x xs)

-- what a filter keeps passes
passes_of : (p : ℕ → Bool) (xs : List ℕ) (d : ℕ) → is_among (filter p xs) d ≡ true → p d ≡ true
passes_of p xs d m = by_test (p d) refl
  where
    by_test : (b : Bool) → p d ≡ b → b ≡ true
    by_test true e = refl
    by_test false e = absurd (true≢false (sym m ∙ preserved_passes p xs d e))

-- fewer than n pass before one of numbers below n passes too
pub few_pass : (n : ℕ) (p q : ℕ → Bool) (xs : List ℕ) (e : ℕ) → AllDifferent xs → ((x : ℕ) → (x ≡ e → ⊥) → q x ≡ p x)
    → ((x : ℕ) → is_among xs x ≡ true → q x ≡ true → x < n) → is_among xs e ≡ true → p e ≡ false → q e ≡ true → length (filter p xs) < n
few_pass n p q xs e apart h within m was is =
    let all : length (filter q xs) ≤ n = few n (filter q xs) (different_filter q xs apart) (λ d k. within d (among_filter q xs d k) (passes_of q xs d k)) in
    let out : one (p e && is_among xs e) ≡ 0 = ap (λ b. one (b && is_among xs e)) was in
    let in_it : one (q e && is_among xs e) ≡ 1 = ap (λ b. one (b && is_among xs e)) is ∙ ap one m in
    omega (arith, all, out, in_it, moved_one p q xs e apart h)

-- the counts after device e has moved; back has those that count e
module _ (n : ℕ) (p q : ℕ → Bool) (row : ℕ → List ℕ) (back : List ℕ) (e : ℕ) (old : List ℕ)
    (counts : IsCount n p row old) (apart : (d : ℕ) → AllDifferent (row d)) (over : (d : ℕ) → d < n → is_among back d ≡ is_among (row d) e)
    (others : (x : ℕ) → (x ≡ e → ⊥) → q x ≡ p x) where
  pub count_moved : (new : List ℕ) → AreShifted back (p e) (q e) old new → IsCount n q row new
  count_moved new s = record {
    size = s.size ∙ counts.size;
    each = λ d l.
        let now : get_or new d 0 + one (p e && is_among back d) ≡ get_or old d 0 + one (q e && is_among back d) = s.each d (omega (arith, counts.size)) in
        let was : get_or old d 0 ≡ length (filter p (row d)) = counts.each d l in
        let one_p : one (p e && is_among back d) ≡ one (p e && is_among (row d) e) = ap (λ b. one (p e && b)) (over d l) in
        let one_q : one (q e && is_among back d) ≡ one (q e && is_among (row d) e) = ap (λ b. one (q e && b)) (over d l) in
        omega (arith, now, was, one_p, one_q, moved_one p q (row d) e (apart d) others);
  }

  pub count_some : p e ≡ true → (d : ℕ) → d < length old → is_among back d ≡ true → 0 < get_or old d 0
  count_some was d l m =
      let within : d < n = omega (arith, counts.size) in
      omega (arith, counts.each d within, some_pass p (row d) e (sym (over d within) ∙ m) was)

  pub count_few : ((d x : ℕ) → d < n → is_among (row d) x ≡ true → q x ≡ true → x < n) → p e ≡ false → q e ≡ true
      → (d : ℕ) → d < length old → is_among back d ≡ true → get_or old d 0 < length old
  count_few within was is d l m =
      let k : d < n = omega (arith, counts.size) in
      omega (arith, counts.size, counts.each d k, few_pass n p q (row d) e (apart d) others (λ x i t. within d x k i t) (sym (over d k) ∙ m) was is)
