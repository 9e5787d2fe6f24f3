-- Levels that are set in the order of devices: each device above has its own before.
use Rattle.std.proofs.Common.{◌≡◌, ◌<◌, ◌≤◌, ◌+◌, ◌∙◌, ◌||◌, ◌==◌, ℕ, suc, max, Bool, true, false, ◌⊎◌, inl, inr, List, [], ◌∷◌, length, get_or, set, slice_get, Option, None, refl, sym, ap, subst, arith}
use Rattle.std.proofs.lemmas.Bool.{true≢false, eqb-true, eqb-false, or_cases, or_parts, cases_eq}
use Rattle.std.proofs.lemmas.List.{get_or-set_same, get_or-set_other, length-set}
use Rattle.sleep_model.specs.declared.machine.Link.{Link}
use Rattle.sleep_model.specs.Order.{is_among, active_of, children_from, consumers_of, suppliers_of, parent_of, dependents, superiors, is_parent}
use Rattle.sleep_model.specs.Links.{IsOrder}
use Rattle.sleep_model.proofs.Dependents.{among_app, among_first, among_rest, within_of}
use Rattle.sleep_model.proofs.FirstOccurrences.{among_first_occurrences, among_children, among_parent, consumers_linked, suppliers_linked}
use Rattle.sleep_model.proofs.Changing.{active_linked}
use Rattle.device_links.specs.Linked.{Linked}
use Rattle.device_chain.specs.Chains.{AreLevels, IsLevel, above_of, below_of, greatest, level_at}

-- ---- above and below

-- who is above e is who e is below of, if e is a device
across : (ps : List (Option ℕ)) (ls : List Link) (d e : ℕ) → e < length ps → is_among (superiors ps ls e) d ≡ is_among (dependents ps ls d) e
across ps ls d e l =
    among_app (parent_of (slice_get ps e)) (suppliers_of e ls) d
    ∙ (ap (λ b. b || is_among (suppliers_of e ls) d) (among_parent ps e d)
    ∙ (ap (λ b. is_parent d (get_or ps e None) || b) (suppliers_linked ls d e ∙ sym (consumers_linked ls d e))
    ∙ (ap (λ b. b || is_among (consumers_of d ls) e) (sym (among_children d 0 ps e l) ∙ ap (is_among (children_from d 0 ps)) here)
    ∙ sym (among_app (children_from d 0 ps) (consumers_of d ls) e))))
  where
    here : 0 + e ≡ e
    here = omega arith

pub below_across : (l : Linked) (d e : ℕ) → e < length l.parents → is_among (below_of l d) e ≡ true → is_among (above_of l e) d ≡ true
below_across l d e le m =
    among_first_occurrences (superiors l.parents (active_of l.links) e) d
    ∙ (across l.parents (active_of l.links) d e le
    ∙ (sym (among_first_occurrences (dependents l.parents (active_of l.links) d) e) ∙ m))

pub above_below : (l : Linked) (d e : ℕ) → e < length l.parents → is_among (above_of l e) d ≡ true → is_among (below_of l d) e ≡ true
above_below l d e le m =
    among_first_occurrences (dependents l.parents (active_of l.links) d) e
    ∙ (sym (across l.parents (active_of l.links) d e le)
    ∙ (sym (among_first_occurrences (superiors l.parents (active_of l.links) e) d) ∙ m))

-- who depends by the active links depends by all
active_depends : (ps : List (Option ℕ)) (ls : List Link) (d e : ℕ) → is_among (dependents ps (active_of ls) d) e ≡ true → is_among (dependents ps ls d) e ≡ true
active_depends ps ls d e m =
    among_app (children_from d 0 ps) (consumers_of d ls) e
    ∙ by_part (or_cases (is_among (children_from d 0 ps) e) (is_among (consumers_of d (active_of ls)) e) (sym (among_app (children_from d 0 ps) (consumers_of d (active_of ls)) e) ∙ m))
  where
    or_second : (a b : Bool) → b ≡ true → (a || b) ≡ true
    or_second true b h = refl
    or_second false b h = h

    by_part : (is_among (children_from d 0 ps) e ≡ true) ⊎ (is_among (consumers_of d (active_of ls)) e ≡ true) → (is_among (children_from d 0 ps) e || is_among (consumers_of d ls) e) ≡ true
    by_part (inl h) = ap (λ b. b || is_among (consumers_of d ls) e) h
    by_part (inr h) = or_second (is_among (children_from d 0 ps) e) (is_among (consumers_of d ls) e)
        (consumers_linked ls d e ∙ active_linked ls d e (sym (consumers_linked (active_of ls) d e) ∙ h))

pub below_depends : (l : Linked) (d e : ℕ) → is_among (below_of l d) e ≡ true → is_among (dependents l.parents l.links d) e ≡ true
below_depends l d e m = active_depends l.parents l.links d e (sym (among_first_occurrences (dependents l.parents (active_of l.links) d) e) ∙ m)

above_depends : (l : Linked) (d e : ℕ) → e < length l.parents → is_among (above_of l e) d ≡ true → is_among (dependents l.parents l.links d) e ≡ true
above_depends l d e le m =
    active_depends l.parents l.links d e
    (sym (across l.parents (active_of l.links) d e le) ∙ (sym (among_first_occurrences (superiors l.parents (active_of l.links) e) d) ∙ m))

-- ---- levels

-- the greatest of devices that keep their levels
pub greatest_preserved : (levels : List ℕ) (d v : ℕ) (most : ℕ) (ds : List ℕ) → is_among ds d ≡ false → greatest (set levels d v) most ds ≡ greatest levels most ds
greatest_preserved levels d v most [] n = refl
greatest_preserved levels d v most (e ∷ ds) n =
    let parts = or_parts (e == d) (is_among ds d) n in
    let same : level_at (set levels d v) e ≡ level_at levels e = get_or-set_other levels d e v 0 (eqb-false e d parts.0) in
    ap (λ k. greatest (set levels d v) (max most k) ds) same ∙ greatest_preserved levels d v (max most (level_at levels e)) ds parts.1

-- the greatest of levels that leave room for k more up to n
pub greatest_few : (levels : List ℕ) (k n : ℕ) → ((x : ℕ) → level_at levels x + k ≤ n) → (most : ℕ) → most + k ≤ n → (ds : List ℕ) → greatest levels most ds + k ≤ n
greatest_few levels k n h most l [] = l
greatest_few levels k n h most l (d ∷ ds) = greatest_few levels k n h (max most (level_at levels d)) more ds
  where
    more : max most (level_at levels d) + k ≤ n
    more = let x = h d in omega (arith, x, l)

-- all devices but those that are left have their levels, and these leave room for as many more as are left
pub record AreLeveled (l : Linked) (levels left : List ℕ) : Type 0 where
  pub ordered : IsOrder (dependents l.parents l.links) left
  pub count : length levels ≡ length l.parents
  pub within : (d : ℕ) → is_among left d ≡ true → d < length l.parents
  pub few : (d : ℕ) → level_at levels d + length left ≤ length l.parents
  pub each : (d : ℕ) → d < length l.parents → is_among left d ≡ false → IsLevel l levels d

-- one that has its level is not below one that has none
settled : (l : Linked) (d : ℕ) (ds : List ℕ) → IsOrder (dependents l.parents l.links) (d ∷ ds) → (x : ℕ) → x < length l.parents → is_among ds x ≡ false → is_among (above_of l x) d ≡ false
settled l d ds o x lx n = by_test (is_among (above_of l x) d) refl
  where
    by_test : (b : Bool) → is_among (above_of l x) d ≡ b → b ≡ false
    by_test false e = refl
    by_test true e = absurd (true≢false (sym (within_of ds (dependents l.parents l.links d) o.1 x (above_depends l d x lx e)) ∙ n))

-- the first of those that are left is given its level
pub leveled_next : (l : Linked) (levels : List ℕ) (d : ℕ) (ds : List ℕ) → AreLeveled l levels (d ∷ ds) → AreLeveled l (set levels d (greatest levels 0 (above_of l d) + 1)) ds
leveled_next l levels d ds h = record {
  ordered = h.ordered.2;
  count = length-set levels d v ∙ h.count;
  within = λ x m. h.within x (among_rest d ds x m);
  few = λ x. by_place x (cases_eq x d);
  each = λ x lx n. each_now x lx n (cases_eq x d);
}
  where
    v : ℕ
    v = greatest levels 0 (above_of l d) + 1

    here : d < length l.parents
    here = h.within d (first d ds)
      where
        first : (x : ℕ) (xs : List ℕ) → is_among (x ∷ xs) x ≡ true
        first x xs = among_first x xs

    top : v + length ds ≤ length l.parents
    top =
        let g = greatest_few levels (length ds + 1) (length l.parents) (λ x. let f = h.few x in omega (arith, f)) 0 (let f = h.few 0 in omega (arith, f)) (above_of l d) in
        omega (arith, g)

    by_place : (x : ℕ) → (x ≡ d) ⊎ (x ≡ d → ⊥) → level_at (set levels d v) x + length ds ≤ length l.parents
    by_place x (inl e) =
        let s = get_or-set_same levels d v 0 (subst (λ (n : ℕ). d < n) (sym h.count) here) in
        subst (λ (y : ℕ). level_at (set levels d v) y + length ds ≤ length l.parents) (sym e) (subst (λ (k : ℕ). k + length ds ≤ length l.parents) (sym s) top)
    by_place x (inr ne) =
        let s = get_or-set_other levels d x v 0 ne in
        let f = h.few x in
        subst (λ (k : ℕ). k + length ds ≤ length l.parents) (sym s) (omega (arith, f))

    each_now : (x : ℕ) → x < length l.parents → is_among ds x ≡ false → (x ≡ d) ⊎ (x ≡ d → ⊥) → IsLevel l (set levels d v) x
    each_now x lx n (inl e) =
        let s = get_or-set_same levels d v 0 (subst (λ (k : ℕ). d < k) (sym h.count) here) in
        let kept = greatest_preserved levels d v 0 (above_of l d) (settled l d ds h.ordered d here (subst (λ (y : ℕ). is_among ds y ≡ false) e n)) in
        subst (λ (y : ℕ). IsLevel l (set levels d v) y) (sym e) (s ∙ (plus (greatest levels 0 (above_of l d)) ∙ ap suc (sym kept)))
      where
        plus : (k : ℕ) → k + 1 ≡ suc k
        plus k = omega arith
    each_now x lx n (inr ne) =
        let s = get_or-set_other levels d x v 0 ne in
        let before = h.each x lx (ap (λ b. b || is_among ds x) (other x ne) ∙ n) in
        let kept = greatest_preserved levels d v 0 (above_of l x) (settled l d ds h.ordered x lx n) in
        s ∙ (before ∙ ap suc (sym kept))
      where
        other : (x : ℕ) → (x ≡ d → ⊥) → (d == x) ≡ false
        other x ne = by_test (d == x) refl
          where
            by_test : (b : Bool) → (d == x) ≡ b → b ≡ false
            by_test false e = refl
            by_test true e = absurd (ne (sym (eqb-true d x e)))

pub leveled_all : (l : Linked) (levels : List ℕ) → AreLeveled l levels [] → AreLevels l levels
leveled_all l levels h = record { count = h.count; each = λ d ld. h.each d ld refl }
