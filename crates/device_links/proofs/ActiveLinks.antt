-- What is seen below and above a device by the links that are active.
use Rattle.std.proofs.Common.{◌≡◌, ◌<◌, ◌≤◌, ◌∙◌, ℕ, Bool, true, false, not, ◌==◌, ◌||◌, List, [], ◌∷◌, ◌++◌, length, take, drop, reverse, filter, get_or, slice_get, Option, None, refl, sym, ap, subst, cond, arith, length-append}
use Rattle.std.proofs.lemmas.List.{append-nil, take-append-drop, reverse-append}
use Rattle.std.proofs.lemmas.Bool.{true≢false}
use Rattle.sleep_model.specs.declared.machine.Link.{Link}
use Rattle.sleep_model.specs.Links.{first_occurrences, is_linked}
use Rattle.sleep_model.specs.Order.{active_of, children_from, consumers_of, suppliers_of, is_parent, parent_of, dependents, superiors}
use Rattle.sleep_model.proofs.Changing.{active_linked}
use Rattle.sleep_model.proofs.FirstOccurrences.{first_occurrences_push, first_children, first_parent, dependents_new, holding_new, holding_other, depends_already, holds_already}
use Rattle.device_links.specs.Invariant.{active_below, active_above}

-- ---- one more link

-- a link that is not there is not among the active ones
not_active : (ls : List Link) (s c : ℕ) → is_linked ls s c ≡ false → is_linked (active_of ls) s c ≡ false
not_active ls s c e = by_test (is_linked (active_of ls) s c) refl
  where
    by_test : (b : Bool) → is_linked (active_of ls) s c ≡ b → b ≡ false
    by_test false f = refl
    by_test true f = absurd (true≢false (sym (active_linked ls s c f) ∙ e))

dependents_other : (ps : List (Option ℕ)) (l : Link) (ls : List Link) (d : ℕ) → (l.supplier == d) ≡ false → dependents ps (l ∷ ls) d ≡ dependents ps ls d
dependents_other ps l ls d e = ap (λ xs. children_from d 0 ps ++ xs) (ap (λ b. consumers_of d ls ++ cond b (l.consumer ∷ []) []) e ∙ append-nil (consumers_of d ls))

module _ (ps : List (Option ℕ)) (l : Link) (ls : List Link) where
  pub below_here : l.consumer < length ps → is_linked ls l.supplier l.consumer ≡ false
      → active_below ps (l ∷ ls) l.supplier ≡ cond (not l.active || is_parent l.supplier (get_or ps l.consumer None)) (active_below ps ls l.supplier) (active_below ps ls l.supplier ++ l.consumer ∷ [])
  below_here within new = by_state l.active
    where
      by_state : (b : Bool) → first_occurrences (dependents ps (cond b (l ∷ active_of ls) (active_of ls)) l.supplier) ≡ cond (not b || is_parent l.supplier (get_or ps l.consumer None)) (active_below ps ls l.supplier) (active_below ps ls l.supplier ++ l.consumer ∷ [])
      by_state false = refl
      by_state true =
          ap first_occurrences (dependents_new ps l (active_of ls))
          ∙ (first_occurrences_push (dependents ps (active_of ls) l.supplier) l.consumer
          ∙ ap (λ b. cond b (active_below ps ls l.supplier) (active_below ps ls l.supplier ++ l.consumer ∷ [])) (depends_already ps (active_of ls) l.supplier l.consumer within (not_active ls l.supplier l.consumer new)))

  pub below_other : (d : ℕ) → (l.supplier == d) ≡ false → active_below ps (l ∷ ls) d ≡ active_below ps ls d
  below_other d e = by_state l.active
    where
      by_state : (b : Bool) → first_occurrences (dependents ps (cond b (l ∷ active_of ls) (active_of ls)) d) ≡ active_below ps ls d
      by_state false = refl
      by_state true = ap first_occurrences (dependents_other ps l (active_of ls) d e)

  pub above_here : is_linked ls l.supplier l.consumer ≡ false
      → active_above ps (l ∷ ls) l.consumer ≡ cond (not l.active || is_parent l.supplier (get_or ps l.consumer None)) (active_above ps ls l.consumer) (active_above ps ls l.consumer ++ l.supplier ∷ [])
  above_here new = by_state l.active
    where
      by_state : (b : Bool) → first_occurrences (superiors ps (cond b (l ∷ active_of ls) (active_of ls)) l.consumer) ≡ cond (not b || is_parent l.supplier (get_or ps l.consumer None)) (active_above ps ls l.consumer) (active_above ps ls l.consumer ++ l.supplier ∷ [])
      by_state false = refl
      by_state true =
          ap first_occurrences (holding_new ps l (active_of ls))
          ∙ (first_occurrences_push (superiors ps (active_of ls) l.consumer) l.supplier
          ∙ ap (λ b. cond b (active_above ps ls l.consumer) (active_above ps ls l.consumer ++ l.supplier ∷ [])) (holds_already ps (active_of ls) l.supplier l.consumer (not_active ls l.supplier l.consumer new)))

  pub above_other : (d : ℕ) → (l.consumer == d) ≡ false → active_above ps (l ∷ ls) d ≡ active_above ps ls d
  above_other d e = by_state l.active
    where
      by_state : (b : Bool) → first_occurrences (superiors ps (cond b (l ∷ active_of ls) (active_of ls)) d) ≡ active_above ps ls d
      by_state false = refl
      by_state true = ap first_occurrences (holding_other ps l (active_of ls) d e)

-- without links
pub below_none : (ps : List (Option ℕ)) (d : ℕ) → active_below ps [] d ≡ children_from d 0 ps
below_none ps d = ap first_occurrences (append-nil (children_from d 0 ps)) ∙ first_children d 0 ps

pub above_none : (ps : List (Option ℕ)) (d : ℕ) → active_above ps [] d ≡ parent_of (slice_get ps d)
above_none ps d = ap first_occurrences (append-nil (parent_of (slice_get ps d))) ∙ first_parent ps d

-- ---- how many

filter_few : (p : ℕ → Bool) (xs : List ℕ) → length (filter p xs) ≤ length xs
filter_few p [] = omega arith
filter_few p (x ∷ xs) = by_test (p x) (filter_few p xs)
  where
    by_test : (b : Bool) → length (filter p xs) ≤ length xs → length (cond b (x ∷ filter p xs) (filter p xs)) ≤ length (x ∷ xs)
    by_test true r = omega arith
    by_test false r = omega arith

first_few : (xs : List ℕ) → length (first_occurrences xs) ≤ length xs
first_few [] = omega arith
first_few (x ∷ xs) = omega (arith, first_few xs, filter_few (λ y. not (y == x)) (first_occurrences xs))

-- those of active links are no more than those of all
consumers_few : (d : ℕ) (ls : List Link) → length (consumers_of d (active_of ls)) ≤ length (consumers_of d ls)
consumers_few d [] = omega arith
consumers_few d (l ∷ ls) = by_state l.active (consumers_few d ls)
  where
    one : List ℕ
    one = cond (l.supplier == d) (l.consumer ∷ []) []

    by_state : (b : Bool) → length (consumers_of d (active_of ls)) ≤ length (consumers_of d ls) → length (consumers_of d (cond b (l ∷ active_of ls) (active_of ls))) ≤ length (consumers_of d ls ++ cond (l.supplier == d) (l.consumer ∷ []) [])
    by_state false r = omega (arith, length-append (consumers_of d ls) one)
    by_state true r = omega (arith, length-append (consumers_of d ls) one, length-append (consumers_of d (active_of ls)) one)

suppliers_few : (d : ℕ) (ls : List Link) → length (suppliers_of d (active_of ls)) ≤ length (suppliers_of d ls)
suppliers_few d [] = omega arith
suppliers_few d (l ∷ ls) = by_state l.active (suppliers_few d ls)
  where
    one : List ℕ
    one = cond (l.consumer == d) (l.supplier ∷ []) []

    by_state : (b : Bool) → length (suppliers_of d (active_of ls)) ≤ length (suppliers_of d ls) → length (suppliers_of d (cond b (l ∷ active_of ls) (active_of ls))) ≤ length (suppliers_of d ls ++ cond (l.consumer == d) (l.supplier ∷ []) [])
    by_state false r = omega (arith, length-append (suppliers_of d ls) one)
    by_state true r = omega (arith, length-append (suppliers_of d ls) one, length-append (suppliers_of d (active_of ls)) one)

pub below_few : (ps : List (Option ℕ)) (ls : List Link) (d : ℕ) → length (active_below ps ls d) ≤ length (dependents ps ls d)
below_few ps ls d =
    omega (arith, first_few (dependents ps (active_of ls) d), length-append (children_from d 0 ps) (consumers_of d (active_of ls)), length-append (children_from d 0 ps) (consumers_of d ls), consumers_few d ls)

pub above_few : (ps : List (Option ℕ)) (ls : List Link) (d : ℕ) → length (active_above ps ls d) ≤ length (superiors ps ls d)
above_few ps ls d =
    omega (arith, first_few (superiors ps (active_of ls) d), length-append (parent_of (slice_get ps d)) (suppliers_of d (active_of ls)), length-append (parent_of (slice_get ps d)) (suppliers_of d ls), suppliers_few d ls)

-- later links only add
dependents_more : (ps : List (Option ℕ)) (later ls : List Link) (d : ℕ) → length (dependents ps ls d) ≤ length (dependents ps (later ++ ls) d)
dependents_more ps [] ls d = omega arith
dependents_more ps (l ∷ later) ls d =
    omega (arith, dependents_more ps later ls d, length-append (children_from d 0 ps) (consumers_of d (later ++ ls)), length-append (children_from d 0 ps) (consumers_of d (l ∷ later ++ ls)), length-append (consumers_of d (later ++ ls)) (cond (l.supplier == d) (l.consumer ∷ []) []))

holding_more : (ps : List (Option ℕ)) (later ls : List Link) (d : ℕ) → length (superiors ps ls d) ≤ length (superiors ps (later ++ ls) d)
holding_more ps [] ls d = omega arith
holding_more ps (l ∷ later) ls d =
    omega (arith, holding_more ps later ls d, length-append (parent_of (slice_get ps d)) (suppliers_of d (later ++ ls)), length-append (parent_of (slice_get ps d)) (suppliers_of d (l ∷ later ++ ls)), length-append (suppliers_of d (later ++ ls)) (cond (l.consumer == d) (l.supplier ∷ []) []))

-- the links up to number i are among all
pub parts : (links : List Link) (i : ℕ) → reverse (drop i links) ++ reverse (take i links) ≡ reverse links
parts links i = sym (reverse-append (take i links) (drop i links)) ∙ ap reverse (take-append-drop i links)

pub dependents_part : (ps : List (Option ℕ)) (links : List Link) (i d : ℕ) → length (dependents ps (reverse (take i links)) d) ≤ length (dependents ps (reverse links) d)
dependents_part ps links i d = subst (λ (ls : List Link). length (dependents ps (reverse (take i links)) d) ≤ length (dependents ps ls d)) (parts links i) (dependents_more ps (reverse (drop i links)) (reverse (take i links)) d)

pub holding_part : (ps : List (Option ℕ)) (links : List Link) (i d : ℕ) → length (superiors ps (reverse (take i links)) d) ≤ length (superiors ps (reverse links) d)
holding_part ps links i d = subst (λ (ls : List Link). length (superiors ps (reverse (take i links)) d) ≤ length (superiors ps ls d)) (parts links i) (holding_more ps (reverse (drop i links)) (reverse (take i links)) d)
