-- Links that close no cycle all at once close none in turn.
use Rattle.std.proofs.Common.{◌≡◌, ◌<◌, ◌≤◌, ◌∙◌, ℕ, Bool, true, false, not, ◌==◌, ◌||◌, List, [], ◌∷◌, ◌++◌, ◌⊎◌, inl, inr, length, filter, Option, refl, sym, ap, subst, cond, arith}
use Rattle.std.specs.List.{range_with_len}
use Rattle.std.proofs.lemmas.List.{append-nil}
use Rattle.std.proofs.lemmas.Bool.{true≢false, false≢true, eqb-true, or_cases, or_left, or_right, or_from, cases_lt}
use Rattle.std.proofs.lemmas.Bool.Decides.{nat_tests}
use Rattle.std.proofs.Math.Bool.{or-false}
use Rattle.sleep_model.specs.declared.machine.Link.{Link}
use Rattle.sleep_model.specs.Order.{is_among, children_from, consumers_of, dependents, EachAfterParent, moved}
use Rattle.sleep_model.specs.Links.{IsOrder, AreLinks, LeadsTo, IsPath}
use Rattle.sleep_model.proofs.Walks.{AllDifferent}
use Rattle.sleep_model.proofs.Ordering.{not_in_filter}
use Rattle.sleep_model.proofs.Children.{children_none, children_within}
use Rattle.sleep_model.proofs.Dependents.{among_app, among_first, among_flat, within_of, all_of, not_below_itself, leads_below}
use Rattle.sleep_model.proofs.Paths.{no_path_moved}
use Rattle.sleep_model.proofs.FirstOccurrences.{dependents_new}
use Rattle.sleep_model.proofs.Acyclic.{preserved_among, among_filter, few, descends, order_ranked, order_covers, order_within, links_descend}
use Rattle.device_links.specs.Passes.{AreApart, IsAcyclic}

-- an order has each device once
pub different_of : (dependents_of : ℕ → List ℕ) (xs : List ℕ) → IsOrder dependents_of xs → AllDifferent xs
different_of dependents_of [] h = tt
different_of dependents_of (x ∷ xs) h = (h.0, different_of dependents_of xs h.2)

leads_more : (dependents_of dependents_of' : ℕ → List ℕ) → ((d x : ℕ) → is_among (dependents_of d) x ≡ true → is_among (dependents_of' d) x ≡ true) → (d : ℕ) (xs : List ℕ) (e : ℕ) → LeadsTo dependents_of d xs e → LeadsTo dependents_of' d xs e
leads_more dependents_of dependents_of' i d [] e p = p
leads_more dependents_of dependents_of' i d (x ∷ xs) e p = (i d x p.0, leads_more dependents_of dependents_of' i x xs e p.1)

-- in front of a chosen list, its own
pub one_consumer : (b : Bool) (c x : ℕ) → is_among (cond b (c ∷ []) []) x ≡ true → c ≡ x
one_consumer false c x m = absurd (false≢true m)
one_consumer true c x m = eqb-true c x (sym (or-false (c == x)) ∙ m)

-- what was visited follows the others
behind : (dependents_of dependents_of' : ℕ → List ℕ) (out : List ℕ) → IsOrder dependents_of' out
    → ((d y : ℕ) → is_among out d ≡ false → is_among (dependents_of' d) y ≡ true → (is_among out y ≡ true) ⊎ (is_among (dependents_of d) y ≡ true))
    → (xs : List ℕ) → IsOrder dependents_of xs → IsOrder dependents_of' (filter (λ d. not (is_among out d)) xs ++ out)
behind dependents_of dependents_of' out o step [] h = o
behind dependents_of dependents_of' out o step (x ∷ xs) h = by_test (behind dependents_of dependents_of' out o step xs h.2) (is_among out x) refl
  where
    others : List ℕ
    others = filter (λ d. not (is_among out d)) xs

    stands : (y : ℕ) → (is_among out y ≡ true) ⊎ (is_among (dependents_of x) y ≡ true) → is_among (filter (λ d. not (is_among out d)) xs ++ out) y ≡ true
    stands y (inl m) = among_app (filter (λ d. not (is_among out d)) xs) out y ∙ or_right (is_among (filter (λ d. not (is_among out d)) xs) y) (is_among out y) m
    stands y (inr m) = among_app (filter (λ d. not (is_among out d)) xs) out y ∙ by_visited (is_among out y) refl
      where
        by_visited : (b : Bool) → is_among out y ≡ b → (is_among (filter (λ d. not (is_among out d)) xs) y || is_among out y) ≡ true
        by_visited true e = or_right (is_among (filter (λ d. not (is_among out d)) xs) y) (is_among out y) e
        by_visited false e = or_left (is_among (filter (λ d. not (is_among out d)) xs) y) (is_among out y) (preserved_among (λ d. not (is_among out d)) xs y (ap not e) (within_of xs (dependents_of x) h.1 y m))

    by_test : IsOrder dependents_of' (filter (λ d. not (is_among out d)) xs ++ out) → (b : Bool) → is_among out x ≡ b → IsOrder dependents_of' (cond (not b) (x ∷ filter (λ d. not (is_among out d)) xs) (filter (λ d. not (is_among out d)) xs) ++ out)
    by_test rest true e = rest
    by_test rest false e = (
      among_app (filter (λ d. not (is_among out d)) xs) out x ∙ or_from (is_among (filter (λ d. not (is_among out d)) xs) x) (is_among out x) (not_in_filter (λ d. not (is_among out d)) xs x h.0) e,
      all_of (filter (λ d. not (is_among out d)) xs ++ out) (dependents_of' x) (λ y m. stands y (step x y e m)),
      rest,
    )

module _ (ps : List (Option ℕ)) (after : EachAfterParent 0 ps) where
  consumers_in : (ls : List Link) → AreApart ps ls → (d x : ℕ) → is_among (consumers_of d ls) x ≡ true → x < length ps
  consumers_in [] h d x m = absurd (false≢true m)
  consumers_in (l ∷ ls) h d x m = by_place (consumers_in ls h.3 d x) (or_cases (is_among (consumers_of d ls) x) (is_among (cond (l.supplier == d) (l.consumer ∷ []) []) x) (sym (among_app (consumers_of d ls) (cond (l.supplier == d) (l.consumer ∷ []) []) x) ∙ m))
    where
      by_place : (is_among (consumers_of d ls) x ≡ true → x < length ps) → (is_among (consumers_of d ls) x ≡ true) ⊎ (is_among (cond (l.supplier == d) (l.consumer ∷ []) []) x ≡ true) → x < length ps
      by_place rest (inl n) = rest n
      by_place rest (inr n) = let same : l.consumer ≡ x = one_consumer (l.supplier == d) l.consumer x n in let c : l.consumer < length ps = h.1 in omega arith

  -- what depends directly on a device is registered
  pub apart_within : (ls : List Link) → AreApart ps ls → (d x : ℕ) → is_among (dependents ps ls d) x ≡ true → x < length ps
  apart_within ls h d x m = by_place (or_cases (is_among (children_from d 0 ps) x) (is_among (consumers_of d ls) x) (sym (among_app (children_from d 0 ps) (consumers_of d ls) x) ∙ m))
    where
      by_place : (is_among (children_from d 0 ps) x ≡ true) ⊎ (is_among (consumers_of d ls) x ≡ true) → x < length ps
      by_place (inl n) = let l = children_within d 0 ps x n in omega arith
      by_place (inr n) = consumers_in ls h d x n

  no_consumers : (ls : List Link) → AreApart ps ls → (d : ℕ) → length ps ≤ d → consumers_of d ls ≡ []
  no_consumers [] h d l = refl
  no_consumers (k ∷ ls) h d l =
      let s : k.supplier < length ps = h.0 in
      let other : (k.supplier == d) ≡ false = grind (arith, nat_tests) in
      ap (λ xs. xs ++ cond (k.supplier == d) (k.consumer ∷ []) []) (no_consumers ls h.3 d l) ∙ ap (λ b. cond b (k.consumer ∷ []) []) other

  nothing_below : (ls : List Link) → AreApart ps ls → (d : ℕ) → length ps ≤ d → dependents ps ls d ≡ []
  nothing_below ls h d l = ap (λ xs. xs ++ consumers_of d ls) (children_none d 0 ps after (omega arith)) ∙ no_consumers ls h d l

  below_more : (l : Link) (ls : List Link) (d x : ℕ) → is_among (dependents ps ls d) x ≡ true → is_among (dependents ps (l ∷ ls) d) x ≡ true
  below_more l ls d x m = among_app (children_from d 0 ps) (consumers_of d (l ∷ ls)) x ∙ by_place (or_cases (is_among (children_from d 0 ps) x) (is_among (consumers_of d ls) x) (sym (among_app (children_from d 0 ps) (consumers_of d ls) x) ∙ m))
    where
      by_place : (is_among (children_from d 0 ps) x ≡ true) ⊎ (is_among (consumers_of d ls) x ≡ true) → (is_among (children_from d 0 ps) x || is_among (consumers_of d (l ∷ ls)) x) ≡ true
      by_place (inl n) = or_left (is_among (children_from d 0 ps) x) (is_among (consumers_of d (l ∷ ls)) x) n
      by_place (inr n) = or_right (is_among (children_from d 0 ps) x) (is_among (consumers_of d (l ∷ ls)) x) (among_app (consumers_of d ls) (cond (l.supplier == d) (l.consumer ∷ []) []) x ∙ or_left (is_among (consumers_of d ls) x) (is_among (cond (l.supplier == d) (l.consumer ∷ []) []) x) n)

  module _ (all : List Link) (fix : IsAcyclic (length ps) (dependents ps all)) where
    -- no link leads back to what it depends on
    no_cycle : (l : Link) → is_among (dependents ps all l.supplier) l.consumer ≡ true → (ls : List Link) → ((d x : ℕ) → is_among (dependents ps ls d) x ≡ true → is_among (dependents ps all d) x ≡ true)
        → (path : List ℕ) → IsPath (dependents ps ls) path l.consumer l.supplier → ⊥
    no_cycle l m ls i [] p = p
    no_cycle l m ls i (x ∷ xs) p =
        let leads = leads_below (dependents ps all) (moved (length ps) (dependents ps all)) fix x xs l.supplier (leads_more (dependents ps ls) (dependents ps all) i x xs l.supplier p.1) in
        let back = among_flat (dependents ps all) (moved (length ps) (dependents ps all)) fix l.supplier (dependents ps all l.supplier) x (subst (λ (y : ℕ). is_among (dependents ps all l.supplier) y ≡ true) (sym p.0) m) leads in
        true≢false (sym back ∙ not_below_itself (dependents ps all) (moved (length ps) (dependents ps all)) fix l.supplier)

    -- if no device depends on itself each link may be added
    pub acyclic_links : (ls : List Link) → AreApart ps ls → ((d x : ℕ) → is_among (dependents ps ls d) x ≡ true → is_among (dependents ps all d) x ≡ true) → AreLinks ps ls
    acyclic_links [] h i = tt
    acyclic_links (l ∷ ls) h i =
        let older = λ (d x : ℕ) (m : is_among (dependents ps ls d) x ≡ true). i d x (below_more l ls d x m) in
        let own : is_among (dependents ps (l ∷ ls) l.supplier) l.consumer ≡ true =
        ap (λ xs. is_among xs l.consumer) (dependents_new ps l ls) ∙ (among_app (dependents ps ls l.supplier) (l.consumer ∷ []) l.consumer ∙ or_right (is_among (dependents ps ls l.supplier) l.consumer) (is_among (l.consumer ∷ []) l.consumer) (among_first l.consumer [])) in
        (h.0, h.1, h.2, no_path_moved (dependents ps ls) (length ps) l.consumer l.supplier (no_cycle l (i l.supplier l.consumer own) ls older), acyclic_links ls h.3 older)

  -- ---- if all was visited without a cycle

  module _ (all : List Link) (apart : AreApart ps all) (out : List ℕ) (ordered : IsOrder (dependents ps all) out) (within : (d : ℕ) → is_among out d ≡ true → d < length ps)
      (consumers : (d x : ℕ) → is_among (consumers_of d all) x ≡ true → is_among out x ≡ true) where
    run : List ℕ
    run = range_with_len 0 (length ps)

    whole : List ℕ
    whole = filter (λ d. not (is_among out d)) (range_with_len 0 (length ps)) ++ out

    step : (d y : ℕ) → is_among out d ≡ false → is_among (dependents ps all d) y ≡ true → (is_among out y ≡ true) ⊎ (is_among (dependents ps [] d) y ≡ true)
    step d y n m = by_place (or_cases (is_among (children_from d 0 ps) y) (is_among (consumers_of d all) y) (sym (among_app (children_from d 0 ps) (consumers_of d all) y) ∙ m))
      where
        by_place : (is_among (children_from d 0 ps) y ≡ true) ⊎ (is_among (consumers_of d all) y ≡ true) → (is_among out y ≡ true) ⊎ (is_among (dependents ps [] d) y ≡ true)
        by_place (inl e) = inr (ap (λ ys. is_among ys y) (append-nil (children_from d 0 ps)) ∙ e)
        by_place (inr e) = inl (consumers d y e)

    whole_ordered : IsOrder (dependents ps all) (filter (λ d. not (is_among out d)) (range_with_len 0 (length ps)) ++ out)
    whole_ordered = behind (dependents ps []) (dependents ps all) out ordered step (range_with_len 0 (length ps)) (order_ranked ps after [] tt)

    whole_within : (d : ℕ) → is_among (filter (λ x. not (is_among out x)) (range_with_len 0 (length ps)) ++ out) d ≡ true → d < length ps
    whole_within d m = by_place (or_cases (is_among (filter (λ x. not (is_among out x)) (range_with_len 0 (length ps))) d) (is_among out d) (sym (among_app (filter (λ x. not (is_among out x)) (range_with_len 0 (length ps))) out d) ∙ m))
      where
        by_place : (is_among (filter (λ x. not (is_among out x)) (range_with_len 0 (length ps))) d ≡ true) ⊎ (is_among out d ≡ true) → d < length ps
        by_place (inl e) = order_within ps after [] tt d (among_filter (λ x. not (is_among out x)) (range_with_len 0 (length ps)) d e)
        by_place (inr e) = within d e

    whole_covers : (d : ℕ) → d < length ps → is_among (filter (λ x. not (is_among out x)) (range_with_len 0 (length ps)) ++ out) d ≡ true
    whole_covers d l = among_app (filter (λ x. not (is_among out x)) (range_with_len 0 (length ps))) out d ∙ by_test (is_among out d) refl
      where
        by_test : (b : Bool) → is_among out d ≡ b → (is_among (filter (λ x. not (is_among out x)) (range_with_len 0 (length ps))) d || is_among out d) ≡ true
        by_test true e = or_right (is_among (filter (λ x. not (is_among out x)) (range_with_len 0 (length ps))) d) (is_among out d) e
        by_test false e = or_left (is_among (filter (λ x. not (is_among out x)) (range_with_len 0 (length ps))) d) (is_among out d) (preserved_among (λ x. not (is_among out x)) (range_with_len 0 (length ps)) d (ap not e) (order_covers ps after [] d l))

    unstamped : (d : ℕ) → is_among (filter (λ x. not (is_among out x)) (range_with_len 0 (length ps)) ++ out) d ≡ false → dependents ps all d ≡ []
    unstamped d n = by_place (cases_lt d (length ps))
      where
        by_place : (d < length ps) ⊎ (length ps ≤ d) → dependents ps all d ≡ []
        by_place (inl l) = absurd (true≢false (sym (whole_covers d l) ∙ n))
        by_place (inr l) = nothing_below all apart d l

    acyclic : IsAcyclic (length ps) (dependents ps all)
    acyclic =
        descends (dependents ps all) (filter (λ d. not (is_among out d)) (range_with_len 0 (length ps)) ++ out) whole_ordered unstamped (length ps)
        (few (length ps) (filter (λ d. not (is_among out d)) (range_with_len 0 (length ps)) ++ out) (different_of (dependents ps all) (filter (λ d. not (is_among out d)) (range_with_len 0 (length ps)) ++ out) whole_ordered) whole_within)

    pub visited_links : AreLinks ps all
    visited_links = acyclic_links all acyclic all apart (λ d x m. m)

  -- links that may be added in turn close no cycle
  pub links_acyclic : (all : List Link) → AreLinks ps all → IsAcyclic (length ps) (dependents ps all)
  links_acyclic all linked = links_descend ps after all linked (order_ranked ps after all linked)
