-- Walks that go into no device twice leave each device at its last index.
use Rattle.std.proofs.Common.{◌≡◌, ◌<◌, ◌≤◌, ◌∙◌, ℕ, zero, suc, Bool, true, false, ◌==◌, ◌||◌, List, [], ◌∷◌, ◌⊎◌, inl, inr, length, get_or, Option, refl, sym, ap, subst, cond, arith, length-append}
use Rattle.std.specs.List.{flat_map}
use Rattle.std.proofs.lemmas.Bool.{false≢true, eqb-true, or_cases}
use Rattle.sleep_model.specs.declared.machine.Link.{Link}
use Rattle.sleep_model.specs.Order.{is_among, dependents, EachAfterParent, last_occurrences, moved, order_by}
use Rattle.sleep_model.specs.Links.{IsOrder, AreLinks}
use Rattle.sleep_model.proofs.Dependents.{among_first, among_rest, Within, within_of, put, onto, onto_app, among_onto, last_onto, Descends, IsClosed, among_flat}
use Rattle.sleep_model.proofs.Dependents.{visited as walked}
use Rattle.sleep_model.proofs.Acyclic.{links_descend, order_ranked, order_covers, order_length}
use Rattle.check_order.specs.declared.walk.VisitedDevices.{VisitedDevices}
use Rattle.check_order.specs.Visited.{put_first, all_visited, visited, AreMarked}

-- ---- closed lists

module _ (dependents_of : ℕ → List ℕ) (W : ℕ → List ℕ) (fix : Descends dependents_of W) where
  itself : (d : ℕ) → is_among (W d) d ≡ true
  itself d = ap (λ ys. is_among ys d) (fix d) ∙ among_first d (flat_map W (dependents_of d))

  put_closed : (out : List ℕ) (d : ℕ) → IsClosed dependents_of out → Within (dependents_of d) out → IsClosed dependents_of (put out d)
  put_closed out d h i = by_test (is_among out d)
    where
      by_place : (x : ℕ) → ((d == x) ≡ true) ⊎ (is_among out x ≡ true) → Within (dependents_of x) (d ∷ out)
      by_place x (inl e) = subst (λ (y : ℕ). Within (dependents_of y) (d ∷ out)) (eqb-true d x e) (λ c m. among_rest d out c (i c m))
      by_place x (inr e) = λ c m. among_rest d out c (h x e c m)

      by_test : (b : Bool) → IsClosed dependents_of (cond b out (d ∷ out))
      by_test true = h
      by_test false = λ x m. by_place x (or_cases (d == x) (is_among out x) m)

  flat_closed : (k : ℕ) → ((o : List ℕ) → IsClosed dependents_of o → (d : ℕ) → length (W d) ≤ k → IsClosed dependents_of (onto (W d) o)) → (out : List ℕ) → IsClosed dependents_of out → (cs : List ℕ) → length (flat_map W cs) ≤ k → IsClosed dependents_of (onto (flat_map W cs) out)
  flat_closed k rec out h [] l = h
  flat_closed k rec out h (c ∷ cs) l =
      subst (IsClosed dependents_of) (sym (onto_app (W c) (flat_map W cs) out))
      (rec (onto (flat_map W cs) out) (flat_closed k rec out h cs (omega (arith, length-append (W c) (flat_map W cs)))) c (omega (arith, length-append (W c) (flat_map W cs))))

  walk_closed : (k : ℕ) (out : List ℕ) → IsClosed dependents_of out → (d : ℕ) → length (W d) ≤ k → IsClosed dependents_of (onto (W d) out)
  walk_closed zero out h d l = let e = ap length (fix d) in absurd (omega arith)
  walk_closed (suc k) out h d l =
      let cs = flat_map W (dependents_of d) in
      subst (λ (ys : List ℕ). IsClosed dependents_of (onto ys out)) (sym (fix d))
      (put_closed (onto cs out) d (flat_closed k (walk_closed k) out h (dependents_of d) (omega (arith, ap length (fix d))))
      (λ c m. among_onto cs out c ∙ ap (λ b. b || is_among out c) (among_flat dependents_of W fix c (dependents_of d) c m (itself c))))

  flats_closed : (out : List ℕ) → IsClosed dependents_of out → (cs : List ℕ) → IsClosed dependents_of (onto (flat_map W cs) out)
  flats_closed out h [] = h
  flats_closed out h (c ∷ cs) = subst (IsClosed dependents_of) (sym (onto_app (W c) (flat_map W cs) out)) (walk_closed (length (W c)) (onto (flat_map W cs) out) (flats_closed out h cs) c (omega arith))

  -- ---- a walk

  -- visits of these, each of which is as its definition
  each_visited : (visit : ℕ → List ℕ → List ℕ) (cs : List ℕ) → ((c : ℕ) → is_among cs c ≡ true → (o : List ℕ) → IsClosed dependents_of o → visit c o ≡ onto (W c) o) → (out : List ℕ) → IsClosed dependents_of out → all_visited visit cs out ≡ onto (flat_map W cs) out
  each_visited visit [] f out h = refl
  each_visited visit (c ∷ cs) f out h =
      ap (visit c) (each_visited visit cs (λ x m. f x (among_rest c cs x m)) out h)
      ∙ (f c (among_first c cs) (onto (flat_map W cs) out) (flats_closed out h cs)
      ∙ sym (onto_app (W c) (flat_map W cs) out))

  -- as many levels as an order has devices from one on reach all below it
  visit_is : (ds : List ℕ) → IsOrder dependents_of ds → (levels : ℕ) → length ds ≤ levels → (d : ℕ) → is_among ds d ≡ true → (out : List ℕ) → IsClosed dependents_of out → visited levels dependents_of d out ≡ onto (W d) out
  visit_is [] h levels l d m out i = absurd (false≢true m)
  visit_is (x ∷ xs) h zero l d m out i = absurd (omega arith)
  visit_is (x ∷ xs) h (suc levels) l d m out i = by_place (visit_is xs h.2 levels (omega arith)) (visit_is xs h.2 (suc levels) (omega arith) d) (or_cases (x == d) (is_among xs d) m)
    where
      by_place : ((c : ℕ) → is_among xs c ≡ true → (o : List ℕ) → IsClosed dependents_of o → visited levels dependents_of c o ≡ onto (W c) o)
          → (is_among xs d ≡ true → (o : List ℕ) → IsClosed dependents_of o → visited (suc levels) dependents_of d o ≡ onto (W d) o)
          → ((x == d) ≡ true) ⊎ (is_among xs d ≡ true) → visited (suc levels) dependents_of d out ≡ onto (W d) out
      by_place below rest (inr e) = rest e out i
      by_place below rest (inl e) = by_test (is_among out d) refl
        where
          hang : (c : ℕ) → is_among (dependents_of d) c ≡ true → is_among xs c ≡ true
          hang = subst (λ (y : ℕ). Within (dependents_of y) xs) (eqb-true x d e) (within_of xs (dependents_of x) h.1)

          by_test : (b : Bool) → is_among out d ≡ b → cond b out (put_first d (all_visited (visited levels dependents_of) (dependents_of d) out)) ≡ onto (W d) out
          by_test true g = sym (walked dependents_of W fix out i d g)
          by_test false g =
              ap (put_first d) (each_visited (visited levels dependents_of) (dependents_of d) (λ c n. below c (hang c n)) out i)
              ∙ ap (λ ys. onto ys out) (sym (fix d))

-- what is visited below a registered device is all that depends on it, each at its last index
pub visited_is : (ps : List (Option ℕ)) → EachAfterParent 0 ps → (ls : List Link) → AreLinks ps ls → (d : ℕ) → d < length ps → visited (length ps) (dependents ps ls) d [] ≡ last_occurrences (moved (length ps) (dependents ps ls) d)
visited_is ps after ls linked d l =
    visit_is (dependents ps ls) (moved (length ps) (dependents ps ls)) (links_descend ps after ls linked ranked) (order_by ps ls) ranked (length ps) (omega (arith, order_length ps after ls linked)) d (order_covers ps after ls d l) [] (λ x m. absurd (false≢true m))
    ∙ sym (last_onto (moved (length ps) (dependents ps ls) d))
  where
    ranked : IsOrder (dependents ps ls) (order_by ps ls)
    ranked = order_ranked ps after ls linked

-- ---- the code

pub among_at : (xs : List ℕ) (k : ℕ) → k < length xs → is_among xs (get_or xs k 0) ≡ true
among_at [] k l = absurd (omega arith)
among_at (x ∷ xs) zero l = among_first x xs
among_at (x ∷ xs) (suc k) l = among_rest x xs (get_or xs k 0) (among_at xs k (omega arith))

-- the marks of as many devices as there are marks
pub marked_as : (n : ℕ) (v : VisitedDevices) → AreMarked n v → AreMarked (length v.marks) v
marked_as n v h = subst (λ (k : ℕ). AreMarked k v) (sym h.count) h

pub marked_at : (n : ℕ) (v : VisitedDevices) → AreMarked n v → (d : ℕ) → d < n → (r : Bool) → r ≡ get_or v.marks d false → is_among v.out d ≡ r
marked_at n v h d l r e = sym (h.marked d l) ∙ sym e
