-- Links from lesser to greater devices close no cycle.
use Rattle.std.proofs.Common.{◌≡◌, ◌<◌, ◌≤◌, ◌==◌, ◌∙◌, ◌⊎◌, inl, inr, cond, ℕ, zero, suc, Bool, true, false, List, [], ◌∷◌, Option, Some, None, refl, sym, arith}
use Rattle.std.specs.List.{flat_map}
use Rattle.std.proofs.lemmas.Bool.{false≢true, eqb-true, or_cases, false_from_ne_true}
use Rattle.sleep_model.specs.declared.machine.Link.{Link}
use Rattle.sleep_model.specs.Order.{is_among, children_from, consumers_of, dependents, moved, EachAfterParent}
use Rattle.sleep_model.proofs.Dependents.{among_app, among_first, among_rest}

-- each link goes from a lesser to a greater device
abbrev pub AreRising : List Link → Type 0
AreRising [] = Unit {0}
AreRising (l ∷ ls) = (l.supplier < l.consumer) × AreRising ls

-- a child comes after its parent
child_after : (d n : ℕ) (ps : List (Option ℕ)) → EachAfterParent n ps → (x : ℕ) → is_among (children_from d n ps) x ≡ true → d < x
child_after d n [] h x m = absurd (false≢true m)
child_after d n (None ∷ ps) h x m = child_after d (suc n) ps h.1 x m
child_after d n (Some p ∷ ps) h x m = by_test (child_after d (suc n) ps h.1 x) (p == d) refl m
  where
    by_place : (is_among (children_from d (suc n) ps) x ≡ true → d < x) → p ≡ d → ((n == x) ≡ true) ⊎ (is_among (children_from d (suc n) ps) x ≡ true) → d < x
    by_place rest same (inl e) = let here : n ≡ x = eqb-true n x e in let before : p < n = h.0 in omega arith
    by_place rest same (inr e) = rest e

    by_test : (is_among (children_from d (suc n) ps) x ≡ true → d < x) → (b : Bool) → (p == d) ≡ b → is_among (cond b (n ∷ children_from d (suc n) ps) (children_from d (suc n) ps)) x ≡ true → d < x
    by_test rest false e m' = rest m'
    by_test rest true e m' = by_place rest (eqb-true p d e) (or_cases (n == x) (is_among (children_from d (suc n) ps) x) m')

-- a consumer is greater
consumer_after : (d : ℕ) (links : List Link) → AreRising links → (x : ℕ) → is_among (consumers_of d links) x ≡ true → d < x
consumer_after d [] h x m = absurd (false≢true m)
consumer_after d (l ∷ earlier) h x m =
    by_place (consumer_after d earlier h.1 x) (l.supplier == d) refl (or_cases (is_among (consumers_of d earlier) x) _ (sym (among_app (consumers_of d earlier) (cond (l.supplier == d) (l.consumer ∷ []) []) x) ∙ m))
  where
    by_place : (is_among (consumers_of d earlier) x ≡ true → d < x) → (b : Bool) → (l.supplier == d) ≡ b
        → (is_among (consumers_of d earlier) x ≡ true) ⊎ (is_among (cond b (l.consumer ∷ []) []) x ≡ true) → d < x
    by_place rest b e (inl n) = rest n
    by_place rest false e (inr n) = absurd (false≢true n)
    by_place rest true e (inr n) = by_same (or_cases (l.consumer == x) false n)
      where
        by_same : ((l.consumer == x) ≡ true) ⊎ (false ≡ true) → d < x
        by_same (inl f) = let one : l.supplier ≡ d = eqb-true l.supplier d e in let other : l.consumer ≡ x = eqb-true l.consumer x f in let up : l.supplier < l.consumer = h.0 in omega arith
        by_same (inr f) = absurd (false≢true f)

flat_after : (f : ℕ → List ℕ) (d : ℕ) (cs : List ℕ) → ((c x : ℕ) → is_among cs c ≡ true → is_among (f c) x ≡ true → d ≤ x) → (x : ℕ) → is_among (flat_map f cs) x ≡ true → d ≤ x
flat_after f d [] h x m = absurd (false≢true m)
flat_after f d (c ∷ cs) h x m =
    by_place (flat_after f d cs (λ e y i j. h e y (among_rest c cs e i) j) x) (or_cases (is_among (f c) x) (is_among (flat_map f cs) x) (sym (among_app (f c) (flat_map f cs) x) ∙ m))
  where
    by_place : (is_among (flat_map f cs) x ≡ true → d ≤ x) → (is_among (f c) x ≡ true) ⊎ (is_among (flat_map f cs) x ≡ true) → d ≤ x
    by_place rest (inl n) = h c x (among_first c cs) n
    by_place rest (inr n) = rest n

module _ (ps : List (Option ℕ)) (after : EachAfterParent 0 ps) (links : List Link) (rising : AreRising links) where
  depends_after : (d x : ℕ) → is_among (dependents ps links d) x ≡ true → d < x
  depends_after d x m = by_place (or_cases (is_among (children_from d 0 ps) x) (is_among (consumers_of d links) x) (sym (among_app (children_from d 0 ps) (consumers_of d links) x) ∙ m))
    where
      by_place : (is_among (children_from d 0 ps) x ≡ true) ⊎ (is_among (consumers_of d links) x ≡ true) → d < x
      by_place (inl n) = child_after d 0 ps after x n
      by_place (inr n) = consumer_after d links rising x n

  -- what depends on a device is not less
  moved_after : (n d x : ℕ) → is_among (moved n (dependents ps links) d) x ≡ true → d ≤ x
  moved_after zero d x m = by_same (or_cases (d == x) false m)
    where
      by_same : ((d == x) ≡ true) ⊎ (false ≡ true) → d ≤ x
      by_same (inl f) = let same : d ≡ x = eqb-true d x f in omega arith
      by_same (inr f) = absurd (false≢true f)
  moved_after (suc n) d x m = by_place (moved_after n) (or_cases (d == x) (is_among (flat_map (moved n (dependents ps links)) (dependents ps links d)) x) m)
    where
      by_place : ((c y : ℕ) → is_among (moved n (dependents ps links) c) y ≡ true → c ≤ y) → ((d == x) ≡ true) ⊎ (is_among (flat_map (moved n (dependents ps links)) (dependents ps links d)) x ≡ true) → d ≤ x
      by_place rest (inl f) = let same : d ≡ x = eqb-true d x f in omega arith
      by_place rest (inr f) =
          flat_after (moved n (dependents ps links)) d (dependents ps links d)
          (λ c y i j. let one : d < c = depends_after d c i in let other : c ≤ y = rest c y j in omega arith) x f

  -- so a lesser device does not depend on a greater one
  pub not_below : (n u v : ℕ) → u < v → is_among (moved n (dependents ps links) v) u ≡ false
  not_below n u v l = false_from_ne_true _ (λ m. let h : v ≤ u = moved_after n v u m in absurd (omega arith))
