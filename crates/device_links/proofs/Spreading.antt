-- Marks that spread in an order come to just what depends on one.
use Rattle.std.proofs.Common.{◌≡◌, ◌<◌, ◌≤◌, ◌∙◌, ℕ, zero, suc, Bool, true, false, ◌==◌, ◌||◌, List, [], ◌∷◌, ◌++◌, ◌⊎◌, inl, inr, length, get_or, set, replicate, Option, refl, sym, ap, subst, cond, arith, length-set}
use Rattle.std.specs.List.{flat_map}
use Rattle.std.proofs.lemmas.Bool.{true≢false, false≢true, eqb-true, eqb-false, or_cases, cases_lt}
use Rattle.std.proofs.lemmas.List.{get_or-set_same, get_or-set_other, length-replicate}
use Rattle.sleep_model.specs.declared.machine.Link.{Link}
use Rattle.sleep_model.specs.Links.{IsOrder, AreLinks, is_dependent}
use Rattle.sleep_model.specs.Order.{is_among, dependents, moved, order_by, EachAfterParent}
use Rattle.sleep_model.proofs.Acyclic.{order_ranked, order_covers, links_descend, dependents_within, nothing_below}
use Rattle.sleep_model.proofs.Dependents.{among_app, among_first, among_rest, within_of, Descends}
use Rattle.device_links.specs.Spread.{marked, spread_by, spread}

-- ---- marks

pub marked_length : (xs : List ℕ) (ms : List Bool) → length (marked xs ms) ≡ length ms
marked_length [] ms = refl
marked_length (x ∷ xs) ms = marked_length xs (set ms x true) ∙ length-set ms x true

-- a mark was set, or was there
set_back : (ms : List Bool) (x d : ℕ) → get_or (set ms x true) d false ≡ true → (x ≡ d) ⊎ (get_or ms d false ≡ true)
set_back ms x d e = by_test (x == d) refl
  where
    by_test : (b : Bool) → (x == d) ≡ b → (x ≡ d) ⊎ (get_or ms d false ≡ true)
    by_test true t = inl (eqb-true x d t)
    by_test false t = inr (sym (get_or-set_other ms x d true false (λ k. eqb-false x d t (sym k))) ∙ e)

-- a mark stays
set_stays : (ms : List Bool) (x d : ℕ) → x < length ms → get_or ms d false ≡ true → get_or (set ms x true) d false ≡ true
set_stays ms x d l e = by_test (x == d) refl
  where
    by_test : (b : Bool) → (x == d) ≡ b → get_or (set ms x true) d false ≡ true
    by_test true t = subst (λ (y : ℕ). get_or (set ms x true) y false ≡ true) (eqb-true x d t) (get_or-set_same ms x true false l)
    by_test false t = get_or-set_other ms x d true false (λ k. eqb-false x d t (sym k)) ∙ e

marked_back : (xs : List ℕ) (ms : List Bool) (d : ℕ) → get_or (marked xs ms) d false ≡ true → (is_among xs d ≡ true) ⊎ (get_or ms d false ≡ true)
marked_back [] ms d e = inr e
marked_back (x ∷ xs) ms d e = by_rest (marked_back xs (set ms x true) d e)
  where
    by_set : (x ≡ d) ⊎ (get_or ms d false ≡ true) → (is_among (x ∷ xs) d ≡ true) ⊎ (get_or ms d false ≡ true)
    by_set (inl s) = inl (subst (λ (y : ℕ). is_among (x ∷ xs) y ≡ true) s (among_first x xs))
    by_set (inr s) = inr s

    by_rest : (is_among xs d ≡ true) ⊎ (get_or (set ms x true) d false ≡ true) → (is_among (x ∷ xs) d ≡ true) ⊎ (get_or ms d false ≡ true)
    by_rest (inl m) = inl (among_rest x xs d m)
    by_rest (inr m) = by_set (set_back ms x d m)

marked_stays : (xs : List ℕ) (ms : List Bool) (d n : ℕ) → length ms ≡ n → ((x : ℕ) → is_among xs x ≡ true → x < n) → get_or ms d false ≡ true → get_or (marked xs ms) d false ≡ true
marked_stays [] ms d n l i e = e
marked_stays (x ∷ xs) ms d n l i e =
    let within : x < length ms = let w = i x (among_first x xs) in omega (arith, l, w) in
    marked_stays xs (set ms x true) d n (length-set ms x true ∙ l) (λ y m. i y (among_rest x xs y m)) (set_stays ms x d within e)

marked_there : (xs : List ℕ) (ms : List Bool) (d n : ℕ) → length ms ≡ n → ((x : ℕ) → is_among xs x ≡ true → x < n) → is_among xs d ≡ true → get_or (marked xs ms) d false ≡ true
marked_there [] ms d n l i m = absurd (false≢true m)
marked_there (x ∷ xs) ms d n l i m = by_place (marked_there xs (set ms x true) d n (length-set ms x true ∙ l) (λ y k. i y (among_rest x xs y k))) (or_cases (x == d) (is_among xs d) m)
  where
    within : x < length ms
    within = let w = i x (among_first x xs) in omega (arith, l, w)

    by_place : (is_among xs d ≡ true → get_or (marked xs (set ms x true)) d false ≡ true) → ((x == d) ≡ true) ⊎ (is_among xs d ≡ true) → get_or (marked xs (set ms x true)) d false ≡ true
    by_place rest (inr k) = rest k
    by_place rest (inl s) =
        marked_stays xs (set ms x true) d n (length-set ms x true ∙ l) (λ y k. i y (among_rest x xs y k))
        (subst (λ (y : ℕ). get_or (set ms x true) y false ≡ true) (eqb-true x d s) (get_or-set_same ms x true false within))

-- one more of a row, and one more device
pub marked_more : (xs : List ℕ) (x : ℕ) (ms : List Bool) → marked (xs ++ x ∷ []) ms ≡ set (marked xs ms) x true
marked_more [] x ms = refl
marked_more (y ∷ xs) x ms = marked_more xs x (set ms y true)

pub spread_more : (dependents_of : ℕ → List ℕ) (ds : List ℕ) (d : ℕ) (ms : List Bool) → spread dependents_of (ds ++ d ∷ []) ms ≡ spread_by dependents_of d (spread dependents_of ds ms)
spread_more dependents_of [] d ms = refl
spread_more dependents_of (e ∷ ds) d ms = spread_more dependents_of ds d (spread_by dependents_of e ms)

-- ---- what they come to

module _ (dependents_of : ℕ → List ℕ) (W : ℕ → List ℕ) (fix : Descends dependents_of W) where
  -- a device is among what is moved with it, and so is what is moved with one right below it
  itself : (d : ℕ) → is_among (W d) d ≡ true
  itself d = ap (λ xs. is_among xs d) (fix d) ∙ among_first d (flat_map W (dependents_of d))

  in_flat : (cs : List ℕ) (c s : ℕ) → is_among cs c ≡ true → is_among (W c) s ≡ true → is_among (flat_map W cs) s ≡ true
  in_flat [] c s m w = absurd (false≢true m)
  in_flat (x ∷ cs) c s m w = among_app (W x) (flat_map W cs) s ∙ by_place (in_flat cs c s) (or_cases (x == c) (is_among cs c) m)
    where
      later : (a : Bool) → is_among (flat_map W cs) s ≡ true → (a || is_among (flat_map W cs) s) ≡ true
      later true e = refl
      later false e = e

      by_place : (is_among cs c ≡ true → is_among (W c) s ≡ true → is_among (flat_map W cs) s ≡ true) → ((x == c) ≡ true) ⊎ (is_among cs c ≡ true) → (is_among (W x) s || is_among (flat_map W cs) s) ≡ true
      by_place rest (inl e) = ap (λ b. b || is_among (flat_map W cs) s) (ap (λ y. is_among (W y) s) (eqb-true x c e) ∙ w)
      by_place rest (inr k) = later (is_among (W x) s) (rest k w)

  of_flat : (cs : List ℕ) (s : ℕ) → is_among (flat_map W cs) s ≡ true → (c : ℕ) × ((is_among cs c ≡ true) × (is_among (W c) s ≡ true))
  of_flat [] s m = absurd (false≢true m)
  of_flat (x ∷ cs) s m = by_place (of_flat cs s) (or_cases (is_among (W x) s) (is_among (flat_map W cs) s) (sym (among_app (W x) (flat_map W cs) s) ∙ m))
    where
      by_place : (is_among (flat_map W cs) s ≡ true → (c : ℕ) × ((is_among cs c ≡ true) × (is_among (W c) s ≡ true))) → (is_among (W x) s ≡ true) ⊎ (is_among (flat_map W cs) s ≡ true) → (c : ℕ) × ((is_among (x ∷ cs) c ≡ true) × (is_among (W c) s ≡ true))
      by_place rest (inl k) = (x, (among_first x cs, k))
      by_place rest (inr k) = let r = rest k in (r.0, (among_rest x cs r.0 r.1.0, r.1.1))

  below : (d c s : ℕ) → is_among (dependents_of d) c ≡ true → is_among (W c) s ≡ true → is_among (W d) s ≡ true
  below d c s m w = ap (λ xs. is_among xs s) (fix d) ∙ among_rest d (flat_map W (dependents_of d)) s (in_flat (dependents_of d) c s m w)

  back : (ds : List ℕ) (ms : List Bool) (s : ℕ) → get_or (spread dependents_of ds ms) s false ≡ true
      → (get_or ms s false ≡ true) ⊎ ((d : ℕ) × ((is_among ds d ≡ true) × ((get_or ms d false ≡ true) × (is_among (W d) s ≡ true))))
  back [] ms s e = inl e
  back (d ∷ ds) ms s e = by_mark (get_or ms d false) refl (back ds ms s) (back ds (marked (dependents_of d) ms) s) e
    where
      later : (get_or ms s false ≡ true) ⊎ ((x : ℕ) × ((is_among ds x ≡ true) × ((get_or ms x false ≡ true) × (is_among (W x) s ≡ true)))) → (get_or ms s false ≡ true) ⊎ ((x : ℕ) × ((is_among (d ∷ ds) x ≡ true) × ((get_or ms x false ≡ true) × (is_among (W x) s ≡ true))))
      later (inl k) = inl k
      later (inr k) = inr (k.0, (among_rest d ds k.0 k.1.0, k.1.1))

      at_once : get_or ms d false ≡ true → (is_among (dependents_of d) s ≡ true) ⊎ (get_or ms s false ≡ true) → (get_or ms s false ≡ true) ⊎ ((x : ℕ) × ((is_among (d ∷ ds) x ≡ true) × ((get_or ms x false ≡ true) × (is_among (W x) s ≡ true))))
      at_once f (inl k) = inr (d, (among_first d ds, (f, below d s s k (itself s))))
      at_once f (inr k) = inl k

      through : get_or ms d false ≡ true → (x : ℕ) → is_among ds x ≡ true → is_among (W x) s ≡ true → (is_among (dependents_of d) x ≡ true) ⊎ (get_or ms x false ≡ true) → (get_or ms s false ≡ true) ⊎ ((y : ℕ) × ((is_among (d ∷ ds) y ≡ true) × ((get_or ms y false ≡ true) × (is_among (W y) s ≡ true))))
      through f x m w (inl k) = inr (d, (among_first d ds, (f, below d x s k w)))
      through f x m w (inr k) = inr (x, (among_rest d ds x m, (k, w)))

      by_spread : get_or ms d false ≡ true → (get_or (marked (dependents_of d) ms) s false ≡ true) ⊎ ((x : ℕ) × ((is_among ds x ≡ true) × ((get_or (marked (dependents_of d) ms) x false ≡ true) × (is_among (W x) s ≡ true)))) → (get_or ms s false ≡ true) ⊎ ((x : ℕ) × ((is_among (d ∷ ds) x ≡ true) × ((get_or ms x false ≡ true) × (is_among (W x) s ≡ true))))
      by_spread f (inl k) = at_once f (marked_back (dependents_of d) ms s k)
      by_spread f (inr k) = through f k.0 k.1.0 k.1.1.1 (marked_back (dependents_of d) ms k.0 k.1.1.0)

      by_mark : (b : Bool) → get_or ms d false ≡ b
          → (get_or (spread dependents_of ds ms) s false ≡ true → (get_or ms s false ≡ true) ⊎ ((x : ℕ) × ((is_among ds x ≡ true) × ((get_or ms x false ≡ true) × (is_among (W x) s ≡ true)))))
          → (get_or (spread dependents_of ds (marked (dependents_of d) ms)) s false ≡ true → (get_or (marked (dependents_of d) ms) s false ≡ true) ⊎ ((x : ℕ) × ((is_among ds x ≡ true) × ((get_or (marked (dependents_of d) ms) x false ≡ true) × (is_among (W x) s ≡ true)))))
          → get_or (spread dependents_of ds (cond b (marked (dependents_of d) ms) ms)) s false ≡ true → (get_or ms s false ≡ true) ⊎ ((x : ℕ) × ((is_among (d ∷ ds) x ≡ true) × ((get_or ms x false ≡ true) × (is_among (W x) s ≡ true))))
      by_mark false f plain more k = later (plain k)
      by_mark true f plain more k = by_spread f (more k)

  module _ (n : ℕ) (inside : (d x : ℕ) → is_among (dependents_of d) x ≡ true → x < n) where
    forth : (ds : List ℕ) (ms : List Bool) (s : ℕ) → length ms ≡ n → IsOrder dependents_of ds
        → (get_or ms s false ≡ true) ⊎ ((d : ℕ) × ((is_among ds d ≡ true) × ((get_or ms d false ≡ true) × (is_among (W d) s ≡ true)))) → get_or (spread dependents_of ds ms) s false ≡ true
    forth [] ms s l o (inl e) = e
    forth [] ms s l o (inr e) = absurd (false≢true e.1.0)
    forth (d ∷ ds) ms s l o h = by_mark (get_or ms d false) refl (forth ds ms s l o.2) (forth ds (marked (dependents_of d) ms) s (marked_length (dependents_of d) ms ∙ l) o.2) h
      where
        stays : (x : ℕ) → get_or ms x false ≡ true → get_or (marked (dependents_of d) ms) x false ≡ true
        stays x e = marked_stays (dependents_of d) ms x n l (inside d) e

        there : (x : ℕ) → is_among (dependents_of d) x ≡ true → get_or (marked (dependents_of d) ms) x false ≡ true
        there x m = marked_there (dependents_of d) ms x n l (inside d) m

        unmarked : (x : ℕ) → get_or ms d false ≡ false → get_or ms x false ≡ true → ((d == x) ≡ true) ⊎ (is_among ds x ≡ true) → is_among ds x ≡ true
        unmarked x f e (inl k) = absurd (true≢false (sym e ∙ (ap (λ y. get_or ms y false) (sym (eqb-true d x k)) ∙ f)))
        unmarked x f e (inr k) = k

        from_here : (get_or ms s false ≡ true) ⊎ (is_among (flat_map W (dependents_of d)) s ≡ true) → (get_or (marked (dependents_of d) ms) s false ≡ true) ⊎ ((x : ℕ) × ((is_among ds x ≡ true) × ((get_or (marked (dependents_of d) ms) x false ≡ true) × (is_among (W x) s ≡ true))))
        from_here (inl e) = inl (stays s e)
        from_here (inr e) = let c = of_flat (dependents_of d) s e in inr (c.0, (within_of ds (dependents_of d) o.1 c.0 c.1.0, (there c.0 c.1.0, c.1.1)))

        here : get_or ms d false ≡ true → ((d == s) ≡ true) ⊎ (is_among (flat_map W (dependents_of d)) s ≡ true) → (get_or ms s false ≡ true) ⊎ (is_among (flat_map W (dependents_of d)) s ≡ true)
        here f (inl k) = inl (subst (λ (y : ℕ). get_or ms y false ≡ true) (eqb-true d s k) f)
        here f (inr k) = inr k

        at_place : get_or ms d false ≡ true → (x : ℕ) → get_or ms x false ≡ true → is_among (W x) s ≡ true → ((d == x) ≡ true) ⊎ (is_among ds x ≡ true) → (get_or (marked (dependents_of d) ms) s false ≡ true) ⊎ ((y : ℕ) × ((is_among ds y ≡ true) × ((get_or (marked (dependents_of d) ms) y false ≡ true) × (is_among (W y) s ≡ true))))
        at_place f x e w (inl k) = from_here (here f (or_cases (d == s) (is_among (flat_map W (dependents_of d)) s) (ap (λ xs. is_among xs s) (sym (fix d)) ∙ (ap (λ y. is_among (W y) s) (eqb-true d x k) ∙ w))))
        at_place f x e w (inr k) = inr (x, (k, (stays x e, w)))

        moved_on : get_or ms d false ≡ true → (get_or ms s false ≡ true) ⊎ ((x : ℕ) × ((is_among (d ∷ ds) x ≡ true) × ((get_or ms x false ≡ true) × (is_among (W x) s ≡ true)))) → (get_or (marked (dependents_of d) ms) s false ≡ true) ⊎ ((y : ℕ) × ((is_among ds y ≡ true) × ((get_or (marked (dependents_of d) ms) y false ≡ true) × (is_among (W y) s ≡ true))))
        moved_on f (inl e) = inl (stays s e)
        moved_on f (inr k) = at_place f k.0 k.1.1.0 k.1.1.1 (or_cases (d == k.0) (is_among ds k.0) k.1.0)

        left_on : get_or ms d false ≡ false → (get_or ms s false ≡ true) ⊎ ((x : ℕ) × ((is_among (d ∷ ds) x ≡ true) × ((get_or ms x false ≡ true) × (is_among (W x) s ≡ true)))) → (get_or ms s false ≡ true) ⊎ ((y : ℕ) × ((is_among ds y ≡ true) × ((get_or ms y false ≡ true) × (is_among (W y) s ≡ true))))
        left_on f (inl e) = inl e
        left_on f (inr k) = inr (k.0, (unmarked k.0 f k.1.1.0 (or_cases (d == k.0) (is_among ds k.0) k.1.0), k.1.1))

        by_mark : (b : Bool) → get_or ms d false ≡ b
            → ((get_or ms s false ≡ true) ⊎ ((x : ℕ) × ((is_among ds x ≡ true) × ((get_or ms x false ≡ true) × (is_among (W x) s ≡ true)))) → get_or (spread dependents_of ds ms) s false ≡ true)
            → ((get_or (marked (dependents_of d) ms) s false ≡ true) ⊎ ((x : ℕ) × ((is_among ds x ≡ true) × ((get_or (marked (dependents_of d) ms) x false ≡ true) × (is_among (W x) s ≡ true)))) → get_or (spread dependents_of ds (marked (dependents_of d) ms)) s false ≡ true)
            → (get_or ms s false ≡ true) ⊎ ((x : ℕ) × ((is_among (d ∷ ds) x ≡ true) × ((get_or ms x false ≡ true) × (is_among (W x) s ≡ true)))) → get_or (spread dependents_of ds (cond b (marked (dependents_of d) ms) ms)) s false ≡ true
        by_mark false f plain more k = plain (left_on f k)
        by_mark true f plain more k = more (moved_on f k)

-- ---- the search

same_test : (a b : Bool) → (a ≡ true → b ≡ true) → (b ≡ true → a ≡ true) → a ≡ b
same_test true b f g = sym (f refl)
same_test false true f g = g refl
same_test false false f g = refl

module _ (ps : List (Option ℕ)) (after : EachAfterParent 0 ps) (ls : List Link) (linked : AreLinks ps ls) (n c s : ℕ) where
  one_mark : (x : ℕ) → get_or (set (replicate n false) c true) x false ≡ true → c ≡ x
  one_mark x e = by_set (set_back (replicate n false) c x e)
    where
      unstamped : (k y : ℕ) → get_or (replicate k false) y false ≡ false
      unstamped zero y = refl
      unstamped (suc k) zero = refl
      unstamped (suc k) (suc y) = unstamped k y

      by_set : (c ≡ x) ⊎ (get_or (replicate n false) x false ≡ true) → c ≡ x
      by_set (inl k) = k
      by_set (inr k) = absurd (true≢false (sym k ∙ unstamped n x))

  fix : Descends (dependents ps ls) (moved (length ps) (dependents ps ls))
  fix = links_descend ps after ls linked (order_ranked ps after ls linked)

  found : (get_or (set (replicate n false) c true) s false ≡ true) ⊎ ((d : ℕ) × ((is_among (order_by ps ls) d ≡ true) × ((get_or (set (replicate n false) c true) d false ≡ true) × (is_among (moved (length ps) (dependents ps ls) d) s ≡ true)))) → is_among (moved (length ps) (dependents ps ls) c) s ≡ true
  found (inl e) = subst (λ (x : ℕ). is_among (moved (length ps) (dependents ps ls) c) x ≡ true) (one_mark s e) (itself (dependents ps ls) (moved (length ps) (dependents ps ls)) fix c)
  found (inr e) = subst (λ (x : ℕ). is_among (moved (length ps) (dependents ps ls) x) s ≡ true) (sym (one_mark e.0 e.1.1.0)) e.1.1.1

  module _ (few : length ps ≤ n) where
    starts : c < length ps → is_dependent ps ls c s ≡ true → get_or (spread (dependents ps ls) (order_by ps ls) (set (replicate n false) c true)) s false ≡ true
    starts within e =
        forth (dependents ps ls) (moved (length ps) (dependents ps ls)) fix n (λ d x m. let w = dependents_within ps after ls linked d x m in omega (arith, w, few)) (order_by ps ls) (set (replicate n false) c true) s
        (length-set (replicate n false) c true ∙ length-replicate n false) (order_ranked ps after ls linked)
        (inr (c, (order_covers ps after ls c within, (get_or-set_same (replicate n false) c true false (omega (arith, length-replicate n false)), e))))

    -- nothing depends on what is no device
    nothing : length ps ≤ c → (c == s) ≡ false → is_dependent ps ls c s ≡ false
    nothing past apart = by_levels (length ps)
      where
        by_levels : (k : ℕ) → is_among (moved k (dependents ps ls) c) s ≡ false
        by_levels zero = ap (λ b. b || false) apart
        by_levels (suc k) =
            ap (λ xs. is_among (c ∷ flat_map (moved k (dependents ps ls)) xs) s) (nothing_below ps after ls linked c past) ∙ ap (λ b. b || false) apart

    -- marks that spread from a device come to just what is moved with it
    pub comes : (c == s) ≡ false → get_or (spread (dependents ps ls) (order_by ps ls) (set (replicate n false) c true)) s false ≡ is_dependent ps ls c s
    comes apart =
        same_test (get_or (spread (dependents ps ls) (order_by ps ls) (set (replicate n false) c true)) s false) (is_dependent ps ls c s)
        (λ e. found (back (dependents ps ls) (moved (length ps) (dependents ps ls)) fix (order_by ps ls) (set (replicate n false) c true) s e))
        (λ e. by_place (cases_lt c (length ps)) e)
      where
        by_place : (c < length ps) ⊎ (length ps ≤ c) → is_dependent ps ls c s ≡ true → get_or (spread (dependents ps ls) (order_by ps ls) (set (replicate n false) c true)) s false ≡ true
        by_place (inl within) e = starts within e
        by_place (inr past) e = absurd (true≢false (sym e ∙ nothing past apart))

    -- a device is moved with itself
    pub dependent_itself : (c == s) ≡ true → is_dependent ps ls c s ≡ true
    dependent_itself same = subst (λ (x : ℕ). is_dependent ps ls c x ≡ true) (eqb-true c s same) (itself (dependents ps ls) (moved (length ps) (dependents ps ls)) fix c)
