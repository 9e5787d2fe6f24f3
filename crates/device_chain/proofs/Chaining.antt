-- Chains that are climbed from their end, level by level.
use Rattle.std.proofs.Common.{◌≡◌, ◌<◌, ◌≤◌, ◌+◌, ◌-◌, ◌∙◌, ◌==◌, ltb, ℕ, suc, max, Bool, true, false, ◌⊎◌, inl, inr, List, [], ◌∷◌, length, Option, Some, None, refl, sym, ap, subst, cond, arith}
use Rattle.std.proofs.lemmas.Bool.{true≢false, false≢true, eqb-true, eqb-false, or_cases, and_from, cases_lt, lt-ltb}
use Rattle.std.proofs.lemmas.List.{get_or_past}
use Rattle.sleep_model.specs.Order.{is_among}
use Rattle.sleep_model.proofs.Dependents.{among_first, among_rest}
use Rattle.device_links.specs.Linked.{Linked}
use Rattle.device_chain.specs.Chains.{AreLevels, IsLed, above_of, below_of, first_at, first_of, follow, found_after, greatest, is_chain, level_at}
use Rattle.device_chain.proofs.Leveling.{above_below}

-- ---- the first device of a level

-- the number of a device, if there is one
abbrev number : Option ℕ → ℕ
number None = 0
number (Some d) = d

some_none : (d : ℕ) → Some d ≡ None → ⊥
some_none d h = absurd (true≢false (ap is_there h))
  where
    is_there : Option ℕ → Bool
    is_there None = false
    is_there (Some x) = true

-- what is found was found before, or is in the list and has that level
pub found_or : (levels : List ℕ) (k : ℕ) (found : Option ℕ) (ds : List ℕ) (d : ℕ) → first_at levels k found ds ≡ Some d → (found ≡ Some d) ⊎ ((is_among ds d ≡ true) × (level_at levels d ≡ k))
found_or levels k found [] d h = inl h
found_or levels k found (e ∷ ds) d h = by_rest (found_or levels k (found_after levels k found e) ds d h)
  where
    here : e ≡ d → level_at levels e ≡ k → (found ≡ Some d) ⊎ ((is_among (e ∷ ds) d ≡ true) × (level_at levels d ≡ k))
    here s l = inr (ap (is_among (e ∷ ds)) (sym s) ∙ among_first e ds, ap (level_at levels) (sym s) ∙ l)

    by_first : (b : Bool) (x : ℕ) → found ≡ Some x → cond b e x ≡ d → level_at levels e ≡ k → (found ≡ Some d) ⊎ ((is_among (e ∷ ds) d ≡ true) × (level_at levels d ≡ k))
    by_first true x f s l = here s l
    by_first false x f s l = inl (f ∙ ap Some s)

    by_found : (f : Option ℕ) → found ≡ f → first_of f e ≡ d → level_at levels e ≡ k → (found ≡ Some d) ⊎ ((is_among (e ∷ ds) d ≡ true) × (level_at levels d ≡ k))
    by_found None f s l = here s l
    by_found (Some x) f s l = by_first (ltb e x) x f s l

    by_level : (b : Bool) → (level_at levels e == k) ≡ b → cond b (Some (first_of found e)) found ≡ Some d → (found ≡ Some d) ⊎ ((is_among (e ∷ ds) d ≡ true) × (level_at levels d ≡ k))
    by_level false s q = inl q
    by_level true s q = by_found found refl (ap number q) (eqb-true (level_at levels e) k s)

    by_rest : (found_after levels k found e ≡ Some d) ⊎ ((is_among ds d ≡ true) × (level_at levels d ≡ k)) → (found ≡ Some d) ⊎ ((is_among (e ∷ ds) d ≡ true) × (level_at levels d ≡ k))
    by_rest (inr p) = inr (among_rest e ds d p.0, p.1)
    by_rest (inl q) = by_level (level_at levels e == k) refl q

pub found_there : (levels : List ℕ) (k : ℕ) (ds : List ℕ) (d : ℕ) → first_at levels k None ds ≡ Some d → (is_among ds d ≡ true) × (level_at levels d ≡ k)
found_there levels k ds d h = by_place (found_or levels k None ds d h)
  where
    by_place : (None ≡ Some d) ⊎ ((is_among ds d ≡ true) × (level_at levels d ≡ k)) → (is_among ds d ≡ true) × (level_at levels d ≡ k)
    by_place (inl n) = absurd (some_none d (sym n))
    by_place (inr p) = p

-- if none is found, none has that level
pub none_found : (levels : List ℕ) (k : ℕ) (found : Option ℕ) (ds : List ℕ) → first_at levels k found ds ≡ None → (found ≡ None) × ((e : ℕ) → is_among ds e ≡ true → level_at levels e ≡ k → ⊥)
none_found levels k found [] h = (h, λ e m. absurd (false≢true m))
none_found levels k found (x ∷ ds) h =
    let rest = none_found levels k (found_after levels k found x) ds h in
    by_level rest.1 (level_at levels x == k) refl rest.0
  where
    by_place : ((e : ℕ) → is_among ds e ≡ true → level_at levels e ≡ k → ⊥) → (level_at levels x == k) ≡ false → (e : ℕ) → ((x == e) ≡ true) ⊎ (is_among ds e ≡ true) → level_at levels e ≡ k → ⊥
    by_place rest s e (inl q) l = eqb-false (level_at levels x) k s (ap (level_at levels) (eqb-true x e q) ∙ l)
    by_place rest s e (inr m) l = rest e m l

    by_level : ((e : ℕ) → is_among ds e ≡ true → level_at levels e ≡ k → ⊥) → (b : Bool) → (level_at levels x == k) ≡ b → cond b (Some (first_of found x)) found ≡ None → (found ≡ None) × ((e : ℕ) → is_among (x ∷ ds) e ≡ true → level_at levels e ≡ k → ⊥)
    by_level rest true s q = absurd (some_none (first_of found x) q)
    by_level rest false s q = (q, λ e m l. by_place rest s e (or_cases (x == e) (is_among ds e) m) l)

-- ---- the greatest level

-- the greatest is one of the levels
pub greatest_missing : (levels : List ℕ) (k most : ℕ) → (most ≡ k → ⊥) → (ds : List ℕ) → ((e : ℕ) → is_among ds e ≡ true → level_at levels e ≡ k → ⊥) → greatest levels most ds ≡ k → ⊥
greatest_missing levels k most n [] h = n
greatest_missing levels k most n (d ∷ ds) h =
    greatest_missing levels k (max most (level_at levels d)) (λ s. by_order s (cases_lt most (level_at levels d))) ds (λ e m. h e (among_rest d ds e m))
  where
    by_order : max most (level_at levels d) ≡ k → (most < level_at levels d) ⊎ (level_at levels d ≤ most) → ⊥
    by_order s (inl l) = h d (among_first d ds) (omega (arith, s, l))
    by_order s (inr l) = n (omega (arith, s, l))

pub greatest_least : (levels : List ℕ) (most : ℕ) (ds : List ℕ) → most ≤ greatest levels most ds
greatest_least levels most [] = omega arith
greatest_least levels most (d ∷ ds) = let r = greatest_least levels (max most (level_at levels d)) ds in omega (arith, r)

-- the greatest is at least each
pub greatest_over : (levels : List ℕ) (most : ℕ) (ds : List ℕ) (e : ℕ) → is_among ds e ≡ true → level_at levels e ≤ greatest levels most ds
greatest_over levels most [] e m = absurd (false≢true m)
greatest_over levels most (d ∷ ds) e m = by_place (greatest_over levels (max most (level_at levels d)) ds e) (or_cases (d == e) (is_among ds e) m)
  where
    by_place : (is_among ds e ≡ true → level_at levels e ≤ greatest levels (max most (level_at levels d)) ds) → ((d == e) ≡ true) ⊎ (is_among ds e ≡ true) → level_at levels e ≤ greatest levels (max most (level_at levels d)) ds
    by_place rest (inl q) =
        let r = greatest_least levels (max most (level_at levels d)) ds in
        let s : level_at levels d ≡ level_at levels e = ap (level_at levels) (eqb-true d e q) in
        omega (arith, r, s)
    by_place rest (inr n) = rest n

-- a device with a level is one of those that levels are listed of
pub within_levels : (levels : List ℕ) (d : ℕ) → 1 ≤ level_at levels d → d < length levels
within_levels levels d l = by_order (cases_lt d (length levels))
  where
    by_order : (d < length levels) ⊎ (length levels ≤ d) → d < length levels
    by_order (inl h) = h
    by_order (inr h) = let p : level_at levels d ≡ 0 = get_or_past levels d 0 h in omega (arith, l, p)

-- ---- the climb

-- the list begins with that device, which the others follow
abbrev pub Begins : Linked → ℕ → List ℕ → Type 0
Begins l d [] = ⊥
Begins l d (x ∷ xs) = (x ≡ d) × (follow l (Some x) xs ≡ true)

-- a chain that was climbed from its end up to a device of that level
pub record IsClimbed (l : Linked) (levels : List ℕ) (end level first : ℕ) (chain : List ℕ) : Type 0 where
  pub led : IsLed l levels end chain
  pub begins : Begins l first chain
  pub within : first < length l.parents
  pub least : 1 ≤ level
  pub reached : level_at levels first ≡ level
  pub long : level + length chain ≡ level_at levels end + 1

pub climbed_first : (l : Linked) (levels : List ℕ) (end : ℕ) → AreLevels l levels → end < length l.parents → IsClimbed l levels end (level_at levels end) end (end ∷ [])
climbed_first l levels end a w = record {
  led = refl;
  begins = (refl, refl);
  within = w;
  least = let s : level_at levels end ≡ suc (greatest levels 0 (above_of l end)) = a.each end w in omega (arith, s);
  reached = refl;
  long = refl;
}

pub climbed_next : (l : Linked) (levels : List ℕ) (end level first d : ℕ) (chain : List ℕ) → AreLevels l levels → 1 ≤ level
    → IsClimbed l levels end (level + 1) first chain → first_at levels level None (above_of l first) ≡ Some d → IsClimbed l levels end level d (d ∷ chain)
climbed_next l levels end level first d [] a h c f = absurd c.begins
climbed_next l levels end level first d (x ∷ xs) a h c f = record {
  led = (subst (λ (y : ℕ). first_at levels (level_at levels y - 1) None (above_of l y) ≡ Some d) (sym c.begins.0) (subst (λ (k : ℕ). first_at levels k None (above_of l first) ≡ Some d) lower f), c.led);
  begins = (refl, and_from (is_among (below_of l d) x) (follow l (Some x) xs) (subst (λ (y : ℕ). is_among (below_of l d) y ≡ true) (sym c.begins.0) (above_below l d first c.within there.0)) c.begins.1);
  within = subst (λ (n : ℕ). d < n) a.count (within_levels levels d (let s = there.1 in omega (arith, s, h)));
  least = h;
  reached = there.1;
  long = let g = c.long in omega (arith, g);
}
  where
    there : (is_among (above_of l first) d ≡ true) × (level_at levels d ≡ level)
    there = found_there levels level (above_of l first) d f

    lower : level ≡ level_at levels first - 1
    lower = let r = c.reached in omega (arith, r)

pub climbed_chain : (l : Linked) (levels : List ℕ) (end level first : ℕ) (chain : List ℕ) → IsClimbed l levels end level first chain → is_chain l chain ≡ true
climbed_chain l levels end level first [] c = refl
climbed_chain l levels end level first (x ∷ xs) c =
    and_from (ltb x (length l.parents)) (follow l (Some x) xs) (lt-ltb x (length l.parents) (subst (λ (y : ℕ). y < length l.parents) (sym c.begins.0) c.within)) c.begins.1

-- a device of a level above 1 has one right above it of a level one less
pub climbs : (l : Linked) (levels : List ℕ) (level first : ℕ) → AreLevels l levels → 1 ≤ level → first < length l.parents → level_at levels first ≡ level + 1 → first_at levels level None (above_of l first) ≡ None → ⊥
climbs l levels level first a h w r n =
    greatest_missing levels level 0 (λ z. let q = z in omega (arith, q, h)) (above_of l first) (none_found levels level None (above_of l first) n).1
    (let s : level_at levels first ≡ suc (greatest levels 0 (above_of l first)) = a.each first w in omega (arith, s, r))
