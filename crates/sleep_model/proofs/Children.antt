-- The children of a device in a list of parents that grows.
use Rattle.std.proofs.Common.{◌≡◌, ◌<◌, ◌≤◌, ◌+◌, ◌∙◌, ℕ, suc, Bool, true, false, ◌==◌, List, [], ◌∷◌, ◌++◌, ◌⊎◌, inl, inr, length, Option, Some, None, IfSome, refl, ap, cond, arith}
use Rattle.std.proofs.lemmas.Bool.Decides.{nat_tests}
use Rattle.std.proofs.lemmas.Bool.{false≢true, or_cases, eqb-true}
use Rattle.sleep_model.specs.Links.{AllAmong}
use Rattle.sleep_model.specs.Order.{is_among, is_parent, children_from, EachAfterParent}

-- one more device is the last child of its parent
pub children_push : (d n : ℕ) (ps : List (Option ℕ)) (p : Option ℕ) → children_from d n (ps ++ p ∷ []) ≡ children_from d n ps ++ cond (is_parent d p) ((n + length ps) ∷ []) []
children_push d n [] p = by_test (is_parent d p)
  where
    by_test : (b : Bool) → cond b (n ∷ []) [] ≡ cond b ((n + 0) ∷ []) []
    by_test true = let e : n ≡ n + 0 = omega arith in ap (λ k. k ∷ []) e
    by_test false = refl
children_push d n (q ∷ ps) p = by_test (children_push d (suc n) ps p) (is_parent d q)
  where
    last : suc n + length ps ≡ n + suc (length ps)
    last = omega arith

    by_test : children_from d (suc n) (ps ++ p ∷ []) ≡ children_from d (suc n) ps ++ cond (is_parent d p) ((suc n + length ps) ∷ []) [] → (b : Bool)
        → cond b (n ∷ children_from d (suc n) (ps ++ p ∷ [])) (children_from d (suc n) (ps ++ p ∷ [])) ≡ cond b (n ∷ children_from d (suc n) ps) (children_from d (suc n) ps) ++ cond (is_parent d p) ((n + suc (length ps)) ∷ []) []
    by_test rest true = ap (λ xs. n ∷ xs) (rest ∙ ap (λ k. children_from d (suc n) ps ++ cond (is_parent d p) (k ∷ []) []) last)
    by_test rest false = rest ∙ ap (λ k. children_from d (suc n) ps ++ cond (is_parent d p) (k ∷ []) []) last

-- a device that is not registered has no child
pub children_none : (d n : ℕ) (ps : List (Option ℕ)) → EachAfterParent n ps → n + length ps ≤ d → children_from d n ps ≡ []
children_none d n [] h l = refl
children_none d n (p ∷ ps) h l = by_test (children_none d (suc n) ps h.1 (omega arith)) (is_parent d p) (other p h.0)
  where
    other : (q : Option ℕ) → IfSome q (λ x. x < n) → is_parent d q ≡ false
    other None i = refl
    other (Some x) i = grind (arith, nat_tests)

    by_test : children_from d (suc n) ps ≡ [] → (b : Bool) → b ≡ false → cond b (n ∷ children_from d (suc n) ps) (children_from d (suc n) ps) ≡ []
    by_test rest b e = ap (λ x. cond x (n ∷ children_from d (suc n) ps) (children_from d (suc n) ps)) e ∙ rest

-- one more device after its parent
pub after_parent_push : (n : ℕ) (ps : List (Option ℕ)) (p : Option ℕ) → EachAfterParent n ps → IfSome p (λ q. q < n + length ps) → EachAfterParent n (ps ++ p ∷ [])
after_parent_push n [] p h i = (below p i, tt)
  where
    below : (q : Option ℕ) → IfSome q (λ x. x < n + 0) → IfSome q (λ x. x < n)
    below None j = tt
    below (Some x) j = omega arith
after_parent_push n (q ∷ ps) p h i = (h.0, after_parent_push (suc n) ps p h.1 (below p i))
  where
    below : (r : Option ℕ) → IfSome r (λ x. x < n + suc (length ps)) → IfSome r (λ x. x < suc n + length ps)
    below None j = tt
    below (Some x) j = omega arith

-- children are registered devices
pub children_within : (d n : ℕ) (ps : List (Option ℕ)) (x : ℕ) → is_among (children_from d n ps) x ≡ true → x < n + length ps
children_within d n [] x m = absurd (false≢true m)
children_within d n (p ∷ ps) x m = by_test (children_within d (suc n) ps x) (is_parent d p) m
  where
    by_place : (is_among (children_from d (suc n) ps) x ≡ true → x < suc n + length ps) → ((n == x) ≡ true) ⊎ (is_among (children_from d (suc n) ps) x ≡ true) → x < n + suc (length ps)
    by_place rest (inl e) = let same : n ≡ x = eqb-true n x e in omega arith
    by_place rest (inr e) = let r = rest e in omega arith

    by_test : (is_among (children_from d (suc n) ps) x ≡ true → x < suc n + length ps) → (b : Bool) → is_among (cond b (n ∷ children_from d (suc n) ps) (children_from d (suc n) ps)) x ≡ true → x < n + suc (length ps)
    by_test rest true h = by_place rest (or_cases (n == x) (is_among (children_from d (suc n) ps) x) h)
    by_test rest false h = let r = rest h in omega arith

-- what holds of each device after d holds of its children, as they are registered after it
pub children_after : (su : List ℕ) (d n : ℕ) (ps : List (Option ℕ)) → EachAfterParent n ps → ((c : ℕ) → d < c → c < n + length ps → is_among su c ≡ true) → AllAmong su (children_from d n ps)
children_after su d n [] h f = tt
children_after su d n (p ∷ ps) h f = by_parent (children_after su d (suc n) ps h.1 (λ c l r. f c l (omega arith))) p h.0
  where
    by_test : AllAmong su (children_from d (suc n) ps) → (q : ℕ) → q < n → (b : Bool) → (q == d) ≡ b → AllAmong su (cond b (n ∷ children_from d (suc n) ps) (children_from d (suc n) ps))
    by_test rest q l true e = let same : q ≡ d = grind (arith, nat_tests) in (f n (omega arith) (omega arith), rest)
    by_test rest q l false e = rest

    by_parent : AllAmong su (children_from d (suc n) ps) → (q : Option ℕ) → IfSome q (λ x. x < n) → AllAmong su (cond (is_parent d q) (n ∷ children_from d (suc n) ps) (children_from d (suc n) ps))
    by_parent rest None l = rest
    by_parent rest (Some q) l = by_test rest q l (q == d) refl
