-- A walk over all that hangs below a device, and the positions that it leaves.
use Rattle.std.proofs.Common.{◌≡◌, ◌≤◌, ◌+◌, ◌∙◌, ℕ, zero, suc, Bool, true, false, ◌==◌, ◌||◌, List, [], ◌∷◌, ◌++◌, ◌⊎◌, inl, inr, length, refl, sym, ap, subst, cond, arith, length-append}
use Rattle.std.specs.List.{flat_map}
use Rattle.std.proofs.lemmas.Bool.{false≢true, eqb-true, or_cases, or_right, false_from_ne_true}
use Rattle.std.proofs.Math.Bool.{or_assoc, or-false}
use Rattle.sleep_model.specs.Links.{AllAmong}
use Rattle.sleep_model.specs.Order.{is_among, last_occurrences}
use Rattle.sleep_model.specs.Links.{LeadsTo}
use Rattle.sleep_model.proofs.Walks.{same_eq}

-- ---- what is among a list

pub among_app : (xs ys : List ℕ) (d : ℕ) → is_among (xs ++ ys) d ≡ (is_among xs d || is_among ys d)
among_app [] ys d = refl
among_app (x ∷ xs) ys d = ap (λ b. (x == d) || b) (among_app xs ys d) ∙ sym (or_assoc (x == d) (is_among xs d) (is_among ys d))

-- the first is among, and what is among the rest
pub among_first : (x : ℕ) (xs : List ℕ) → is_among (x ∷ xs) x ≡ true
among_first x xs = ap (λ b. b || is_among xs x) (same_eq x)

pub among_rest : (x : ℕ) (xs : List ℕ) (d : ℕ) → is_among xs d ≡ true → is_among (x ∷ xs) d ≡ true
among_rest x xs d h = or_right (x == d) (is_among xs d) h

-- each of these is among those
abbrev pub Within : List ℕ → List ℕ → Type 0
Within xs those = (d : ℕ) → is_among xs d ≡ true → is_among those d ≡ true

pub within_of : (those xs : List ℕ) → AllAmong those xs → Within xs those
within_of those [] h d m = absurd (false≢true m)
within_of those (x ∷ xs) h d m = by_test (within_of those xs h.1 d) (or_cases (x == d) (is_among xs d) m)
  where
    by_test : (is_among xs d ≡ true → is_among those d ≡ true) → ((x == d) ≡ true) ⊎ (is_among xs d ≡ true) → is_among those d ≡ true
    by_test rest (inl e) = subst (λ (y : ℕ). is_among those y ≡ true) (eqb-true x d e) h.0
    by_test rest (inr e) = rest e

pub all_of : (those xs : List ℕ) → Within xs those → AllAmong those xs
all_of those [] h = tt
all_of those (x ∷ xs) h = (h x (among_first x xs), all_of those xs (λ d m. h d (among_rest x xs d m)))

-- ---- last positions

-- d before these, if it is not among them
abbrev pub put : List ℕ → ℕ → List ℕ
put out d = cond (is_among out d) out (d ∷ out)

-- these before those, each only at its last position
abbrev pub onto : List ℕ → List ℕ → List ℕ
onto [] out = out
onto (x ∷ xs) out = put (onto xs out) x

pub onto_app : (xs ys out : List ℕ) → onto (xs ++ ys) out ≡ onto xs (onto ys out)
onto_app [] ys out = refl
onto_app (x ∷ xs) ys out = ap (λ o. put o x) (onto_app xs ys out)

among_put : (out : List ℕ) (x d : ℕ) → is_among (put out x) d ≡ ((x == d) || is_among out d)
among_put out x d = by_test (is_among out x) refl (x == d) refl
  where
    by_test : (b : Bool) → is_among out x ≡ b → (c : Bool) → (x == d) ≡ c → is_among (cond b out (x ∷ out)) d ≡ ((x == d) || is_among out d)
    by_test false e c f = refl
    by_test true e true f = subst (λ (y : ℕ). is_among out y ≡ true) (eqb-true x d f) e ∙ sym (ap (λ y. y || is_among out d) f)
    by_test true e false f = sym (ap (λ y. y || is_among out d) f)

pub among_onto : (xs out : List ℕ) (d : ℕ) → is_among (onto xs out) d ≡ (is_among xs d || is_among out d)
among_onto [] out d = refl
among_onto (x ∷ xs) out d = among_put (onto xs out) x d ∙ (ap (λ b. (x == d) || b) (among_onto xs out d) ∙ sym (or_assoc (x == d) (is_among xs d) (is_among out d)))

-- taking each last position is putting them before nothing
pub last_onto : (xs : List ℕ) → last_occurrences xs ≡ onto xs []
last_onto [] = refl
last_onto (x ∷ xs) = ap (λ o. cond (is_among xs x) o (x ∷ o)) (last_onto xs) ∙ ap (λ b. cond b (onto xs []) (x ∷ onto xs [])) (sym (among_onto xs [] x ∙ or-false (is_among xs x)))

-- what is there already is not put again
pub onto_same : (xs out : List ℕ) → Within xs out → onto xs out ≡ out
onto_same [] out h = refl
onto_same (x ∷ xs) out h =
    ap (λ o. put o x) (onto_same xs out (λ d m. h d (among_rest x xs d m)))
    ∙ ap (λ b. cond b out (x ∷ out)) (h x (among_first x xs))

-- ---- a walk below a device

module _ (dependents_of : ℕ → List ℕ) where
  -- W gives the device, then all that hangs below it, each with its own
  abbrev pub Descends : (ℕ → List ℕ) → Type 0
  Descends W = (d : ℕ) → W d ≡ d ∷ flat_map W (dependents_of d)

  -- these with each that hangs right below one of them
  abbrev pub IsClosed : List ℕ → Type 0
  IsClosed out = (d : ℕ) → is_among out d ≡ true → Within (dependents_of d) out

  module _ (W : ℕ → List ℕ) (fix : Descends W) where
    -- one of these, or one that hangs below one of them
    in_flat : (k x : ℕ) → ((d : ℕ) → length (W d) ≤ k → is_among (W d) x ≡ true → length (W x) ≤ length (W d)) → (cs : List ℕ) → length (flat_map W cs) ≤ k → is_among (flat_map W cs) x ≡ true → length (W x) ≤ length (flat_map W cs)
    in_flat k x rec [] l m = absurd (false≢true m)
    in_flat k x rec (c ∷ cs) l m = by_place (λ l' m'. in_flat k x rec cs l' m') (or_cases (is_among (W c) x) (is_among (flat_map W cs) x) (sym (among_app (W c) (flat_map W cs) x) ∙ m))
      where
        len : length (W c ++ flat_map W cs) ≡ length (W c) + length (flat_map W cs)
        len = length-append (W c) (flat_map W cs)

        by_place : (length (flat_map W cs) ≤ k → is_among (flat_map W cs) x ≡ true → length (W x) ≤ length (flat_map W cs)) → (is_among (W c) x ≡ true) ⊎ (is_among (flat_map W cs) x ≡ true) → length (W x) ≤ length (W c ++ flat_map W cs)
        by_place rest (inl h) = let r = rec c (omega (arith, len)) h in omega (arith, len, r)
        by_place rest (inr h) = let r = rest (omega (arith, len)) h in omega (arith, len, r)

    -- what hangs below a device has no more below it
    no_longer : (k d x : ℕ) → length (W d) ≤ k → is_among (W d) x ≡ true → length (W x) ≤ length (W d)
    no_longer zero d x l m = let e = ap length (fix d) in absurd (omega arith)
    no_longer (suc k) d x l m = by_test (or_cases (d == x) (is_among (flat_map W (dependents_of d)) x) (subst (λ (ys : List ℕ). is_among ys x ≡ true) (fix d) m)) (λ d' l' m'. no_longer k d' x l' m')
      where
        len : length (W d) ≡ suc (length (flat_map W (dependents_of d)))
        len = ap length (fix d)

        by_test : ((d == x) ≡ true) ⊎ (is_among (flat_map W (dependents_of d)) x ≡ true) → ((d' : ℕ) → length (W d') ≤ k → is_among (W d') x ≡ true → length (W x) ≤ length (W d')) → length (W x) ≤ length (W d)
        by_test (inl e) rec = let same : d ≡ x = eqb-true d x e in let r : length (W x) ≡ length (W d) = ap (λ y. length (W y)) (sym same) in omega (arith, r)
        by_test (inr h) rec = let r = in_flat k x rec (dependents_of d) (omega (arith, len)) h in omega (arith, len, r)

    -- no device hangs below itself
    pub not_below_itself : (d : ℕ) → is_among (flat_map W (dependents_of d)) d ≡ false
    not_below_itself d = false_from_ne_true _ (λ m. too_long (in_flat (length (W d)) d (λ c l h. no_longer (length (W d)) c d l h) (dependents_of d) (omega (arith, ap length (fix d))) m))
      where
        too_long : length (W d) ≤ length (flat_map W (dependents_of d)) → ⊥
        too_long l = let e = ap length (fix d) in absurd (omega (arith, e, l))

    each_in : (k : ℕ) (out : List ℕ) (x : ℕ) → ((c : ℕ) → length (W c) ≤ k → is_among out c ≡ true → Within (W c) out) → (cs : List ℕ) → length (flat_map W cs) ≤ k → Within cs out → is_among (flat_map W cs) x ≡ true → is_among out x ≡ true
    each_in k out x rec [] l i n = absurd (false≢true n)
    each_in k out x rec (c ∷ cs) l i n = by_place (λ l' i' n'. each_in k out x rec cs l' i' n') (or_cases (is_among (W c) x) (is_among (flat_map W cs) x) (sym (among_app (W c) (flat_map W cs) x) ∙ n))
      where
        by_place : (length (flat_map W cs) ≤ k → Within cs out → is_among (flat_map W cs) x ≡ true → is_among out x ≡ true) → (is_among (W c) x ≡ true) ⊎ (is_among (flat_map W cs) x ≡ true) → is_among out x ≡ true
        by_place rest (inl p) = rec c (omega (arith, length-append (W c) (flat_map W cs))) (i c (among_first c cs)) x p
        by_place rest (inr p) = rest (omega (arith, length-append (W c) (flat_map W cs))) (λ y q. i y (among_rest c cs y q)) p

    -- with a device all that hangs below it is among a closed list
    all_in : (k : ℕ) (out : List ℕ) → IsClosed out → (d : ℕ) → length (W d) ≤ k → is_among out d ≡ true → Within (W d) out
    all_in zero out h d l m = let e = ap length (fix d) in absurd (omega arith)
    all_in (suc k) out h d l m = λ x n. by_test x (or_cases (d == x) (is_among (flat_map W (dependents_of d)) x) (subst (λ (ys : List ℕ). is_among ys x ≡ true) (fix d) n)) (λ c l' m'. all_in k out h c l' m')
      where
        len : length (W d) ≡ suc (length (flat_map W (dependents_of d)))
        len = ap length (fix d)

        by_test : (x : ℕ) → ((d == x) ≡ true) ⊎ (is_among (flat_map W (dependents_of d)) x ≡ true) → ((c : ℕ) → length (W c) ≤ k → is_among out c ≡ true → Within (W c) out) → is_among out x ≡ true
        by_test x (inl e) rec = subst (λ (y : ℕ). is_among out y ≡ true) (eqb-true d x e) m
        by_test x (inr n) rec = each_in k out x rec (dependents_of d) (omega (arith, len)) (h d m) n

    -- a device that was walked is not walked again
    pub visited : (out : List ℕ) → IsClosed out → (d : ℕ) → is_among out d ≡ true → onto (W d) out ≡ out
    visited out h d m = onto_same (W d) out (all_in (length (W d)) out h d (omega arith) m)

    -- a device that was not walked comes before all that hangs below it
    pub visits : (out : List ℕ) (d : ℕ) → is_among out d ≡ false → onto (W d) out ≡ d ∷ onto (flat_map W (dependents_of d)) out
    visits out d n =
        ap (λ ys. onto ys out) (fix d)
        ∙ ap (λ b. cond b (onto (flat_map W (dependents_of d)) out) (d ∷ onto (flat_map W (dependents_of d)) out))
        (among_onto (flat_map W (dependents_of d)) out d ∙ (ap (λ b. b || is_among out d) (not_below_itself d) ∙ n))

    pub among_flat : (e : ℕ) (cs : List ℕ) (c : ℕ) → is_among cs c ≡ true → is_among (W c) e ≡ true → is_among (flat_map W cs) e ≡ true
    among_flat e [] c m n = absurd (false≢true m)
    among_flat e (b ∷ cs) c m n = among_app (W b) (flat_map W cs) e ∙ by_test (λ p. among_flat e cs c p n) (or_cases (b == c) (is_among cs c) m)
      where
        by_test : (is_among cs c ≡ true → is_among (flat_map W cs) e ≡ true) → ((b == c) ≡ true) ⊎ (is_among cs c ≡ true) → (is_among (W b) e || is_among (flat_map W cs) e) ≡ true
        by_test rest (inl p) = ap (λ y. y || is_among (flat_map W cs) e) (subst (λ (y : ℕ). is_among (W y) e ≡ true) (sym (eqb-true b c p)) n)
        by_test rest (inr p) = or_right (is_among (W b) e) (is_among (flat_map W cs) e) (rest p)

    -- what a path leads to hangs below
    pub leads_below : (d : ℕ) (xs : List ℕ) (e : ℕ) → LeadsTo dependents_of d xs e → is_among (W d) e ≡ true
    leads_below d [] e h = subst (λ (ys : List ℕ). is_among ys e ≡ true) (sym (fix d)) (subst (λ (y : ℕ). is_among (d ∷ flat_map W (dependents_of d)) y ≡ true) h (among_first d (flat_map W (dependents_of d))))
    leads_below d (x ∷ xs) e h = subst (λ (ys : List ℕ). is_among ys e ≡ true) (sym (fix d)) (among_rest d (flat_map W (dependents_of d)) e (among_flat e (dependents_of d) x h.0 (leads_below x xs e h.1)))
