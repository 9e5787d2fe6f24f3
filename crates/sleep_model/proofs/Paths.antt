-- What is moved with a device, and what paths from it lead to.
use Rattle.std.proofs.Common.{◌≡◌, ◌∙◌, ℕ, zero, suc, Bool, true, false, ◌==◌, List, [], ◌∷◌, ◌⊎◌, inl, inr, refl, sym, subst}
use Rattle.std.specs.List.{flat_map}
use Rattle.std.proofs.lemmas.Bool.{false≢true, eqb-true, or_cases}
use Rattle.std.proofs.Math.Bool.{or-false}
use Rattle.sleep_model.specs.Order.{is_among, moved}
use Rattle.sleep_model.specs.Links.{LeadsTo, IsPath}
use Rattle.sleep_model.proofs.Dependents.{among_app, among_first, among_rest, Descends, leads_below}

module _ (dependents_of : ℕ → List ℕ) where
  not_moved : (n d e : ℕ) → ((xs : List ℕ) → LeadsTo dependents_of d xs e → ⊥) → is_among (moved n dependents_of d) e ≡ true → ⊥
  not_moved zero d e none m = none [] (eqb-true d e (sym (or-false (d == e)) ∙ m))
  not_moved (suc n) d e none m = by_place (λ c i. not_moved n c e (λ xs p. none (c ∷ xs) (i, p))) (or_cases (d == e) (is_among (flat_map (moved n dependents_of) (dependents_of d)) e) m)
    where
      each : (cs : List ℕ) → ((c : ℕ) → is_among cs c ≡ true → is_among (moved n dependents_of c) e ≡ true → ⊥) → is_among (flat_map (moved n dependents_of) cs) e ≡ true → ⊥
      each [] g k = false≢true k
      each (c ∷ cs) g k = by_first (each cs (λ y i. g y (among_rest c cs y i))) (or_cases (is_among (moved n dependents_of c) e) (is_among (flat_map (moved n dependents_of) cs) e) (sym (among_app (moved n dependents_of c) (flat_map (moved n dependents_of) cs) e) ∙ k))
        where
          by_first : (is_among (flat_map (moved n dependents_of) cs) e ≡ true → ⊥) → (is_among (moved n dependents_of c) e ≡ true) ⊎ (is_among (flat_map (moved n dependents_of) cs) e ≡ true) → ⊥
          by_first rest (inl p) = g c (among_first c cs) p
          by_first rest (inr p) = rest p

      by_place : ((c : ℕ) → is_among (dependents_of d) c ≡ true → is_among (moved n dependents_of c) e ≡ true → ⊥) → ((d == e) ≡ true) ⊎ (is_among (flat_map (moved n dependents_of) (dependents_of d)) e ≡ true) → ⊥
      by_place g (inl s) = none [] (eqb-true d e s)
      by_place g (inr k) = each (dependents_of d) g k

  -- if no path leads from a device to another, that one is not moved with it
  pub no_path_moved : (n from to : ℕ) → ((path : List ℕ) → IsPath dependents_of path from to → ⊥) → is_among (moved n dependents_of from) to ≡ false
  no_path_moved n from to none = by_test (is_among (moved n dependents_of from) to) refl
    where
      by_test : (b : Bool) → is_among (moved n dependents_of from) to ≡ b → b ≡ false
      by_test false e = refl
      by_test true e = absurd (not_moved n from to (λ xs p. none (from ∷ xs) (refl, p)) e)

  -- if a path leads there, it hangs below
  pub path_below : (W : ℕ → List ℕ) → Descends dependents_of W → (path : List ℕ) (from to : ℕ) → IsPath dependents_of path from to → is_among (W from) to ≡ true
  path_below W fix [] from to p = absurd p
  path_below W fix (x ∷ xs) from to p = subst (λ (y : ℕ). is_among (W y) to ≡ true) p.0 (leads_below dependents_of W fix x xs to p.1)
