-- The indices of keys in a list.
use Rattle.std.proofs.Common.{◌≡◌, ◌<◌, ◌+◌, ◌∙◌, ℕ, suc, Bool, true, false, not, cond, nat_lt, List, ◌∷◌, length, drop, get_or, position, Option, Some, None, refl, sym, ap, arith, drop-cons}
use Rattle.std.specs.Cmp.{IsEquivalence}
use Rattle.std.specs.List.{position_or_len}
use Rattle.std.specs.Option.{option_map}
use Rattle.std.proofs.lemmas.Bool.Decides.{nat_tests}
use Rattle.std.proofs.Math.Seq.{drop-length}

found_case : (b c : Bool) (n m : ℕ) → nat_lt n m ≡ c →
    cond (nat_lt (cond (not b) (1 + n) 0) (suc m)) (Some (cond (not b) (1 + n) 0)) None ≡ cond b (Some 0) (option_map suc (cond c (Some n) None))
found_case true c n m e = let z : nat_lt 0 (suc m) ≡ true = grind (arith, nat_tests) in rw z refl
found_case false true n m e = let z : nat_lt (1 + n) (suc m) ≡ true = grind (arith, nat_tests) in let s : 1 + n ≡ suc n = omega arith in rw (z, s) refl
found_case false false n m e = let z : nat_lt (1 + n) (suc m) ≡ false = grind (arith, nat_tests) in rw z refl

-- the first index in a list with one more at its front
pub position_cons : {X : Type 0} (p : X → Bool) (x : X) (xs : List X) → position p (x ∷ xs) ≡ cond (p x) (Some 0) (option_map suc (position p xs))
position_cons p x xs = found_case (p x) (nat_lt (position_or_len p xs) (length xs)) (position_or_len p xs) (length xs) refl

module _ {K : Type 0} (eq : K → K → Bool) (laws : IsEquivalence eq) where
  -- the first index of a key from number i on
  abbrev pub placed : List K → ℕ → K → Option ℕ
  placed keys i q = option_map (λ j. i + j) (position (eq q) (drop i keys))

  shifted : (b : Bool) (i : ℕ) (o : Option ℕ) → option_map (λ j. i + j) (cond b (Some 0) (option_map suc o)) ≡ cond b (Some i) (option_map (λ j. i + 1 + j) o)
  shifted true i o = let z : i + 0 ≡ i = omega arith in rw z refl
  shifted false i None = refl
  shifted false i (Some j) = let z : i + suc j ≡ i + 1 + j = omega arith in rw z refl

  -- one key more at the front, put over what was found
  pub placed_more : (keys : List K) (i : ℕ) (k : K) → i < length keys → k ≡ get_or keys i k → (at more : K → Option ℕ) → ((q : K) → at q ≡ placed keys (i + 1) q) →
      ((q : K) → more q ≡ cond (eq k q) (Some i) (at q)) → (q : K) → more q ≡ placed keys i q
  placed_more keys i k within is at more h update q =
      let next : suc i ≡ i + 1 = omega arith in
      let split : drop i keys ≡ k ∷ drop (i + 1) keys = drop-cons keys i k within ∙ ap (λ x. x ∷ drop (suc i) keys) (sym is) ∙ ap (λ n. k ∷ drop n keys) next in
      update q ∙ ap (cond (eq k q) (Some i)) (h q)
      ∙ ap (λ b. cond b (Some i) (placed keys (i + 1) q)) (laws.symm k q)
      ∙ sym (shifted (eq q k) i (position (eq q) (drop (i + 1) keys)))
      ∙ sym (ap (option_map (λ j. i + j)) (ap (position (eq q)) split ∙ position_cons (eq q) k (drop (i + 1) keys)))

module _ {K : Type 0} (eq : K → K → Bool) (laws : IsEquivalence eq) where
  plain : (o : Option ℕ) → option_map (λ j. 0 + j) o ≡ o
  plain None = refl
  plain (Some j) = let z : 0 + j ≡ j = omega arith in rw z refl

  -- from the first key on
  pub placed_all : (keys : List K) (i : ℕ) → i ≡ 0 → (q : K) → placed eq laws keys i q ≡ position (eq q) keys
  placed_all keys i e q = rw e (plain (position (eq q) keys))

  -- from after the last key on
  pub placed_none : (keys : List K) (q : K) → placed eq laws keys (length keys) q ≡ None
  placed_none keys q = rw (drop-length keys) refl
