-- What one element's change does to what is seen of each element.
use Rattle.std.proofs.Common.{◌≡◌, ◌<◌, ◌≤◌, ◌+◌, ◌∙◌, ℕ, zero, suc, Result, Ok, Err, OnErr, List, [], ◌∷◌, length, map, get_or, set, refl, sym, ap, subst, arith}
use Rattle.std.proofs.lemmas.List.{map-set, set-get_or, get_or-map, get_or-set_same, length-map}

module _ {A B : Type 0} (f : A → B) (xs : List A) (i : ℕ) (x y : A) (within : i < length xs) (at : x ≡ get_or xs i x) where
  pub seen_at : (d : B) → get_or (map f xs) i d ≡ f x
  seen_at d = get_or-map f xs i x d within ∙ ap f (sym at)

  -- what looks the same leaves all the same
  pub seen_preserved : f y ≡ f x → map f (set xs i y) ≡ map f xs
  seen_preserved same = map-set f xs i y ∙ ap (set (map f xs) i) (same ∙ sym (seen_at (f x))) ∙ set-get_or (map f xs) i (f x)

  -- what looks otherwise changes only that index
  pub seen_set : (d b : B) → f y ≡ b → map f (set xs i y) ≡ set (map f xs) i b
  seen_set d b is = map-set f xs i y ∙ ap (set (map f xs) i) is

  pub seen_new : (d : B) → get_or (map f (set xs i y)) i d ≡ f y
  seen_new d = ap (λ l. get_or l i d) (map-set f xs i y) ∙ get_or-set_same (map f xs) i (f y) d (seen_within)
    where
      seen_within : i < length (map f xs)
      seen_within = rw length-map within

-- ---- capacities

-- a list and a number of each element
module _ {A : Type 0} (f : A → List ℕ) (r : A → ℕ) where
  -- one element that has no less capacity
  pub room_more : (xs : List A) (i : ℕ) (x y : A) → i < length xs → x ≡ get_or xs i x → length (f x) + r x ≤ length (f y) + r y → (d : ℕ)
      → length (get_or (map f xs) d []) + get_or (map r xs) d 0 ≤ length (get_or (map f (set xs i y)) d []) + get_or (map r (set xs i y)) d 0
  room_more [] i x y l at more d = absurd (omega arith)
  room_more (z ∷ zs) zero x y l at more zero = let same : x ≡ z = at in subst (λ (v : A). length (f v) + r v ≤ length (f y) + r y) same more
  room_more (z ∷ zs) zero x y l at more (suc d) = omega arith
  room_more (z ∷ zs) (suc i) x y l at more zero = omega arith
  room_more (z ∷ zs) (suc i) x y l at more (suc d) = room_more zs i x y (omega arith) at more d

  -- the capacity of the element that was put there
  pub room_new : (xs : List A) (i : ℕ) (y : A) → i < length xs → length (get_or (map f (set xs i y)) i []) + get_or (map r (set xs i y)) i 0 ≡ length (f y) + r y
  room_new [] i y l = absurd (omega arith)
  room_new (z ∷ zs) zero y l = refl
  room_new (z ∷ zs) (suc i) y l = room_new zs i y (omega arith)

-- an index whose number is above 0 is within the list
pub above_zero : (xs : List ℕ) (i : ℕ) → 0 < get_or xs i 0 → i < length xs
above_zero [] i h = absurd (omega arith)
above_zero (x ∷ xs) zero h = omega arith
above_zero (x ∷ xs) (suc i) h = omega (arith, above_zero xs i h)

pub within_seen : {A B : Type 0} (f : A → B) (xs : List A) (ys : List B) (i : ℕ) → map f xs ≡ ys → i < length ys → i < length xs
within_seen f xs ys i e h = let n : length xs ≡ length ys = sym (length-map xs f) ∙ ap length e in omega arith

-- what holds in any case holds of an error
pub on_err : {A B P : Type 0} (r : Result A B) → P → OnErr r P
on_err (Ok a) p = tt
on_err (Err b) p = p
