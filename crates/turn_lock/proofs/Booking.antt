-- Lists of entries with their makers, when entries are added at the end.
use Rattle.std.proofs.Common.{◌≡◌, ℕ, suc, ◌+◌, ◌<◌, ◌≢◌, Bool, true, false, eqb, eq-eqb, ne_eqb, if◌then◌else◌, List, [], ◌∷◌, ◌++◌, length, sym, refl, ap, ◌∙◌, arith}
use Rattle.turn_lock.specs.declared.view.Made.{Made}
use Rattle.turn_lock.specs.Bookings.{made, placed, of_object, made_by, empty, all_by, AreBelow}

module _ {A : Type 0} where
  front : (b : Bool) (m : A) (xs ys zs : List A) → zs ≡ xs ++ ys → (if b then m ∷ zs else zs) ≡ (if b then m ∷ xs else xs) ++ ys
  front true m xs ys zs e = ap (λ l. m ∷ l) e
  front false m xs ys zs e = e

  chosen : (b : Bool) (x y : A) → b ≡ true → (if b then x else y) ≡ x
  chosen b x y e = ap (λ c. if c then x else y) e

  refused : (b : Bool) (x y : A) → b ≡ false → (if b then x else y) ≡ y
  refused b x y e = ap (λ c. if c then x else y) e

module _ {I : Type 0} where
  pub made_by_both : (k i p : ℕ) (es more : List (ℕ × I)) → made_by k i p (es ++ more) ≡ made_by k i p es ++ made_by k i (p + length es) more
  made_by_both k i p [] more = ap (λ q. made_by k i q more) (omega arith)
  made_by_both k i p (e ∷ es) more = let rest = made_by_both k i (p + 1) es more in
      let at : (p + 1) + length es ≡ p + suc (length es) = omega arith in
      front (eqb e.0 k) (made i p e.1) (made_by k i (p + 1) es) (made_by k i (p + suc (length es)) more) (made_by k i (p + 1) (es ++ more)) (rest ∙ ap (λ q. made_by k i (p + 1) es ++ made_by k i q more) at)

  pub made_by_own : (k i p : ℕ) (xs : List I) → made_by k i p (all_by k xs) ≡ placed i p xs
  made_by_own k i p [] = refl
  made_by_own k i p (x ∷ xs) = chosen (eqb k k) (made i p x ∷ made_by k i (p + 1) (all_by k xs)) (made_by k i (p + 1) (all_by k xs)) (eq-eqb k k refl) ∙ ap (λ l. made i p x ∷ l) (made_by_own k i (p + 1) xs)

  pub made_by_other : (k m i p : ℕ) (xs : List I) → k ≢ m → made_by m i p (all_by k xs) ≡ []
  made_by_other k m i p [] other = refl
  made_by_other k m i p (x ∷ xs) other = refused (eqb k m) (made i p x ∷ made_by m i (p + 1) (all_by k xs)) (made_by m i (p + 1) (all_by k xs)) (ne_eqb k m other) ∙ made_by_other k m i (p + 1) xs other

  pub made_by_new : (k i p : ℕ) (es : List (ℕ × I)) → AreBelow k es → made_by k i p es ≡ []
  made_by_new k i p [] below = refl
  made_by_new k i p (e ∷ es) below = let low = below.0 in
      refused (eqb e.0 k) (made i p e.1 ∷ made_by k i (p + 1) es) (made_by k i (p + 1) es) (ne_eqb e.0 k (λ same. omega arith)) ∙ made_by_new k i (p + 1) es below.1

  pub of_object_both : (i : ℕ) (ms more : List (Made I)) → of_object i (ms ++ more) ≡ of_object i ms ++ of_object i more
  of_object_both i [] more = refl
  of_object_both i (m ∷ ms) more = front (eqb m.object i) m (of_object i ms) (of_object i more) (of_object i (ms ++ more)) (of_object_both i ms more)

  pub of_object_own : (i p : ℕ) (xs : List I) → of_object i (placed i p xs) ≡ placed i p xs
  of_object_own i p [] = refl
  of_object_own i p (x ∷ xs) = chosen (eqb i i) (made i p x ∷ of_object i (placed i (p + 1) xs)) (of_object i (placed i (p + 1) xs)) (eq-eqb i i refl) ∙ ap (λ l. made i p x ∷ l) (of_object_own i (p + 1) xs)

  pub of_object_other : (i j p : ℕ) (xs : List I) → i ≢ j → of_object j (placed i p xs) ≡ []
  of_object_other i j p [] other = refl
  of_object_other i j p (x ∷ xs) other = refused (eqb i j) (made i p x ∷ of_object j (placed i (p + 1) xs)) (of_object j (placed i (p + 1) xs)) (ne_eqb i j other) ∙ of_object_other i j (p + 1) xs other

  pub unstamped_both : (es more : List (ℕ × I)) → empty (es ++ more) ≡ empty es ++ empty more
  unstamped_both [] more = refl
  unstamped_both (e ∷ es) more = ap (λ l. e.1 ∷ l) (unstamped_both es more)

  pub unstamped_all : (k : ℕ) (xs : List I) → empty (all_by k xs) ≡ xs
  unstamped_all k [] = refl
  unstamped_all k (x ∷ xs) = ap (λ l. x ∷ l) (unstamped_all k xs)

  pub unstamped_length : (es : List (ℕ × I)) → length (empty es) ≡ length es
  unstamped_length [] = refl
  unstamped_length (e ∷ es) = ap suc (unstamped_length es)

  pub below_both : (n k : ℕ) (es : List (ℕ × I)) (xs : List I) → k < n → AreBelow n es → AreBelow n (es ++ all_by k xs)
  below_both n k [] [] low below = tt
  below_both n k [] (x ∷ xs) low below = (low, below_both n k [] xs low tt)
  below_both n k (e ∷ es) xs low below = (below.0, below_both n k es xs low below.1)

  pub below_more : (n : ℕ) (es : List (ℕ × I)) → AreBelow n es → AreBelow (n + 1) es
  below_more n [] below = tt
  below_more n (e ∷ es) below = let low = below.0 in (omega arith, below_more n es below.1)

  nothing_more : (xs : List (Made I)) (ys : List (Made I)) → ys ≡ [] → xs ++ ys ≡ xs
  nothing_more [] ys e = e
  nothing_more (x ∷ xs) ys e = ap (λ l. x ∷ l) (nothing_more xs ys e)

  -- the maker's list gains what it made
  pub gains : (k i p : ℕ) (ms : List (Made I)) (es : List (ℕ × I)) (xs : List I) → of_object i ms ≡ made_by k i p es
      → of_object i (ms ++ placed i (p + length es) xs) ≡ made_by k i p (es ++ all_by k xs)
  gains k i p ms es xs same = of_object_both i ms (placed i (p + length es) xs)
      ∙ ((λ t. same t ++ of_object_own i (p + length es) xs t)
      ∙ sym (made_by_both k i p es (all_by k xs) ∙ ap (λ l. made_by k i p es ++ l) (made_by_own k i (p + length es) xs)))

  -- what it made of another object stays
  pub keeps_others : (i j q : ℕ) (ms : List (Made I)) (xs : List I) → i ≢ j → of_object j (ms ++ placed i q xs) ≡ of_object j ms
  keeps_others i j q ms xs other = of_object_both j ms (placed i q xs) ∙ nothing_more (of_object j ms) _ (of_object_other i j q xs other)

  -- what another pass made stays
  pub keeps_makers : (k m i p : ℕ) (es : List (ℕ × I)) (xs : List I) → k ≢ m → made_by m i p (es ++ all_by k xs) ≡ made_by m i p es
  keeps_makers k m i p es xs other = made_by_both m i p es (all_by k xs) ∙ nothing_more (made_by m i p es) _ (made_by_other k m i (p + length es) xs other)
