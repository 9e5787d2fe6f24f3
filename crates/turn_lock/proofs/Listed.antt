-- The list of a pass that holds an object, as it will be once the object is back. The tests keep such a list.
use Rattle.std.proofs.Common.{◌≡◌, ℕ, ◌+◌, List, [], ◌∷◌, ◌++◌, length, drop, sym, ap, ◌∙◌, arith, append_assoc, length-append}
use Rattle.std.proofs.Math.Seq.{drop-append_seam}
use Rattle.turn_lock.specs.declared.view.Made.{Made}
use Rattle.turn_lock.specs.Bookings.{made, placed}

module _ {I : Type 0} where
  placed_end : (object place : ℕ) (xs : List I) (x : I) → placed object place (xs ++ x ∷ []) ≡ placed object place xs ++ made object (place + length xs) x ∷ []
  placed_end object place [] x = let e : place ≡ place + 0 = omega arith in ap (λ n. made object n x ∷ []) e
  placed_end object place (y ∷ ys) x =
      let e : (place + 1) + length ys ≡ place + length (y ∷ ys) = omega arith in
      ap (λ l. made object place y ∷ l) (placed_end object (place + 1) ys x ∙ ap (λ n. placed object (place + 1) ys ++ made object n x ∷ []) e)

  -- once one more is at the end
  whole_more : (had old now : List I) (x : I) → had ++ drop (length had) old ≡ old → now ≡ old ++ x ∷ [] → now ≡ had ++ (drop (length had) old ++ x ∷ [])
  whole_more had old now x grown e = e ∙ (ap (λ l. l ++ x ∷ []) (sym grown) ∙ append_assoc had (drop (length had) old) (x ∷ []))

  rest_more : (had old now : List I) (x : I) → had ++ drop (length had) old ≡ old → now ≡ old ++ x ∷ [] → drop (length had) now ≡ drop (length had) old ++ x ∷ []
  rest_more had old now x grown e = ap (drop (length had)) (whole_more had old now x grown e) ∙ drop-append_seam had (drop (length had) old ++ x ∷ [])

  pub grown_more : (had old now : List I) (x : I) → had ++ drop (length had) old ≡ old → now ≡ old ++ x ∷ [] → had ++ drop (length had) now ≡ now
  grown_more had old now x grown e = ap (λ l. had ++ l) (rest_more had old now x grown e) ∙ sym (whole_more had old now x grown e)

  pub listed_more : (object place : ℕ) (had old now : List I) (x : I) (before ms ns : List (Made I)) → had ++ drop (length had) old ≡ old → now ≡ old ++ x ∷ [] → place ≡ length old
      → ms ≡ before ++ placed object (length had) (drop (length had) old) → ns ≡ ms ++ made object place x ∷ [] → ns ≡ before ++ placed object (length had) (drop (length had) now)
  listed_more object place had old now x before ms ns grown e at listed f =
      let rest = drop (length had) old in
      let sum : length old ≡ length had + length rest = sym (ap length grown) ∙ length-append had rest in
      f ∙ (ap (λ l. l ++ made object place x ∷ []) listed ∙ (append_assoc before (placed object (length had) rest) (made object place x ∷ [])
      ∙ ap (λ l. before ++ l) (ap (λ n. placed object (length had) rest ++ made object n x ∷ []) (at ∙ sum)
      ∙ (sym (placed_end object (length had) rest x) ∙ ap (placed object (length had)) (sym (rest_more had old now x grown e))))))
