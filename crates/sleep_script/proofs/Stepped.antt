-- What a job's fields say after a call.
use Rattle.std.proofs.Common.{◌≡◌, ◌∙◌, ◌<◌, ◌+◌, ◌++◌, ℕ, zero, suc, List, [], ◌∷◌, length, map, drop, slice_get, Some, None, refl, sym, ap, arith, get_or, length-drop}
use Rattle.std.proofs.lemmas.List.{drop-drop, length-map}
use Rattle.std.proofs.lemmas.Option.{slice_get-map, slice_get-get_or}
use Rattle.std.specs.Option.{option_map}
use Rattle.sleep_model.specs.declared.entry.Kind.{Kind}
use Rattle.sleep_model.specs.declared.machine.Report.{Report}
use Rattle.script_plan.specs.CallPlans.{noted}

-- ---- the next call

first_after : (n : ℕ) (xs : List Kind) → slice_get xs n ≡ slice_get (drop n xs) 0
first_after zero [] = refl
first_after zero (x ∷ xs) = refl
first_after (suc n) [] = refl
first_after (suc n) (x ∷ xs) = first_after n xs

-- if a call is left and no report, one of the own calls is left
own_left : (own : List Report) (made : ℕ) (xs : List Kind) → map noted own ≡ xs → 0 < length (drop made xs) → made < length own
own_left own made xs are some = omega (arith, some, length-drop made xs, sym (ap length are) ∙ length-map own noted)

-- and that is the next call
pub own_next : (rs own : List Report) (made : ℕ) (xs : List Kind) (r : Report) → None ≡ slice_get rs 0 → map noted own ≡ xs → 0 < length (map noted rs ++ drop made xs)
    → slice_get (map noted rs ++ drop made xs) 0 ≡ Some (noted (get_or own made r))
own_next [] own made xs r none are some =
    sym (first_after made xs)
    ∙ (ap (λ ys. slice_get ys made) (sym are) ∙ (slice_get-map noted own made ∙ ap (option_map noted) (slice_get-get_or own made r (own_left own made xs are some))))
own_next (x ∷ rs) own made xs r none are some = cc

-- ---- after a call

-- an own call was made
pub own_made : (rs : List Report) (made : ℕ) (xs : List Kind) → length rs ≡ 0 → map noted rs ++ drop (made + 1) xs ≡ drop 1 (map noted rs ++ drop made xs)
own_made [] made xs none = sym (drop-drop 1 made xs)
own_made (r ∷ rs) made xs none = absurd (omega (arith, none))
