-- The next call of an actor, after those before its first turn.
use Rattle.std.proofs.Common.{◌≡◌, ◌≤◌, ◌+◌, ◌-◌, ◌++◌, ◌∙◌, ℕ, zero, suc, List, [], ◌∷◌, length, map, refl, ap, sym, arith, slice_get}
use Rattle.sleep_model.specs.declared.entry.Kind.{Kind}
use Rattle.sleep_model.specs.declared.machine.Report.{Report}
use Rattle.script_plan.specs.CallPlans.{noted}

shift : (xs ys : List Kind) (n k : ℕ) → n ≡ length xs + k → slice_get (xs ++ ys) n ≡ slice_get ys k
shift [] ys n k e = let s : n ≡ k = omega (arith, e) in ap (slice_get ys) s
shift (x ∷ xs) ys zero k e = absurd (omega (arith, e))
shift (x ∷ xs) ys (suc n) k e = shift xs ys n k (omega (arith, e))

noted_len : (first : List Report) → length (map noted first) ≡ length first
noted_len [] = refl
noted_len (r ∷ rs) = ap suc (noted_len rs)

pub after_first_noted : (first : List Report) (all rest : List Kind) (n : ℕ) → map noted first ≡ all → length first ≤ n → slice_get (all ++ rest) n ≡ slice_get rest (n - length first)
after_first_noted first all rest n e l =
    let s : length all ≡ length first = ap length (sym e) ∙ noted_len first in
    shift all rest n (n - length first) (omega (arith, s, l))
