-- Runs of numbers.
use Rattle.std.proofs.Common.{◌≡◌, ◌+◌, ◌∙◌, ℕ, zero, suc, [], ◌∷◌, ◌++◌, ap, arith}
use Rattle.std.specs.List.{range_with_len}

-- a run of numbers with one more
pub run_push : (a n : ℕ) → range_with_len a n ++ (a + n) ∷ [] ≡ range_with_len a (n + 1)
run_push a zero = let e : a + 0 ≡ a = omega arith in ap (λ k. k ∷ []) e
run_push a (suc n) = let e : a + suc n ≡ a + 1 + n = omega arith in ap (λ xs. a ∷ xs) (ap (λ k. range_with_len (a + 1) n ++ k ∷ []) e ∙ run_push (a + 1) n) ∙ ap (range_with_len a) next
  where
    next : suc (n + 1) ≡ suc n + 1
    next = omega arith
