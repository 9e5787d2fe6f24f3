-- Proof that `Name::of_bytes` keeps the invariant of its type.
use Rattle.std.proofs.Common.{◌≤◌, ◌++◌, ℕ, List, length, drop, replicate, sym, subst, arith}
use Rattle.std.proofs.lemmas.Bool.Decides.{nat_tests}
use Rattle.sleep_model.specs.NameBytes.{IsPadded}
use Rattle.sleep_model.proofs.Padding.{padded_name}
use Rattle.sleep_model.proofs.name.Name.of_bytes.Goals as goal

pub invariant_of-result : goal.invariant_of-result
invariant_of-result c =
    let bs = c.args.bytes.now in
    let some : 1 ≤ length bs = grind (arith, nat_tests) in
    let few : length bs ≤ 32 = omega arith in
    subst (λ (xs : List ℕ). IsPadded (xs ++ drop (length bs) (replicate {A = ℕ} 32 0)) (length bs)) (sym c.copy_from_slice.ensures.after) (padded_name bs some few)
