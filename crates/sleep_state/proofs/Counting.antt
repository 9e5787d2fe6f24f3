-- How far one entry counts.
use Rattle.std.proofs.Common.{ℕ, ◌+◌, ◌≤◌, arith}
use Rattle.sleep_model.specs.declared.entry.Kind.{Kind}
use Rattle.sleep_model.specs.declared.entry.Kind.TheVariants as kind
use Rattle.sleep_model.specs.Path.{attempts_after}

-- an entry begins one attempt at most
pub attempts_few : (k : Kind) (before : ℕ) → attempts_after k before ≤ before + 1
attempts_few (kind.Attempt n guarded) before = omega arith
attempts_few _ before = omega arith
