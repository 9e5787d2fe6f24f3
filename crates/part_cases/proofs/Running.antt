-- How often the autosleep work runs.
use Rattle.std.proofs.Common.{ℕ, ◌+◌, ◌≤◌, arith}
use Rattle.sleep_model.specs.declared.entry.Kind.{Kind}
use Rattle.sleep_model.specs.declared.entry.Kind.TheVariants as kind
use Rattle.sleep_model.specs.Autosleep.{runs_after}

-- an entry is one run more at most
pub runs_few : (k : Kind) (before : ℕ) → runs_after k before ≤ before + 1
runs_few kind.AutoRun before = omega arith
runs_few _ before = omega arith
