-- What the fields of the plans are.
use Rattle.std.specs.Prelude.{◌≡◌, ℕ, length, map}
use Rattle.sleep_model.specs.declared.machine.Machine.{Machine}
use Rattle.script_plan.specs.CallPlans.{with_source}
use Rattle.check_sources.specs.declared.plans.Plans.TheInside.{Inside}

-- plans are seen as their machine (own)
abbrev pub planned : Inside → Machine
planned p = p.machine.now

-- the operations and the calls are those of its scripts, and the answers its own (own)
pub record ArePlans (p : Inside) : Type 0 where
  pub scripts : p.scripts.items ≡ map (with_source (length p.machine.now.sources)) p.machine.now.actors
  pub answers : p.answers ≡ p.machine.now

-- the fields are the plans and the answers of the machine (own)
abbrev pub check_plans_invariant : Inside → Type 0
check_plans_invariant p = ArePlans p
