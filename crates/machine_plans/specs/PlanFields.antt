-- What the fields of a machine's plans are.
use Rattle.std.specs.Prelude.{◌≡◌, length, map}
use Rattle.sleep_model.specs.declared.machine.Machine.{Machine}
use Rattle.script_plan.specs.CallPlans.{with_source}
use Rattle.machine_plans.specs.declared.plans.MachinePlans.TheInside.{Inside}

-- plans are seen as their machine (own)
abbrev pub planned : Inside → Machine
planned p = p.machine.now

-- the answers are the machine's, and the plans those of its scripts (own)
pub record ArePlans (p : Inside) : Type 0 where
  pub answers_are : p.answers ≡ p.machine.now.answers
  pub scripts_are : p.scripts.items ≡ map (with_source (length p.machine.now.sources)) p.machine.now.actors

-- the fields are the plans of the machine (own)
abbrev pub plans_invariant : Inside → Type 0
plans_invariant p = ArePlans p
