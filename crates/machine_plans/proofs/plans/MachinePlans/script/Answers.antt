-- Proof that `MachinePlans::script` meets its contract.
use Rattle.std.proofs.Common.{◌<◌, length, subst, sym}
use Rattle.sleep_model.specs.declared.machine.Machine.{Machine}
use Rattle.machine_plans.proofs.Scripted.{one_plan}
use Rattle.machine_plans.proofs.plans.MachinePlans.script.Goals as goal

pub returns-clause-source : goal.returns-clause-source
returns-clause-source c =
    let p = c.self.inside in
    let within : c.args.number < length p.machine.now.actors = subst (λ (m : Machine). c.args.number < length m.actors) (sym c.self.view_is) c.requires in
    rw (← c.self.view_is) (one_plan (length p.machine.now.sources) p.machine.now.actors p.scripts.items c.args.number c.index.result.now c.self.invariant.scripts_are within c.index.ensures).0

pub returns-clause-script : goal.returns-clause-script
returns-clause-script c =
    let p = c.self.inside in
    let within : c.args.number < length p.machine.now.actors = subst (λ (m : Machine). c.args.number < length m.actors) (sym c.self.view_is) c.requires in
    rw (← c.self.view_is) (one_plan (length p.machine.now.sources) p.machine.now.actors p.scripts.items c.args.number c.index.result.now c.self.invariant.scripts_are within c.index.ensures).1
