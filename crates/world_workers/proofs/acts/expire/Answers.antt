-- Proof that `expire` meets its contract.
use Rattle.std.proofs.Common.{ℕ, sym, subst}
use Rattle.sleep_model.specs.declared.entry.Actor.TheVariants as actor
use Rattle.sleep_model.specs.declared.machine.SourceCall.TheVariants as calls
use Rattle.sleep_model.specs.declared.word.Stamp.{Stamp}
use Rattle.sleep_script.specs.Jobs.{TimerState}
use Rattle.run_world.specs.Outcomes.{AfterReport}
use Rattle.run_world.specs.declared.task.Task.TheVariants as task
use Rattle.world_workers.specs.Tries.{HasActed}
use Rattle.world_workers.proofs.Acting.{acted_expiry}
use Rattle.world_workers.proofs.acts.expire.Goals as goal

pub returns : goal.returns
returns g c =
    let reply = c.report-reported in
    let timer = c.args.timer.now in
    let made = reply.ensures.made in
    let w = c.args.world.now in
    let m = w.machine.now in
    let table = w.table.now.cells.shared.table_id in
    let locks = w.cells.now.shared.table_id in
    let by_source = subst (λ (s : ℕ). AfterReport (record { actor = actor.Timer s; floor = c.floor.result; now = w.moment }) calls.Expire s made.2 reply.result.answer made.0) c.requires.source made.4 in
    let after = subst (λ (f : Stamp). AfterReport (record { actor = actor.Timer timer.source; floor = f; now = w.moment }) calls.Expire timer.source made.2 reply.result.answer made.0) c.floor.ensures by_source in
    subst (λ (t : TimerState). HasActed m table locks w.moment (task.Fires timer) (task.Fires t) c.args.pass.token reply.result.pass.token) (sym c.pass_expiry.ensures)
    (acted_expiry m table locks w.moment c.args.pass.token reply.result.pass.token reply.ensures.pass made.0
    (record { made = made.1; number = reply.ensures.same.0; first = reply.ensures.same.1 }) timer c.requires.goes.is_in reply.result.answer made.2 after)
