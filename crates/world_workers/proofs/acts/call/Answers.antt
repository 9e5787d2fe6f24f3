-- Proof that `call` meets its contract.
use Rattle.std.proofs.Common.{rules, sym, subst}
use Rattle.sleep_model.specs.declared.entry.Actor.{Actor}
use Rattle.sleep_model.specs.declared.word.Stamp.{Stamp}
use Rattle.sleep_script.specs.Jobs.{JobState}
use Rattle.run_world.specs.Outcomes.{AfterReport}
use Rattle.run_world.specs.declared.task.Task.TheVariants as task
use Rattle.world_workers.specs.Tries.{HasActed}
use Rattle.world_workers.proofs.Acting.{acted_call, acted_still}
use Rattle.world_workers.proofs.acts.call.Goals as goal

pub returns-then-source-len : goal.returns-then-source-len
returns-then-source-len g c =
    let w = c.args.world.now in
    acted_still w.machine.now w.table.now.cells.shared.table_id w.cells.now.shared.table_id w.moment (task.Acts c.args.job.now) c.args.pass.token c.requires.goes

pub returns : goal.returns
returns g c =
    let reply = c.report-reported in
    let job = c.args.job.now in
    let made = reply.ensures.made in
    let w = c.args.world.now in
    let m = w.machine.now in
    let table = w.table.now.cells.shared.table_id in
    let locks = w.cells.now.shared.table_id in
    let by_who = subst (λ (x : Actor). AfterReport (record { actor = x; floor = c.floor.result; now = w.moment }) c.args.call c.args.source made.2 reply.result.answer made.0) c.who.ensures made.4 in
    let after = subst (λ (f : Stamp). AfterReport (record { actor = job.who; floor = f; now = w.moment }) c.args.call c.args.source made.2 reply.result.answer made.0) c.floor.ensures by_who in
    subst (λ (j : JobState). HasActed m table locks w.moment (task.Acts job) (task.Acts j) c.args.pass.token reply.result.pass.token) (sym c.pass_call.ensures)
    (acted_call m table locks w.moment c.args.pass.token reply.result.pass.token reply.ensures.pass made.0
    (record { made = made.1; number = reply.ensures.same.0; first = reply.ensures.same.1 }) job c.requires.goes.is_in c.args.source c.args.call reply.result.answer (search rules) c.requires.wants c.calls_are_ranged.ensures made.2 after)
