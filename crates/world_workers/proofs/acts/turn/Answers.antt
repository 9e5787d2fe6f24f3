-- Proof that `turn` meets its contract.
use Rattle.std.proofs.Common.{ℕ, sym, subst}
use Rattle.sleep_model.specs.declared.entry.Actor.{Actor}
use Rattle.sleep_model.specs.declared.word.Stamp.{Stamp}
use Rattle.sleep_script.specs.Jobs.{JobState}
use Rattle.run_world.specs.Outcomes.{AfterCoreTurn}
use Rattle.run_world.specs.declared.task.Task.TheVariants as task
use Rattle.world_workers.specs.Tries.{HasActed}
use Rattle.world_workers.proofs.Acting.{acted_still, acted_turn}
use Rattle.world_workers.proofs.acts.turn.Goals as goal

pub returns-then-is_synchronous : goal.returns-then-is_synchronous
returns-then-is_synchronous g c =
    let w = c.args.world.now in
    acted_still w.machine.now w.table.now.cells.shared.table_id w.cells.now.shared.table_id w.moment (task.Acts c.args.job.now) c.args.pass.token c.requires.goes

pub returns : goal.returns
returns g c =
    let reply = c.core_turn-reply in
    let job = c.args.job.now in
    let made = reply.ensures.made in
    let w = c.args.world.now in
    let m = w.machine.now in
    let table = w.table.now.cells.shared.table_id in
    let locks = w.cells.now.shared.table_id in
    let by_who = subst (λ (x : Actor). AfterCoreTurn m x c.calls.result c.floor.result w.moment made.2 reply.result.answer made.0) c.who-who.ensures made.4 in
    let by_calls = subst (λ (n : ℕ). AfterCoreTurn m job.who n c.floor.result w.moment made.2 reply.result.answer made.0) c.calls.ensures by_who in
    let after = subst (λ (f : Stamp). AfterCoreTurn m job.who job.calls f w.moment made.2 reply.result.answer made.0) c.floor.ensures by_calls in
    subst (λ (j : JobState). HasActed m table locks w.moment (task.Acts job) (task.Acts j) c.args.pass.token reply.result.pass.token) (sym c.pass_turn-answer.ensures.shown)
    (acted_turn m table locks w.moment c.args.pass.token reply.result.pass.token reply.ensures.pass made.0
    (record { made = made.1; number = reply.ensures.same.0; first = reply.ensures.same.1 }) job c.requires.goes.is_in reply.result.answer c.requires.wants c.pass_turn-answer.ensures.ranged made.2 after)
