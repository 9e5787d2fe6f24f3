-- Proof that `World::core_turn` meets its contract, and that it meets what `turn` requires.
use Rattle.std.proofs.Common.{ap}
use Rattle.run_world.specs.Roots.{WorldRoot}
use Rattle.run_world.proofs.Taking.{machine_taken, turn_made}
use Rattle.run_world.proofs.world.World.core_turn.Goals as goal

pub turn-answer-requires-clause-machine : goal.turn-answer-requires-clause-machine
turn-answer-requires-clause-machine g c =
    let is = machine_taken _ _ _ _ c.args.pass.token c.requires.pass c.take-held.result.value c.value.result.now c.take-held.ensures.taken c.value.ensures.value in
    (c.args.self.now.machine.now, ap (λ (r : WorldRoot). r.machine) is, c.requires.actor)

pub turn-answer-requires-clause-table : goal.turn-answer-requires-clause-table
turn-answer-requires-clause-table g c =
    ap (λ (r : WorldRoot). r.table) (machine_taken _ _ _ _ c.args.pass.token c.requires.pass c.take-held.result.value c.value.result.now c.take-held.ensures.taken c.value.ensures.value)

pub returns-clause-made : goal.returns-clause-made
returns-clause-made g c =
    let is = ap (λ (r : WorldRoot). r.machine) (machine_taken _ _ _ _ c.args.pass.token c.requires.pass c.take-held.result.value c.value.result.now c.take-held.ensures.taken c.value.ensures.value) in
    turn_made c.value.result.now c.take-held.result.value c.turn-answer.new.self _ _ _ _ _ c.value.ensures.value c.take-held.ensures.list c.take-held.ensures.same.1 c.give.ensures.made
    c.args.self.now.machine.now c.args.who c.args.calls c.args.floor c.args.now c.args.pass.token c.turn-answer.result c.take-held.ensures.held.1 c.take-held.ensures.taken (c.turn-answer.ensures.after c.args.self.now.machine.now is)
