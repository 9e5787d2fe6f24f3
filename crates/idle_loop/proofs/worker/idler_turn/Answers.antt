-- Proof by hand of `idler_turn`: the call of `give` and what it returns, by the lemmas of `Acting` and `Stepping`.
use Rattle.std.proofs.Common.{refl, sym, ap, ◌∙◌}
use Rattle.idle_loop.proofs.Acting.{taken_sizes, acted_idle}
use Rattle.idle_loop.proofs.Stepping.{entries_of, sizes_of, list_grown}
use Rattle.idle_loop.proofs.worker.idler_turn.Goals as goal

pub give-requires-clause-grown : goal.give-requires-clause-grown
give-requires-clause-grown g c = list_grown _ _ c.value.result.now c.idle_step-turn.new.gate_log (c.take-held.ensures.list ∙ ap entries_of (sym c.value.ensures.value)) c.idle_step-turn.ensures.gains

pub returns : goal.returns
returns g c =
    let z = c.args.world.now.sizes in
    let locks = c.args.world.now.cells.now.shared.table_id in
    let p = c.args.pass.token in
    let h = c.take-held in
    let y = c.value.result.now in
    acted_idle z locks z.wakers h.result.object p h.result.token c.give.result.token y c.idle_step-turn.new.gate_log h.ensures.held.1 h.ensures.held.0.first_is (h.ensures.list ∙ ap entries_of (sym c.value.ensures.value))
    h.ensures.same.0 h.ensures.same.1 c.give.ensures.pass c.give.ensures.same c.give.ensures.made (ap sizes_of c.value.ensures.value ∙ taken_sizes z locks z.wakers c.requires.0 p _ h.result.value c.requires.1 h.ensures.taken)
    c.args.look.now c.idle_step-turn.new.events refl c.idle_step-turn.ensures.gains c.idle_step-turn.ensures.root
