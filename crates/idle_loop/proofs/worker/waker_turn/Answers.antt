-- Proof by hand of `waker_turn`: the call of `make_wake`, the call of `give` and what it returns, by the lemmas of `Acting` and `Stepping`.
use Rattle.std.proofs.Common.{sym, ap, ◌∙◌}
use Rattle.idle_loop.proofs.Acting.{is_owing, taken_sizes, acted_none, acted_hard, acted_wake}
use Rattle.idle_loop.proofs.Stepping.{entries_of, sizes_of, list_grown}
use Rattle.idle_loop.proofs.worker.waker_turn.Goals as goal

pub make_wake-turn-requires : goal.make_wake-turn-requires
make_wake-turn-requires g c =
    let z = c.args.world.now.sizes in
    let locks = c.args.world.now.cells.now.shared.table_id in
    let p = c.args.pass.token in
    is_owing z locks c.args.who c.requires.0 p c.args.waker.now c.value.result.now c.requires.1 (ap sizes_of c.value.ensures.value ∙ taken_sizes z locks c.args.who c.requires.0 p _ c.take-held.result.value c.requires.1 c.take-held.ensures.taken) c.if-waker.true

pub give-requires-clause-grown : goal.give-requires-clause-grown
give-requires-clause-grown g c = list_grown c.args.who _ c.value.result.now c.make_wake-turn.new.gate_log (c.take-held.ensures.list ∙ ap entries_of (sym c.value.ensures.value)) c.make_wake-turn.ensures.gained

pub returns-then-waker : goal.returns-then-waker
returns-then-waker g c =
    let z = c.args.world.now.sizes in
    let locks = c.args.world.now.cells.now.shared.table_id in
    let p = c.args.pass.token in
    let h = c.take-held in
    let y = c.value.result.now in
    acted_wake z locks c.args.who h.result.object p h.result.token c.give.result.token y c.make_wake-turn.new.gate_log h.ensures.held.1 h.ensures.held.0.first_is (h.ensures.list ∙ ap entries_of (sym c.value.ensures.value))
    h.ensures.same.0 h.ensures.same.1 c.give.ensures.pass c.give.ensures.same c.give.ensures.made (ap sizes_of c.value.ensures.value ∙ taken_sizes z locks c.args.who c.requires.0 p _ h.result.value c.requires.1 h.ensures.taken)
    c.args.waker.now c.make_wake-turn.new.self c.make_wake-turn.ensures

pub returns-then-waker-world : goal.returns-then-waker-world
returns-then-waker-world g c = acted_hard c.args.world.now.sizes c.args.world.now.cells.now.shared.table_id c.args.who c.args.pass.token c.args.waker.now c.make_hard.new.self c.if-waker-world.true c.make_hard.ensures

pub returns : goal.returns
returns g c = acted_none _ _ _ _ _
