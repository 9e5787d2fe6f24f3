-- Proof by hand of `make_wake`: the call of `wakes`, the call of `wake` and the rest, by the lemmas of `Stepping`.
use Rattle.std.proofs.Common.{rules, ◌≤◌, ◌<◌, refl, arith}
use Rattle.idle_loop.proofs.Stepping.{few_wakes, has_woken, still_waker, made_same}
use Rattle.idle_loop.proofs.roles.Waker.make_wake.Goals as goal

pub wakes-requires : goal.wakes-requires
wakes-requires g c = (search rules, c.requires.is.low)

pub wake-requires : goal.wake-requires
wake-requires g c =
    let r = c.requires in
    let few : c.args.self.now.now.wakes < c.args.gate_log.now.sizes.events = few_wakes c.args.gate_log.now.sizes c.args.who r.seen c.args.self.now r.is r.owes in
    (search rules, (r.is.low, (omega (arith, c.look_for-now.ensures.low, c.max-least.ensures, c.from.ensures, c.seen.ensures), omega (arith, c.wakes.ensures, c.if-wakes-self.false, few))))

pub overflow_add-self : goal.overflow_add-self
overflow_add-self g c =
    let r = c.requires in
    let few : c.args.self.now.now.wakes < c.args.gate_log.now.sizes.events = few_wakes c.args.gate_log.now.sizes c.args.who r.seen c.args.self.now r.is r.owes in
    let most : c.args.gate_log.now.sizes.events ≤ 1000 = r.are.events.1 in
    omega arith

pub returns-then-wakes-self : goal.returns-then-wakes-self
returns-then-wakes-self g c = still_waker c.args.who c.args.self.now c.args.gate_log.now

pub returns : goal.returns
returns g c =
    let l = c.look_for-now in
    has_woken c.args.who c.args.self.now _ c.args.gate_log.now c.wake.new.self l.result (made_same _ _ l.ensures.made) l.ensures.floor l.ensures.root refl c.requires.owes
    (omega (arith, l.ensures.low, c.max-least.ensures)) refl refl c.wake.ensures.journal c.wake.ensures.sizes
