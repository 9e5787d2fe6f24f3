-- Proof by hand of `wake`: the call of `push_reserved` and the invariants of its types, by the lemmas of `Booking`.
use Rattle.std.proofs.Common.{◌≤◌, refl, ◌<◌, reverse, arith, subst, sym}
use Rattle.idle_loop.specs.declared.entry.IdleKind.TheVariants.{Wake}
use Rattle.idle_loop.specs.IdleLogs.{wakes_of}
use Rattle.idle_loop.specs.GateLogs.{GateLogState}
use Rattle.std.proofs.Common.{vec_len, vec_capacity}
use Rattle.idle_loop.proofs.Booking.{room_left, saw_grown, counted_wake, gate_log_grown, gate_log_wake}
use Rattle.idle_loop.proofs.gate_log.GateLog.wake.Goals as goal

pub push_reserved-requires : goal.push_reserved-requires
push_reserved-requires g c = room_left c.self.inside.sizes c.self.inside.gate c.self.inside.journal.items (vec_capacity c.self.inside.journal) c.self.invariant.0 (vec_len c.self.inside.journal) (omega (arith, c.self.inside.journal.ok.0)) c.self.invariant.1

pub invariant_of-self : goal.invariant_of-self
invariant_of-self g c =
    let b = c.self.inside in
    let order : b.seen ≤ c.args.now.hard = subst (λ (s : GateLogState). s.seen ≤ c.args.now.hard) (sym c.self.view_is) c.requires.order in
    let low : c.args.who < b.sizes.wakers = subst (λ (s : GateLogState). c.args.who < s.sizes.wakers) (sym c.self.view_is) c.requires.who in
    let few : wakes_of c.args.who (reverse b.journal.items) < b.sizes.events = subst (λ (s : GateLogState). wakes_of c.args.who s.journal < s.sizes.events) (sym c.self.view_is) c.requires.few in (
      gate_log_grown b.sizes _ c.wake.new.self b.journal.items c.push_reserved.new.self.items (record { hard = c.args.now.hard; who = c.args.who; what = Wake }) c.wake.ensures c.push_reserved.ensures.items
          (gate_log_wake b.sizes b.gate (reverse b.journal.items) c.args.now.hard c.args.who c.self.invariant.0 low few),
      omega (arith, c.self.invariant.1, c.push_reserved.ensures.capacity),
      saw_grown b.seen c.args.now.hard b.journal.items c.push_reserved.new.self.items (record { hard = c.args.now.hard; who = c.args.who; what = Wake }) refl order c.push_reserved.ensures.items c.self.invariant.2,
      counted_wake b.sizes b.woke.items c.index_mut.result.now b.journal.items c.push_reserved.new.self.items (record { hard = c.args.now.hard; who = c.args.who; what = Wake }) refl low c.index_mut.ensures.value c.push_reserved.ensures.items c.self.invariant.3,
    )
