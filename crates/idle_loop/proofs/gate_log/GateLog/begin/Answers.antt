-- Proof by hand of `begin`: the call of `push_reserved` and the invariants of its types, by the lemmas of `Booking`.
use Rattle.std.proofs.Common.{◌≤◌, refl, reverse, arith, subst, sym}
use Rattle.idle_loop.specs.GateLogs.{GateLogState}
use Rattle.std.proofs.Common.{◌≡◌, ◌<◌, false}
use Rattle.idle_loop.specs.declared.entry.IdleKind.TheVariants.{Begin}
use Rattle.std.proofs.Common.{vec_len, vec_capacity}
use Rattle.idle_loop.proofs.Booking.{room_left, saw_grown, counted_soft, gate_log_grown, gate_log_begin}
use Rattle.idle_loop.proofs.gate_log.GateLog.begin.Goals as goal

pub push_reserved-requires : goal.push_reserved-requires
push_reserved-requires g c = room_left c.self.inside.sizes c.self.inside.gate c.self.inside.journal.items (vec_capacity c.self.inside.journal) c.self.invariant.0 (vec_len c.self.inside.journal) (omega (arith, c.self.inside.journal.ok.0)) c.self.invariant.1

pub invariant_of-self : goal.invariant_of-self
invariant_of-self g c =
    let b = c.self.inside in
    let order : b.seen ≤ c.args.now.hard = subst (λ (s : GateLogState). s.seen ≤ c.args.now.hard) (sym c.self.view_is) c.requires.order in
    let none : b.gate.in_session ≡ false = subst (λ (s : GateLogState). s.gate.in_session ≡ false) (sym c.self.view_is) c.requires.none in
    let few : b.gate.begun < b.sizes.sessions = subst (λ (s : GateLogState). s.gate.begun < s.sizes.sessions) (sym c.self.view_is) c.requires.few in (
      gate_log_grown b.sizes _ c.begin.new.self b.journal.items c.push_reserved.new.self.items (record { hard = c.args.now.hard; who = b.sizes.wakers; what = Begin }) c.begin.ensures c.push_reserved.ensures.items
          (gate_log_begin b.sizes b.gate (reverse b.journal.items) c.args.now.hard c.self.invariant.0 none few),
      omega (arith, c.self.invariant.1, c.push_reserved.ensures.capacity),
      saw_grown b.seen c.args.now.hard b.journal.items c.push_reserved.new.self.items (record { hard = c.args.now.hard; who = b.sizes.wakers; what = Begin }) refl order c.push_reserved.ensures.items c.self.invariant.2,
      counted_soft b.sizes b.woke.items b.journal.items c.push_reserved.new.self.items (record { hard = c.args.now.hard; who = b.sizes.wakers; what = Begin }) refl c.push_reserved.ensures.items c.self.invariant.3,
    )
