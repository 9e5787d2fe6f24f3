-- Proof by hand of `try_enter`: the call of `push_reserved` and the invariants of its types, by the lemmas of `Booking`.
use Rattle.std.proofs.Common.{refl, ◌≡◌, ◌≤◌, ◌++◌, ◌∷◌, [], true, reverse, vec_len, vec_capacity, ap, subst, sym, ◌∙◌, arith}
use Rattle.idle_gate.specs.declared.state.IdleState.TheVariants as state
use Rattle.idle_loop.specs.declared.entry.IdleKind.{IdleKind}
use Rattle.idle_loop.specs.declared.entry.IdleKind.TheVariants.{TryOk, TryBusy}
use Rattle.idle_loop.specs.IdleLogs.{is_wake}
use Rattle.idle_gate.specs.Gates.{tried}
use Rattle.idle_loop.specs.GateLogs.{GateLogState, Forgot}
use Rattle.idle_loop.specs.Merging.{forgotten}
use Rattle.idle_loop.proofs.Booking.{room_left, saw_grown, counted_soft, seen_forgot, gate_log_grown, gate_log_ok, gate_log_busy, none_came, some_came}
use Rattle.idle_loop.proofs.gate_log.GateLog.try_enter.Goals.{then-entered, else-entered}
use Rattle.idle_loop.proofs.gate_log.GateLog.try_enter.Goals as goal

pub push_reserved-requires : goal.push_reserved-requires
push_reserved-requires g c = room_left c.self.inside.sizes c.self.inside.gate c.self.inside.journal.items (vec_capacity c.self.inside.journal) c.self.invariant.0 (vec_len c.self.inside.journal) (omega (arith, c.self.inside.journal.ok.0)) c.self.invariant.1

pub invariant_of-self : goal.invariant_of-self
invariant_of-self g c =
    let b = c.self.inside in
    let opened : b.gate.in_session ≡ true = subst (λ (s : GateLogState). s.gate.in_session ≡ true) (sym c.self.view_is) c.requires.open in
    let idle : b.gate.state ≡ state.Idle = subst (λ (s : GateLogState). s.gate.state ≡ state.Idle) (sym c.self.view_is) c.requires.state in
    let seen : b.seen ≤ c.args.now.hard = subst (λ (s : GateLogState). s.seen ≤ c.args.now.hard) (sym c.self.view_is) c.requires.order in
    let order : b.gate.forgotten ≤ c.args.now.hard = seen_forgot b.gate.forgotten b.seen c.args.now.hard (reverse b.journal.items) c.self.invariant.2 (subst (λ o. Forgot o b.gate.forgotten (forgotten (reverse b.journal.items))) opened c.self.invariant.0.session) seen in (
      elim c.if-entered.branch [
        | then-entered w ↦ gate_log_grown b.sizes _ c.try_enter-entered.new.self b.journal.items c.push_reserved.new.self.items (record { hard = c.args.now.hard; who = b.sizes.wakers; what = TryOk })
            (c.try_enter-entered.ensures.after ∙ ap (λ r. tried r b.gate) w.if-entered.true)
            (c.push_reserved.ensures.items ∙ ap (λ (k : IdleKind). b.journal.items ++ record { hard = c.args.now.hard; who = b.sizes.wakers; what = k } ∷ []) w.push_reserved-is)
            (gate_log_ok b.sizes b.gate (reverse b.journal.items) c.args.now.hard c.self.invariant.0 opened idle (none_came b.gate.forgotten c.args.now.hard order (sym c.try_enter-entered.ensures.answer ∙ w.if-entered.true)))
        | else-entered w ↦ gate_log_grown b.sizes _ c.try_enter-entered.new.self b.journal.items c.push_reserved.new.self.items (record { hard = c.args.now.hard; who = b.sizes.wakers; what = TryBusy })
            (c.try_enter-entered.ensures.after ∙ ap (λ r. tried r b.gate) w.if-entered.false)
            (c.push_reserved.ensures.items ∙ ap (λ (k : IdleKind). b.journal.items ++ record { hard = c.args.now.hard; who = b.sizes.wakers; what = k } ∷ []) w.push_reserved-is)
            (gate_log_busy b.sizes b.gate (reverse b.journal.items) c.args.now.hard c.self.invariant.0 opened idle (some_came b.gate.forgotten c.args.now.hard (sym c.try_enter-entered.ensures.answer ∙ w.if-entered.false)))
      ],
      omega (arith, c.self.invariant.1, c.push_reserved.ensures.capacity),
      saw_grown b.seen c.args.now.hard b.journal.items c.push_reserved.new.self.items (record { hard = c.args.now.hard; who = b.sizes.wakers; what = c.if-entered.push_reserved }) refl seen c.push_reserved.ensures.items c.self.invariant.2,
      elim c.if-entered.branch [
        | then-entered w ↦ counted_soft b.sizes b.woke.items b.journal.items c.push_reserved.new.self.items (record { hard = c.args.now.hard; who = b.sizes.wakers; what = c.if-entered.push_reserved }) (ap is_wake w.push_reserved-is) c.push_reserved.ensures.items c.self.invariant.3
        | else-entered w ↦ counted_soft b.sizes b.woke.items b.journal.items c.push_reserved.new.self.items (record { hard = c.args.now.hard; who = b.sizes.wakers; what = c.if-entered.push_reserved }) (ap is_wake w.push_reserved-is) c.push_reserved.ensures.items c.self.invariant.3
      ],
    )
