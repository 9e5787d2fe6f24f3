-- Proof that `gather` meets what `join_seat` requires.
use Rattle.std.proofs.Common.{rules, ap, sym, ◌∙◌, Some, ℕ}
use Rattle.turn_lock.proofs.Invariance.{may_join}
use Rattle.turn_lock.proofs.LastPasses.{came, known_length}
use Rattle.turn_lock.proofs.closing.gather.Goals as goal

pub join_seat-requires : goal.join_seat-requires
join_seat-requires g c =
    let is = c.loop-pass.invariant in
    let own = is.1 in
    let next = c.in-Some.ensures.steps.0 in
    let p = came c.args.own.now c.args.passes.items c.loop-pass.yielded c.loop-pass.pass-iterator.rest.items c.next.new.self.rest.items c.in-Some.pass c.requires.passes is.5 next in
    let table = c.requires.table in (
      is.0 ∙ table.0,
      p.0.table ∙ table.0,
      p.0.empty,
      search rules,
      may_join _ _ _ _ _ _ own.keeps own.idle own.unnumbered (p.1 ∙ ap (λ (n : ℕ). Some n) (sym (known_length c.loop-pass.yielded c.loop-pass.own.me.0.known is.4))) p.0.idle,
    )
