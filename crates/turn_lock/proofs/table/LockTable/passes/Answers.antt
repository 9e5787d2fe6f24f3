-- Proof that the loop of `LockTable::passes` keeps its invariant.
use Rattle.std.proofs.Common.{rules, ap, ◌∙◌}
use Rattle.turn_lock.proofs.NewPasses.{passes_more}
use Rattle.turn_lock.proofs.table.LockTable.passes.Goals as goal

pub loop-preserved : goal.loop-preserved
loop-preserved g c =
    let own = c.pass.ensures.own in
    let is = c.loop.invariant in (
      search rules,
      ap (λ v. v.first) own ∙ is.1,
      ap (λ v. v.known) own ∙ is.2,
      rw (c.in_ok-push.ensures.items) (passes_more c.loop.self.own c.pass.new.self.own c.loop.passes.items c.pass.result c.pass.ensures.table own c.pass.ensures.pass.0 c.pass.ensures.pass.1 c.pass.new.self.shaped.0 is.3),
    )
