-- Proof by hand of `put_leading`, by the lemmas of `Placing`.
use Rattle.std.proofs.Common.{refl, arith}
use Rattle.log_merge.proofs.Placing.{placed_here, turn_at}
use Rattle.log_merge.proofs.with_counts.put_leading.Goals as goal

pub returns-then-not-leads-clause-turn : goal.returns-then-not-leads-clause-turn
returns-then-not-leads-clause-turn c =
    turn_at c.args.reader.now c.args.others.now c.loop-place.place _ _ c.peek-next.result c.leads.result c.loop-place-test.true refl
    c.peek-next.ensures c.leads.ensures c.if-not-leads.true

pub loop-place-preserved : goal.loop-place-preserved
loop-place-preserved c = (
  placed_here c.loop-place.all.items c.push_reserved.new.self.items c.args.before c.args.reader.now c.args.others.now c.loop-place.place _ _ _ c.peek-next.result c.leads.result c.loop-place-test.true refl
      c.peek-next.ensures c.leads.ensures c.if-not-leads.false c.push_reserved.ensures.items c.loop-place.invariant.0,
  omega (arith, c.loop-place-test.true),
  omega (arith, c.loop-place.invariant, c.push_reserved.ensures.len, c.push_reserved.ensures.capacity),
)
