-- Proof by hand of `to_end`: the call of `leave`.
use Rattle.idle_loop.proofs.run.to_end.Goals as goal

pub leave-requires : goal.leave-requires
leave-requires g c = (c.args.sizes, _, c.loop.invariant.pool)
