-- Proof by hand of `began`: what it returns, by the lemmas of `Crewing`.
use Rattle.std.proofs.Common.{◌∙◌}
use Rattle.idle_loop.proofs.Crewing.{began_at, workers_left, workers_long}
use Rattle.idle_loop.proofs.burst.began.Goals as goal

pub returns-clause-at : goal.returns-clause-at
returns-clause-at c = λ table pool. began_at c.args.sizes table c.in-Ok-new.locks.own c.args.pool.gate_log _ _ c.in-Ok-with_passes.workers.items pool.sizes pool.gate_log (c.in-Ok-new.ensures.first ∙ c.in-Ok.ensures.items) c.in-Ok-new.ensures.passes c.in-Ok-with_passes.ensures pool.roles

pub returns-clause-left : goal.returns-clause-left
returns-clause-left c = workers_left 0 _ _ c.in-Ok-with_passes.workers.items c.in-Ok-with_passes.ensures

pub returns-clause-long : goal.returns-clause-long
returns-clause-long c = (workers_long 0 _ _ c.in-Ok-with_passes.workers.items c.in-Ok-with_passes.ensures).0 ∙ c.requires.1.count
