-- Proof by hand of `work`: the call of `burst` and what it returns, by the lemmas of `Crewing`.
use Rattle.std.proofs.Common.{ℕ, ◌<◌, length, slice_index_or, sym, subst}
use Rattle.atomic_table.specs.Seated.{TableId}
use Rattle.idle_loop.specs.declared.worker.IdleWorker.{IdleWorker}
use Rattle.idle_loop.specs.Roles.{IsWorker}
use Rattle.idle_loop.proofs.Crewing.{at_end, at_go, went_long}
use Rattle.idle_loop.proofs.burst.work.Goals as goal

pub burst-requires-clause-goes : goal.burst-requires-clause-goes
burst-requires-clause-goes g c κs within =
    let at = c.requires.at in
    subst (λ (t : TableId). (k : ℕ) (d : IdleWorker) → k < length c.args.pool.now → IsWorker c.args.sizes t (slice_index_or c.args.pool.now k d)) c.args.locks.now.seated (at_go c.args.sizes c.args.locks.now.own.table_id at.0 at.1 0 c.args.pool.now at.2)

pub returns-clause-at : goal.returns-clause-at
returns-clause-at g c = λ table first are.
    at_end c.args.sizes c.args.locks.now.own.table_id table first 0 c.burst.result 1000 _ _ c.args.pool.now c.burst.new.jobs c.burst.ensures.went are
    (subst (λ (t : TableId). (k : ℕ) (d : IdleWorker) → k < length c.burst.new.jobs → IsWorker c.args.sizes t (slice_index_or c.burst.new.jobs k d)) (sym c.args.locks.now.seated) c.burst.ensures.goes)

pub returns-clause-long : goal.returns-clause-long
returns-clause-long g c = went_long _ c.burst.result c.args.pool.now c.burst.new.jobs c.burst.ensures.went
