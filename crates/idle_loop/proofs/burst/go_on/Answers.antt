-- The burst is over after its begin: the workers are those that began, with their roles and passes as their turns left them.
use Rattle.std.proofs.Common.{◌≡◌, ◌∙◌, ◌+◌, ◌++◌, ℕ, List, [], ◌∷◌, length, take, drop, sym, ap, subst, arith}
use Rattle.std.proofs.lemmas.List.{take-append-le, take_all}
use Rattle.std.proofs.lemmas.Result.{IfOk-weaker}
use Rattle.atomic_table.specs.Seated.{TableId}
use Rattle.idle_loop.specs.declared.entry.IdleEntry.{IdleEntry}
use Rattle.idle_loop.specs.declared.entry.IdleSizes.{IdleSizes}
use Rattle.idle_loop.specs.GateLogs.{GateLogState}
use Rattle.turn_lock.specs.declared.table.LockTable.{LockTable}
use Rattle.turn_lock.specs.Passes.{first_of}
use Rattle.idle_loop.specs.declared.burst.WorkerPool.{WorkerPool}
use Rattle.idle_loop.specs.declared.worker.IdleWorker.{IdleWorker}
use Rattle.idle_loop.specs.WorkerPools.{AreWorkersAt, WorkersHaveEnded, IsWorkerPool}
use Rattle.idle_loop.proofs.burst.go_on.Goals as goal

over : (z : IdleSizes) (table : TableId) (pool : WorkerPool) (locks : LockTable GateLogState IdleEntry) (before after : List IdleWorker) (n : ℕ)
    → IsWorkerPool z table pool → first_of locks.own ≡ pool.gate_log ∷ [] → locks.own.me.0.known ≡ [] → locks.own.me.0.next ≡ z.wakers + 1
    → length before ≡ z.wakers + 1 → length after ≡ length before → n ≡ length before → AreWorkersAt z locks.own.table_id table pool.gate_log 0 after
    → WorkersHaveEnded z table pool.gate_log locks (take n (after ++ drop (length after) before))
over z table pool locks before after n is firsts unused count long same few at =
    let left : take n (after ++ drop (length after) before) ≡ after =
    take-append-le n after (drop (length after) before) (omega arith) ∙ take_all n after (omega arith) in
    subst (WorkersHaveEnded z table pool.gate_log locks) (sym left)
    (record { sizes = is.sizes; first_sizes = is.gate_log; firsts = firsts; unused = unused; count = count; long = same ∙ long; at = at })

pub work-requires-clause-at : goal.work-requires-clause-at
work-requires-clause-at g c κs within =
    let is = c.requires.pool in (
      is.0,
      c.args.pool.gate_log,
      subst (AreWorkersAt c.args.sizes c.in_ok-locks.locks.own.table_id is.0 c.args.pool.gate_log 0) (sym c.deref_mut.ensures.value) (c.in_ok-locks.ensures.at is.0 is.1),
    )

pub ended-requires : goal.ended-requires
ended-requires g c =
    let is = c.requires.pool in
    let e = c.in_ok-locks.ensures in
    let at = subst (AreWorkersAt c.args.sizes c.in_ok-locks.locks.own.table_id is.0 c.args.pool.gate_log 0) (sym c.deref_mut.ensures.value) (e.at is.0 is.1) in (
      c.args.sizes,
      is.0,
      c.args.pool.gate_log,
      over c.args.sizes is.0 c.args.pool c.in_ok-locks.locks c.in_ok-locks.pool.items c.work.new.pool c.in_ok-locks.pool.len is.1 e.first e.unused e.count e.long
          (c.work.ensures.long ∙ ap length c.deref_mut.ensures.value) c.in_ok-locks.pool.ok.0 (c.work.ensures.at is.0 c.args.pool.gate_log at),
    )

pub returns : goal.returns
returns g c =
    let e = c.in_ok-locks.ensures in
    IfOk-weaker c.ended.result _ _
    (λ after left table is. left c.args.sizes table c.args.pool.gate_log
    (over c.args.sizes table c.args.pool c.in_ok-locks.locks c.in_ok-locks.pool.items c.work.new.pool c.in_ok-locks.pool.len is e.first e.unused e.count e.long
    (c.work.ensures.long ∙ ap length c.deref_mut.ensures.value) c.in_ok-locks.pool.ok.0
    (c.work.ensures.at table c.args.pool.gate_log
    (subst (AreWorkersAt c.args.sizes c.in_ok-locks.locks.own.table_id table c.args.pool.gate_log 0) (sym c.deref_mut.ensures.value) (e.at table is)))))
    c.ended.ensures
