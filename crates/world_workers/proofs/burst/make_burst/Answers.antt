-- Proof that `make_burst` meets its contract, and that it meets what `run_workers` and `close_burst` require.
use Rattle.std.proofs.Common.{◌≡◌, ◌∙◌, ◌++◌, ℕ, List, length, map, take, drop, sym, ap, subst, arith}
use Rattle.sleep_model.specs.Numbers.{time_of}
use Rattle.sleep_state.specs.JournalRooms.{entries}
use Rattle.sleep_core.specs.Cores.{CoreState}
use Rattle.run_world.specs.Acts.{actor_of}
use Rattle.run_world.specs.Bursts.{IsBurst}
use Rattle.world_workers.specs.declared.contents.Burst.{Burst}
use Rattle.world_workers.specs.declared.worker.Worker.{Worker}
use Rattle.world_workers.specs.Bursts.{AreReady}
use Rattle.world_workers.specs.Opened.{Began, HasEnded, HasRun, IsOpened}
use Rattle.world_workers.specs.Workers.{AreFresh, AreWorkersOf}
use Rattle.world_workers.proofs.Bursting.{has_run, if_ok, start}
use Rattle.world_workers.proofs.Pools.{contents_count}
use Rattle.world_workers.proofs.burst.make_burst.Goals as goal

pub run_workers-did-requires-clause-goes : goal.run_workers-did-requires-clause-goes
run_workers-did-requires-clause-goes g c κs within =
    let plan = c.args.plan.now in
    let table = plan.table.now.cells.shared.table_id in
    let contents = c.args.contents in
    let b : Began = record { machine = plan.machine.now; table = table; moment = c.time-moment.result; core = contents.core; sources = contents.sources.items; tasks = contents.tasks.items } in
    let own = c.in-Ok.locks.own in
    let locks = c.in-Ok.locks.cells.shared.table_id in
    let workers = c.in-Ok.workers in
    let opened : IsOpened b own locks workers.items = c.in-Ok.ensures.opened plan.machine.now table c.requires.ready in
    subst (λ (l : List Worker). AreWorkersOf plan.machine.now table locks c.time-moment.result l) (sym c.as_mut_slice.ensures.value) (start b own locks workers.items opened)

pub run_workers-did-requires-clause-fresh : goal.run_workers-did-requires-clause-fresh
run_workers-did-requires-clause-fresh g c κs within =
    let plan = c.args.plan.now in
    let table = plan.table.now.cells.shared.table_id in
    let contents = c.args.contents in
    let b : Began = record { machine = plan.machine.now; table = table; moment = c.time-moment.result; core = contents.core; sources = contents.sources.items; tasks = contents.tasks.items } in
    let own = c.in-Ok.locks.own in
    let locks = c.in-Ok.locks.cells.shared.table_id in
    let workers = c.in-Ok.workers in
    let opened : IsOpened b own locks workers.items = c.in-Ok.ensures.opened plan.machine.now table c.requires.ready in
    subst (λ (l : List Worker). AreFresh c.time-moment.result l) (sym c.as_mut_slice.ensures.value) opened.fresh

pub run_workers-did-requires-clause-short : goal.run_workers-did-requires-clause-short
run_workers-did-requires-clause-short g c κs within =
    let plan = c.args.plan.now in
    let table = plan.table.now.cells.shared.table_id in
    let contents = c.args.contents in
    let b : Began = record { machine = plan.machine.now; table = table; moment = c.time-moment.result; core = contents.core; sources = contents.sources.items; tasks = contents.tasks.items } in
    let own = c.in-Ok.locks.own in
    let locks = c.in-Ok.locks.cells.shared.table_id in
    let workers = c.in-Ok.workers in
    let opened : IsOpened b own locks workers.items = c.in-Ok.ensures.opened plan.machine.now table c.requires.ready in
    let n = contents_count workers.items opened.passes contents.tasks.items opened.contents in
    let same : length c.as_mut_slice.result.now ≡ length workers.items = ap (λ (l : List Worker). length l) c.as_mut_slice.ensures.value in
    omega (arith, n.0, same, c.requires.few.0)

pub close_burst-requires : goal.close_burst-requires
close_burst-requires g c =
    let plan = c.args.plan.now in
    let table = plan.table.now.cells.shared.table_id in
    let contents = c.args.contents in
    let b : Began = record { machine = plan.machine.now; table = table; moment = c.time-moment.result; core = contents.core; sources = contents.sources.items; tasks = contents.tasks.items } in
    let own = c.in-Ok.locks.own in
    let locks = c.in-Ok.locks.cells.shared.table_id in
    let workers = c.in-Ok.workers in
    let opened : IsOpened b own locks workers.items = c.in-Ok.ensures.opened plan.machine.now table c.requires.ready in
    let new = c.run_workers-did.new.workers in
    let all : List Worker = take workers.len (new ++ drop (length new) workers.items) in
    let ran : HasRun b own locks all =
    has_run b own locks workers.len c.as_mut_slice.result.now new workers.items c.run_workers-did.result opened c.as_mut_slice.ensures.value c.run_workers-did.auto.workers
    (let count : workers.len ≡ length workers.items = omega (arith, workers.ok.0) in count) c.run_workers-did.ensures.went c.run_workers-did.ensures.goes in
    record { ran = (b, ran) }

pub returns-clause-burst : goal.returns-clause-burst
returns-clause-burst g c =
    let plan = c.args.plan.now in
    let table = plan.table.now.cells.shared.table_id in
    let contents = c.args.contents in
    let b : Began = record { machine = plan.machine.now; table = table; moment = c.time-moment.result; core = contents.core; sources = contents.sources.items; tasks = contents.tasks.items } in
    let own = c.in-Ok.locks.own in
    let locks = c.in-Ok.locks.cells.shared.table_id in
    let workers = c.in-Ok.workers in
    let opened : IsOpened b own locks workers.items = c.in-Ok.ensures.opened plan.machine.now table c.requires.ready in
    let new = c.run_workers-did.new.workers in
    let all : List Worker = take workers.len (new ++ drop (length new) workers.items) in
    let ran : HasRun b own locks all =
    has_run b own locks workers.len c.as_mut_slice.result.now new workers.items c.run_workers-did.result opened c.as_mut_slice.ensures.value c.run_workers-did.auto.workers
    (let count : workers.len ≡ length workers.items = omega (arith, workers.ok.0) in count) c.run_workers-did.ensures.went c.run_workers-did.ensures.goes in
    let time : c.time-moment.result ≡ time_of (entries contents.core.core.past) = c.time-moment.ensures.time ∙ ap (λ (k : CoreState). time_of (entries k.past)) c.core.ensures.is in
    if_ok (λ (made : Burst). (x : Began) → HasRun x own locks all → HasEnded x made.contents.core made.contents.sources.items made.contents.tasks.items)
    (λ (made : Burst). IsBurst (time_of (entries contents.core.core.past)) contents.core contents.sources.items contents.tasks.items made.contents.core made.contents.sources.items made.contents.tasks.items)
    (λ made ended. subst (λ (t : ℕ). IsBurst t contents.core contents.sources.items contents.tasks.items made.contents.core made.contents.sources.items made.contents.tasks.items) time (ended b ran).burst)
    c.close_burst.result c.close_burst.ensures.ended

pub returns-clause-ready : goal.returns-clause-ready
returns-clause-ready g c =
    let plan = c.args.plan.now in
    let table = plan.table.now.cells.shared.table_id in
    let contents = c.args.contents in
    let b : Began = record { machine = plan.machine.now; table = table; moment = c.time-moment.result; core = contents.core; sources = contents.sources.items; tasks = contents.tasks.items } in
    let own = c.in-Ok.locks.own in
    let locks = c.in-Ok.locks.cells.shared.table_id in
    let workers = c.in-Ok.workers in
    let opened : IsOpened b own locks workers.items = c.in-Ok.ensures.opened plan.machine.now table c.requires.ready in
    let new = c.run_workers-did.new.workers in
    let all : List Worker = take workers.len (new ++ drop (length new) workers.items) in
    let ran : HasRun b own locks all =
    has_run b own locks workers.len c.as_mut_slice.result.now new workers.items c.run_workers-did.result opened c.as_mut_slice.ensures.value c.run_workers-did.auto.workers
    (let count : workers.len ≡ length workers.items = omega (arith, workers.ok.0) in count) c.run_workers-did.ensures.went c.run_workers-did.ensures.goes in
    if_ok (λ (made : Burst). (x : Began) → HasRun x own locks all → HasEnded x made.contents.core made.contents.sources.items made.contents.tasks.items)
    (λ (made : Burst). AreReady plan.machine.now table made.contents.core made.contents.sources.items made.contents.tasks.items)
    (λ made ended. (ended b ran).ready)
    c.close_burst.result c.close_burst.ensures.ended

pub returns-clause-actors : goal.returns-clause-actors
returns-clause-actors g c =
    let plan = c.args.plan.now in
    let table = plan.table.now.cells.shared.table_id in
    let contents = c.args.contents in
    let b : Began = record { machine = plan.machine.now; table = table; moment = c.time-moment.result; core = contents.core; sources = contents.sources.items; tasks = contents.tasks.items } in
    let own = c.in-Ok.locks.own in
    let locks = c.in-Ok.locks.cells.shared.table_id in
    let workers = c.in-Ok.workers in
    let opened : IsOpened b own locks workers.items = c.in-Ok.ensures.opened plan.machine.now table c.requires.ready in
    let new = c.run_workers-did.new.workers in
    let all : List Worker = take workers.len (new ++ drop (length new) workers.items) in
    let ran : HasRun b own locks all =
    has_run b own locks workers.len c.as_mut_slice.result.now new workers.items c.run_workers-did.result opened c.as_mut_slice.ensures.value c.run_workers-did.auto.workers
    (let count : workers.len ≡ length workers.items = omega (arith, workers.ok.0) in count) c.run_workers-did.ensures.went c.run_workers-did.ensures.goes in
    if_ok (λ (made : Burst). (x : Began) → HasRun x own locks all → HasEnded x made.contents.core made.contents.sources.items made.contents.tasks.items)
    (λ (made : Burst). map actor_of made.contents.tasks.items ≡ map actor_of contents.tasks.items)
    (λ made ended. (ended b ran).actors)
    c.close_burst.result c.close_burst.ensures.ended
