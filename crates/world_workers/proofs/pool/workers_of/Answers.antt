-- Proof that `workers_of` meets its contract, that its loop keeps its invariant, that its casts stay in range, and that there is room.
use Rattle.std.proofs.Common.{◌≡◌, ◌∙◌, ◌<◌, List, [], ◌∷◌, ◌++◌, length, sym, ap, subst, arith, append_assoc}
use Rattle.turn_lock.specs.declared.table.Pass.{Pass}
use Rattle.run_laws.specs.Passes.{Noted}
use Rattle.run_world.specs.declared.object.WorldObject.{WorldObject}
use Rattle.run_world.specs.declared.task.Task.{Task}
use Rattle.world_workers.specs.Bursts.{HaveTurns}
use Rattle.world_workers.proofs.Pools.{all_lent, fewer, fresh_more, no_length, one_left, contents_more}
use Rattle.world_workers.proofs.pool.workers_of.Goals as goal

pub unreachable-requires : goal.unreachable-requires
unreachable-requires c =
    let l = c.loop-task in
    let is = l.invariant in
    one_left c.args.passes.items is.0.0 l.left.rest.items c.args.tasks.items l.yielded l.task-iterator.rest.items l.workers.items is.0.1 c.requires.count is.3 is.0.2
    c.in-Some.task c.next.new.self.rest.items c.in-Some.ensures.steps.0 (sym is.2 ∙ c.in_default-next.ensures.cases.0)

pub overflow_cast-place : goal.overflow_cast-place
overflow_cast-place c =
    let l = c.loop-task in
    let is = l.invariant in
    let less : length l.workers.items < length c.args.tasks.items =
    fewer c.args.passes.items is.0.0 l.left.rest.items c.args.tasks.items l.yielded l.task-iterator.rest.items l.workers.items is.0.1 c.requires.count is.3 is.0.2
    c.in-Some.task c.next.new.self.rest.items c.in-Some.ensures.steps.0 in
    omega (arith, less, c.requires.few, c.len-place.ensures, l.workers.ok.0)

pub push_reserved-requires : goal.push_reserved-requires
push_reserved-requires c = let is = c.loop-task.invariant in omega (arith, is.6, c.in-Some.ensures.steps.1)

pub loop-task-preserved : goal.loop-task-preserved
loop-task-preserved c =
    let l = c.loop-task in
    let is = l.invariant in
    let rest_is = c.in-Some.ensures.steps.0 in
    let left_is : l.left.rest.items ≡ c.in-Some-next.pass ∷ c.next-in-loop-task.new.self.rest.items = c.in-Some-next.ensures.cases.0 in
    let turns = subst HaveTurns rest_is is.5 in (
      (
        is.0.0 ++ c.in-Some-next.pass ∷ [],
        is.0.1 ∙ ap (λ (k : List (Pass WorldObject Noted)). is.0.0 ++ k) left_is ∙ sym (append_assoc is.0.0 (c.in-Some-next.pass ∷ []) c.next-in-loop-task.new.self.rest.items),
        rw (c.push_reserved.ensures.items) (contents_more l.workers.items is.0.0 l.yielded c.new-worker.result c.in-Some-next.pass c.in-Some.task is.0.2 c.new-worker.ensures.pass c.new-worker.ensures.task.0),
      ),
      rw (c.push_reserved.ensures.items) (fresh_more c.args.moment l.workers.items c.new-worker.result is.1 c.new-worker.ensures.task.1 c.new-worker.ensures.task.2),
      (let n = ap (λ (k : List (Pass WorldObject Noted)). length k) left_is in omega (arith, n, is.2, c.in-Some-next.ensures.cases.1)),
      is.3 ∙ ap (λ (k : List Task). l.yielded ++ k) rest_is ∙ sym (append_assoc l.yielded (c.in-Some.task ∷ []) c.next.new.self.rest.items),
      (let n = ap (λ (k : List Task). length k) rest_is in omega (arith, n, is.4, c.in-Some.ensures.steps.1)),
      turns.1,
      omega (arith, is.6, c.in-Some.ensures.steps.1, c.push_reserved.ensures.len, c.push_reserved.ensures.capacity),
    )

pub returns-clause-contents : goal.returns-clause-contents
returns-clause-contents c =
    let l = c.loop-task in
    let is = l.invariant in
    let none_left = no_length l.task-iterator.rest.items (sym is.4 ∙ c.in-None.ensures.steps.0) in
    all_lent c.args.passes.items is.0.0 l.left.rest.items c.args.tasks.items l.yielded l.task-iterator.rest.items l.workers.items is.0.1 c.requires.count is.3 is.0.2 none_left
