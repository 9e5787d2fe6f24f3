-- Proof by hand of `are_done`: its loop, by the lemmas of `Starting`.
use Rattle.std.proofs.Common.{rules}
use Rattle.idle_loop.specs.Ends.{IsDone}
use Rattle.idle_loop.proofs.Starting.{done_more}
use Rattle.idle_loop.proofs.run.are_done.Goals as goal

pub loop-role-preserved : goal.loop-role-preserved
loop-role-preserved c =
    let one : IsDone c.args.sizes c.role-item.result = search rules in
    done_more c.args.sizes c.args.roles.now c.loop-role.role-index c.role-item.result c.loop-role-test.true c.role-item.is c.loop-role.invariant one
