-- Proof that `open_burst` meets what `new` requires.
use Rattle.std.proofs.Common.{arith}
use Rattle.world_workers.proofs.Bursting.{world_count}
use Rattle.world_workers.proofs.burst.open_burst.Goals as goal

pub new-requires-clause-values : goal.new-requires-clause-values
new-requires-clause-values c =
    let objects = c.in-Ok.objects in
    let n = world_count c.args.moment c.args.contents.core c.args.contents.sources.items objects.items c.in-Ok.ensures.all in
    (omega (arith, n, objects.ok.0), omega (arith, n, objects.ok.0, c.requires.few.1))
