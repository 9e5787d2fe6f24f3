-- Proof that `close_world` meets its contract, and that it meets what `machine_of` and `sources_of` require.
use Rattle.turn_lock.specs.Passes.{first_of}
use Rattle.turn_lock.specs.Passing.{made_lists}
use Rattle.run_world.proofs.Worlds.{back, closed_world, head_machine, rest_at}
use Rattle.run_world.proofs.closing.close_world.Goals as goal

pub machine_of-machine-requires : goal.machine_of-machine-requires
machine_of-machine-requires c =
    let o = c.requires.objects in
    let b = back o.0 o.1 o.2 (first_of c.args.locks.own) (made_lists c.args.passes.items) o.3 c.in_ok-objects.objects.items c.in_ok-objects.ensures in
    head_machine o.2 c.in_ok-objects.objects.items c.remove.new.self.items c.remove.result b c.remove.ensures.value c.remove.ensures.items

pub sources_of-requires : goal.sources_of-requires
sources_of-requires c =
    let o = c.requires.objects in
    let b = back o.0 o.1 o.2 (first_of c.args.locks.own) (made_lists c.args.passes.items) o.3 c.in_ok-objects.objects.items c.in_ok-objects.ensures in
    (o.2, rest_at o.2 c.in_ok-objects.objects.items c.remove.new.self.items c.remove.result b c.remove.ensures.value c.remove.ensures.items)

pub returns-clause-closed : goal.returns-clause-closed
returns-clause-closed c =
    let o = c.requires.objects in
    let b = back o.0 o.1 o.2 (first_of c.args.locks.own) (made_lists c.args.passes.items) o.3 c.in_ok-objects.objects.items c.in_ok-objects.ensures in
    closed_world o.2 c.in_ok-objects.objects.items c.remove.new.self.items c.remove.result b c.remove.ensures.value c.remove.ensures.items (first_of c.args.locks.own) (made_lists c.args.passes.items)
    c.machine_of-machine.result c.in-Ok.sources.items c.in_ok-objects.ensures c.machine_of-machine.ensures.machine c.in-Ok.ensures.those
