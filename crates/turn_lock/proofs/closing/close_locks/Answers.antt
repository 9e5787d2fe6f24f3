-- Proof that `close_locks` meets its contract, and that it meets what `unslotted` requires.
use Rattle.std.proofs.Common.{rules, subst, List}
use Rattle.turn_lock.specs.Locks.{AreClosed}
use Rattle.turn_lock.specs.Passing.{made_lists}
use Rattle.turn_lock.proofs.Invariance.{ends}
use Rattle.turn_lock.proofs.LastPasses.{all_in, all_full, closes}
use Rattle.turn_lock.proofs.closing.close_locks.Goals as goal

pub unslotted-requires-clause-some : goal.unslotted-requires-clause-some
unslotted-requires-clause-some g c =
    let own = c.gather.ensures.own in
    let root = g.V.Booked.root in
    let entries = g.V.Booked.entries in
    all_full root entries c.gather.new.own.me.0.first c.gather.new.own.me.0.known _
    (ends root entries _ c.gather.new.own.me.0 _ _ own.0.keeps own.0.unnumbered
    (all_in c.args.locks.own c.gather.new.own c.args.passes.items c.requires.passes own.2 c.gather.ensures.known) c.close_with.ensures.values.2)

pub returns : goal.returns
returns g c =
    let own = c.gather.ensures.own in
    let root = g.V.Booked.root in
    let entries = g.V.Booked.entries in
    subst (λ (l : List g.row.V.Denot). AreClosed root entries l (made_lists c.args.passes.items) c.unslotted.result.items) own.1
    (subst (λ known. AreClosed root entries c.gather.new.own.me.0.first known c.unslotted.result.items) c.gather.ensures.known
    (closes root entries c.gather.new.own.me.0.first c.gather.new.own.me.0.known _ c.unslotted.result.items
    (ends root entries _ c.gather.new.own.me.0 _ _ own.0.keeps own.0.unnumbered
    (all_in c.args.locks.own c.gather.new.own c.args.passes.items c.requires.passes own.2 c.gather.ensures.known) c.close_with.ensures.values.2)
    (search rules) c.unslotted.ensures.out))
