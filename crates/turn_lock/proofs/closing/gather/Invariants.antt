-- The invariant of the loop of `gather`.
use Rattle.std.proofs.Common.{◌≡◌, ◌++◌}
use Rattle.turn_lock.specs.Passes.{IsOwn, first_of}
use Rattle.turn_lock.specs.Passing.{made_lists}
use Rattle.turn_lock.proofs.closing.gather.Given as goal

abbrev pub invariant-loop-pass : goal.invariant-loop-pass
invariant-loop-pass g l = (l.own.table_id ≡ l.fn.own.table_id) × IsOwn l.own × (first_of l.own ≡ first_of l.fn.own) × (l.own.me.0.next ≡ l.fn.own.me.0.next)
    × (l.own.me.0.known ≡ made_lists l.yielded) × (l.yielded ++ l.pass-iterator.rest.items ≡ l.fn.passes.items)
