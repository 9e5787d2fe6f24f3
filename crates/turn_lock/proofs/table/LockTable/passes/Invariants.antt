-- The invariant of the loop of `LockTable::passes`.
use Rattle.std.proofs.Common.{◌≡◌, [], length}
use Rattle.turn_lock.specs.Passes.{AreNew, first_of}
use Rattle.turn_lock.specs.Passing.{tokens}
use Rattle.turn_lock.proofs.table.LockTable.passes.Given as goal

abbrev pub invariant-loop : goal.invariant-loop
invariant-loop g l =
    (length l.passes.items ≡ l.counter) × (first_of l.self.own ≡ first_of l.fn.self.own) × (l.self.own.me.0.known ≡ []) × AreNew l.self.own (tokens l.passes.items)
