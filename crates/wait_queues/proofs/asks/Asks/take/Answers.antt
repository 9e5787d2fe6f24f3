-- Proof that `Asks::take` meets its contract.
use Rattle.wait_queues.proofs.NumberSetBits.{none_are, union-none}
use Rattle.wait_queues.proofs.asks.Asks.take.Goals as goal

pub returns-else-not-is_empty-clause-taken : goal.returns-else-not-is_empty-clause-taken
returns-else-not-is_empty-clause-taken c =
    union-none c.args.self.now c.args.other.now (c.is_empty.ensures.0 c.if-not-is_empty.false)

pub returns-else-not-is_empty-clause-left : goal.returns-else-not-is_empty-clause-left
returns-else-not-is_empty-clause-left c = none_are c.args.other.now (c.is_empty.ensures.0 c.if-not-is_empty.false)
