-- Proof that `LockTable::of_words` meets what `new` requires.
use Rattle.std.proofs.Common.{rules}
use Rattle.turn_lock.proofs.Invariance.{opens}
use Rattle.turn_lock.proofs.table.LockTable.of_words.Goals as goal

pub new-requires : goal.new-requires
new-requires g c = rw (c.in_ok-slots.ensures, c.of-about.ensures) (opens g.V.Booked.root g.V.Booked.entries c.args.values.items c.args.words.now (search rules))
