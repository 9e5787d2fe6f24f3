-- Proof that `LockTable::pass` meets what `split_seat` requires.
use Rattle.std.proofs.Common.{rules}
use Rattle.turn_lock.proofs.Invariance.{may_split}
use Rattle.turn_lock.proofs.table.LockTable.pass.Goals as goal

pub split_seat-token-requires : goal.split_seat-token-requires
split_seat-token-requires g c = let own = c.args.self.now.kept in (search rules, search rules, may_split _ _ _ _ own.keeps own.idle own.unnumbered)
