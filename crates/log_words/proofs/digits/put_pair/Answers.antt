-- The table has the two digits.
use Rattle.std.proofs.Common.{arith}
use Rattle.log_words.proofs.Decimals.{pairs_at}
use Rattle.log_words.proofs.Buffering.{held_two}
use Rattle.log_words.proofs.digits.put_pair.Goals as goal

pub returns-clause-text : goal.returns-clause-text
returns-clause-text c =
    let p = pairs_at c.args.pair c.requires.pair in
    rw (p.0, p.1) (held_two c.args.room.now c.args.used _ _ (omega arith))
