-- Proof by hand of `source`: the call of `split_seat`, by the lemmas of `Invariance`.
use Rattle.std.proofs.Common.{rules}
use Rattle.event_word.proofs.Invariance.{may_split_source}
use Rattle.event_word.proofs.table.EventTable.source.Goals as goal

pub split_seat-token-requires : goal.split_seat-token-requires
split_seat-token-requires c = let seat = c.args.look.now.seated in (c.requires.table, search rules, may_split_source _ _ seat.keeps seat.unnumbered c.requires.room)
