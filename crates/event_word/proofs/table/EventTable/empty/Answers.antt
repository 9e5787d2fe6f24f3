-- Proof by hand of `empty`: the call of `of_words`, by the lemmas of `Invariance`.
use Rattle.event_word.proofs.Invariance.{opens}
use Rattle.event_word.proofs.table.EventTable.empty.Goals as goal

pub of_words-requires : goal.of_words-requires
of_words-requires c = opens
