-- Proof that `step` meets what `hard`, `finish` and `start` require.
use Rattle.std.proofs.Common.{rules}
use Rattle.sleep_model.specs.declared.word.WordKind.TheVariants.{Start, Finish, Hard}
use Rattle.event_word.proofs.Seating.{can_now}
use Rattle.thread_trials.proofs.word_table_tests.step.Goals as goal

pub hard-requires : goal.hard-requires
hard-requires c = can_now Hard _ _ c.requires.room (search rules)

pub finish-requires : goal.finish-requires
finish-requires c = can_now Finish _ _ c.requires.room (search rules)

pub start-requires : goal.start-requires
start-requires c = can_now Start _ _ c.requires.room (search rules)
