-- The words that were put.
use Rattle.std.proofs.Common.{refl}
use Rattle.log_text.proofs.writing.body.put_froze_end.Goals as goal

pub returns-in-Timeout-clause-text : goal.returns-in-Timeout-clause-text
returns-in-Timeout-clause-text c = rw (c.put_four_words.ensures.text, c.task.ensures, c.in-Timeout.is) refl

pub returns-in-Wakeup-clause-text : goal.returns-in-Wakeup-clause-text
returns-in-Wakeup-clause-text c =
    rw (c.put_four_words-in-Wakeup.ensures.text, c.task-in-Wakeup.ensures, c.in-Wakeup.is) refl
