-- The texts that were put, one after another.
use Rattle.std.proofs.Common.{append_assoc}
use Rattle.log_text.proofs.writing.body.put_link_state.Goals as goal

pub returns-clause-text : goal.returns-clause-text
returns-clause-text c =
    rw
    (c.put_set.ensures.text, c.put_on.ensures.text, c.put_two_words.ensures.text, c.device.ensures)
    (simp append_assoc)
