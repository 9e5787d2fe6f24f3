-- The pieces of the text, one after another.
use Rattle.std.proofs.Common.{append_assoc}
use Rattle.log_text.proofs.reading.quick.phase_and_device.Goals as goal

pub returns-clause-text : goal.returns-clause-text
returns-clause-text c =
    rw
    (c.in_ok-after_word.ensures, c.word.ensures, c.in_ok-phase.ensures, c.in_ok-device.ensures.text)
    (simp append_assoc)
