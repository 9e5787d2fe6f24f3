-- The last write is of what is held back and of the lines after it.
use Rattle.log_text.proofs.writing.stream.TextFrame.finish.Goals as goal

pub returns-clause-bytes : goal.returns-clause-bytes
returns-clause-bytes g c = rw (← c.stream.view_is, ← c.self.view_is, ← c.as_slice.ensures.value) c.write_last.ensures.bytes
