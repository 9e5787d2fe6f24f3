-- Proof by hand of `entry_first`: the text is its front and what follows it.
use Rattle.log_text.proofs.reading.reader.LineReader.entry_first.Goals as goal

pub returns-in-Some-clause-text : goal.returns-in-Some-clause-text
returns-in-Some-clause-text c = rw c.in-Some.ensures c.made_first.ensures.text
