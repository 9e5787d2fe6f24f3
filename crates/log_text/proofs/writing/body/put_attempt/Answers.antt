-- The words that were put, entry by entry.
use Rattle.std.proofs.Common.{arith, refl}
use Rattle.log_text.proofs.writing.body.put_attempt.Goals as goal

pub returns-in-Over : goal.returns-in-Over
returns-in-Over c = record {
  text = rw (c.put_three_words-in-Over.ensures.text, c.in-Over.is) refl;
  few = omega (arith, c.put_three_words-in-Over.ensures.few);
}

pub returns-in-Freeze : goal.returns-in-Freeze
returns-in-Freeze c = record {
  text = rw (c.put_two_words.ensures.text, c.in-Freeze.is) refl;
  few = omega (arith, c.put_two_words.ensures.few);
}
