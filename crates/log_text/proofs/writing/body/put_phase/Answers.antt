-- The words that were put, entry by entry.
use Rattle.std.proofs.Common.{arith, refl}
use Rattle.log_text.proofs.writing.body.put_phase.Goals as goal

pub returns-in-Complete : goal.returns-in-Complete
returns-in-Complete c = record {
  text = rw (c.put_two_words-in-Complete.ensures.text, c.device-in-Complete.ensures, c.in-Complete.is) refl;
  few = omega (arith, c.put_two_words-in-Complete.ensures.few);
}

pub returns-in-Schedule : goal.returns-in-Schedule
returns-in-Schedule c = record {
  text = rw (c.put_three_words.ensures.text, c.device-in-Schedule.ensures, c.in-Schedule.is) refl;
  few = omega (arith, c.put_three_words.ensures.few);
}

pub returns-in-Begin : goal.returns-in-Begin
returns-in-Begin c = record {
  text = rw (c.put_three_words-in-Begin.ensures.text, c.device-in-Begin.ensures, c.in-Begin.is) refl;
  few = omega (arith, c.put_three_words-in-Begin.ensures.few);
}

pub returns-in-End : goal.returns-in-End
returns-in-End c = record {
  text = rw (c.put_four_words.ensures.text, c.device-in-End.ensures, c.in-End.is) refl;
  few = omega (arith, c.put_four_words.ensures.few);
}

pub returns-in-Skip : goal.returns-in-Skip
returns-in-Skip c = record {
  text = rw (c.put_four_words-in-Skip.ensures.text, c.device-in-Skip.ensures, c.in-Skip.is) refl;
  few = omega (arith, c.put_four_words-in-Skip.ensures.few);
}

pub returns-in-Done : goal.returns-in-Done
returns-in-Done c = record {
  text = rw (c.put_three_words-in-Done.ensures.text, c.in-Done.is) refl;
  few = omega (arith, c.put_three_words-in-Done.ensures.few);
}
